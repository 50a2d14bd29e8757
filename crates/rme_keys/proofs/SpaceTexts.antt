-- Texts that name spaces.
use Rattle.std.proofs.Common.{◌≡◌, ◌≢◌, ◌==◌, ◌&&◌, ℕ, List, [], ◌∷◌, ◌++◌, Bool, true, false, arith, drop, get_or, length, Option, Some, None, nat_le, nat_lt, refl, sym, ap, ◌∙◌, subst}
use Rattle.std.proofs.lemmas.Bool.{false≢true}
use Rattle.std.proofs.lemmas.List.{same_from_push}
use Rattle.std.specs.List.{list_all, onto_first, slice_split}
use Rattle.rme_keys.specs.Finding.{Finds, NameInTurn}
use Rattle.rme_keys.specs.Spaces.{IsNamePattern, IsPatternText, IsPrefixPattern, IsSpacesText, IsSpacesWord, IsTextOf, IsWordOf, is_space_byte, is_space_front, is_space_name}
use Rattle.rme_keys.specs.declared.spaces.SpacePattern.{SpacePattern}
use Rattle.rme_keys.specs.declared.spaces.SpacesWord.{SpacesWord}
use Rattle.rme_keys.specs.declared.spaces.SpacePattern.TheVariants.{Name, Prefix}

and_no : (b : Bool) → (b && false) ≡ false
and_no true = refl
and_no false = refl

both_no : (a b c : Bool) → c ≡ false → (a && (b && c)) ≡ false
both_no a b c isnt = ap (λ (x : Bool). a && (b && x)) isnt ∙ ap (λ (x : Bool). a && x) (and_no b) ∙ and_no a

-- a text that ends with `*` has a byte that no space's name has
star_is_none : (front : List ℕ) → list_all is_space_byte (front ++ 42 ∷ []) ≡ false
star_is_none [] = refl
star_is_none (byte ∷ front) = ap (λ (b : Bool). is_space_byte byte && b) (star_is_none front) ∙ and_no (is_space_byte byte)

star_names_none : (text front : List ℕ) → text ≡ front ++ 42 ∷ [] → is_space_name text ≡ true → ⊥
star_names_none text front ends named =
    let none = ap (list_all is_space_byte) ends ∙ star_is_none front in
    false≢true (sym (both_no (nat_lt 0 (length text)) (nat_le (length text) 64) (list_all is_space_byte text) none) ∙ named)

from_no_prefix : (text front : List ℕ) → text ≡ front ++ 42 ∷ []
    → ((pattern : SpacePattern) → IsPrefixPattern front pattern → ⊥) → (pattern : SpacePattern)
    → IsPatternText text pattern → ⊥
from_no_prefix text front ends none (Name only) named = star_names_none text front ends named.0
from_no_prefix text front ends none (Prefix other) named =
    let same = (same_from_push other.items front 42 42 (sym named.1 ∙ ends)).0 in none (Prefix other) (ap is_space_front (sym same) ∙ named.0, same)

from_one_prefix : (text front : List ℕ) → text ≡ front ++ 42 ∷ [] → (pattern : SpacePattern)
    → IsPrefixPattern front pattern → IsPatternText text pattern
from_one_prefix text front ends (Name only) is = absurd is
from_one_prefix text front ends (Prefix other) is = (ap is_space_front is.1 ∙ is.0, ends ∙ ap (λ (xs : List ℕ). xs ++ 42 ∷ []) (sym is.1))

pub from_prefix : (text front : List ℕ) (found : Option SpacePattern) → text ≡ front ++ 42 ∷ []
    → Finds (IsPrefixPattern front) found → Finds (IsPatternText text) found
from_prefix text front None ends finds = from_no_prefix text front ends finds
from_prefix text front (Some pattern) ends finds = from_one_prefix text front ends pattern finds

from_no_name : (text : List ℕ) → ((front : List ℕ) → text ≢ front ++ 42 ∷ [])
    → ((pattern : SpacePattern) → IsNamePattern text pattern → ⊥) → (pattern : SpacePattern)
    → IsPatternText text pattern → ⊥
from_no_name text no_star none (Name only) named = none (Name only) named
from_no_name text no_star none (Prefix other) named = no_star other.items named.1

from_one_name : (text : List ℕ) (pattern : SpacePattern) → IsNamePattern text pattern → IsPatternText text pattern
from_one_name text (Name only) is = is
from_one_name text (Prefix other) is = absurd is

pub from_name : (text : List ℕ) (found : Option SpacePattern) → ((front : List ℕ) → text ≢ front ++ 42 ∷ [])
    → Finds (IsNamePattern text) found → Finds (IsPatternText text) found
from_name text None no_star finds = from_no_name text no_star finds
from_name text (Some pattern) no_star finds = from_one_name text pattern finds

pub same_pieces : (text : List ℕ) (texts : List (List ℕ)) (found : Option (List SpacePattern))
    → texts ≡ slice_split (λ byte. byte == 44) text → Finds (NameInTurn IsPatternText texts) found
    → Finds (IsSpacesText text) found
same_pieces text texts found cut = subst (λ (pieces : List (List ℕ)). Finds (NameInTurn IsPatternText pieces) found) cut

-- no pattern has a text that is refused
pub no_prefix : (text : List ℕ) → is_space_front text ≡ false → (pattern : SpacePattern) → IsPrefixPattern text pattern
    → ⊥
no_prefix text isnt (Name only) named = named
no_prefix text isnt (Prefix front) named = false≢true (sym isnt ∙ named.0)

pub no_name : (text : List ℕ) → is_space_name text ≡ false → (pattern : SpacePattern) → IsNamePattern text pattern → ⊥
no_name text isnt (Name only) named = false≢true (sym isnt ∙ named.0)
no_name text isnt (Prefix front) named = named

-- ---- the word of a key's spaces

front_no : (byte : ℕ) (bytes : List ℕ) → is_space_byte byte ≡ false → is_space_front (byte ∷ bytes) ≡ false
front_no byte bytes isnt =
    ap (λ (b : Bool). nat_le (length (byte ∷ bytes)) 64 && (b && list_all is_space_byte bytes)) isnt ∙ and_no (nat_le (length (byte ∷ bytes)) 64)

plus_no_front : (text front : List ℕ) → is_space_front front ≡ true → 43 ∷ text ≡ front ++ 42 ∷ [] → ⊥
plus_no_front text [] named is = let head = ap (λ (xs : List ℕ). get_or xs 0 0) is in omega (arith, head)
plus_no_front text (byte ∷ front) named is =
    let head = ap (λ (xs : List ℕ). get_or xs 0 0) is in
    false≢true (sym (front_no byte front (ap is_space_byte (sym head))) ∙ named)

plus_no_pattern : (text : List ℕ) (pattern : SpacePattern) → IsPatternText (43 ∷ text) pattern → ⊥
plus_no_pattern text (Name only) named =
    false≢true (sym (both_no (nat_lt 0 (length (43 ∷ text))) (nat_le (length (43 ∷ text)) 64) (list_all is_space_byte (43 ∷ text)) refl) ∙ named.0)
plus_no_pattern text (Prefix front) named = plus_no_front text front.items named.0 named.1

plus_no_first : (pieces : List (List ℕ)) (patterns : List SpacePattern)
    → NameInTurn IsPatternText (onto_first 43 pieces) patterns → ⊥
plus_no_first [] [] named = named
plus_no_first [] (pattern ∷ patterns) named = plus_no_pattern [] pattern named.0
plus_no_first (piece ∷ pieces) [] named = named
plus_no_first (piece ∷ pieces) (pattern ∷ patterns) named = plus_no_pattern piece pattern named.0

plus_no_text : (word rest : List ℕ) (patterns : List SpacePattern) → word ≡ 43 ∷ rest → IsSpacesText word patterns → ⊥
plus_no_text word rest patterns is named =
    plus_no_first (slice_split (λ byte. byte == 44) rest) patterns (subst (λ (text : List ℕ). IsSpacesText text patterns) is named)

plus_no_other : (word rest : List ℕ) (may_create : Bool) (said : SpacesWord) → said.may_create ≡ may_create
    → word ≡ 43 ∷ rest → (IsTextOf true rest said → ⊥) → IsSpacesWord word may_create said.patterns.items → ⊥
plus_no_other word rest true said may is none named =
    let same = ap (λ (xs : List ℕ). drop 1 xs) (sym named.1 ∙ is) in
    none (may, subst (λ (text : List ℕ). IsSpacesText text said.patterns.items) same named.2)
plus_no_other word rest false said may is none named = plus_no_text word rest said.patterns.items is named

pub from_plus : (word rest : List ℕ) (found : Option SpacesWord) → word ≡ 43 ∷ rest → Finds (IsTextOf true rest) found
    → Finds (IsWordOf word) found
from_plus word rest None is finds = λ said named. plus_no_other word rest said.may_create said refl is (finds said) named
from_plus word rest (Some said) is finds =
    subst (λ (may : Bool). IsSpacesWord word may said.patterns.items) (sym finds.0) (rest, is, finds.1)

no_plus_no_other : (word : List ℕ) (may_create : Bool) (said : SpacesWord) → said.may_create ≡ may_create
    → ((rest : List ℕ) → word ≢ 43 ∷ rest) → (IsTextOf false word said → ⊥)
    → IsSpacesWord word may_create said.patterns.items → ⊥
no_plus_no_other word true said may no_plus none named = no_plus named.0 named.1
no_plus_no_other word false said may no_plus none named = none (may, named)

pub from_no_plus : (word : List ℕ) (found : Option SpacesWord) → ((rest : List ℕ) → word ≢ 43 ∷ rest)
    → Finds (IsTextOf false word) found → Finds (IsWordOf word) found
from_no_plus word None no_plus finds = λ said named. no_plus_no_other word said.may_create said refl no_plus (finds said) named
from_no_plus word (Some said) no_plus finds =
    subst (λ (may : Bool). IsSpacesWord word may said.patterns.items) (sym finds.0) finds.1

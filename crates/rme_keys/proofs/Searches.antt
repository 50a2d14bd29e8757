-- What a loop over keys has found.
use Rattle.std.proofs.Common.{◌≡◌, ◌≢◌, ℕ, ◌+◌, ◌<◌, ◌≤◌, ◌↔◌, List, [], ◌∷◌, length, get_or, Option, Some, None, sym, ap, subst, ◌∙◌, below_more, arith, Bool, true, false, IsTrue, MatchBool, refl}
use Rattle.std.proofs.lemmas.Bool.{false≢true}
use Rattle.std.proofs.lemmas.List.{get_or_default, get_or_read}
use Rattle.std.specs.List.{Any, AllWithin, Contains, HoldsAt}
use Rattle.rme_keys.specs.Allowing.{FindsKey, digest_of}
use Rattle.rme_keys.specs.declared.key.Key.{Key}

-- A key that has the digest was found, and none only if no key below an index has it.
abbrev pub FindsBelow : List Key → List ℕ → ℕ → Option Key → Type 0
FindsBelow keys digest i None = (k : ℕ) (d : Key) → k < i → digest_of (get_or keys k d) ≢ digest
FindsBelow keys digest i (Some key) = Contains keys key × (digest_of key ≡ digest)

pub found_none : (keys : List Key) (digest : List ℕ) → FindsBelow keys digest 0 None
found_none keys digest = λ k d below. absurd (omega arith)

pub found_here : (keys : List Key) (digest : List ℕ) (i : ℕ) (key : Key) → i < length keys → key ≡ get_or keys i key
    → digest_of key ≡ digest → FindsBelow keys digest (i + 1) (Some key)
found_here keys digest i key within is same = ((i, within, sym is), same)

pub found_past : (keys : List Key) (digest : List ℕ) (i : ℕ) (key : Key) (found : Option Key) → i < length keys
    → key ≡ get_or keys i key → digest_of key ≢ digest → FindsBelow keys digest i found
    → FindsBelow keys digest (i + 1) found
found_past keys digest i key None within is other so = λ k d below.
    below_more (λ n. digest_of (get_or keys n d) ≢ digest) i (λ n lower. so n d lower) (λ same. other (ap digest_of (get_or_read keys i key within is d) ∙ same)) k below
found_past keys digest i key (Some it) within is other so = so

pub found_all : (keys : List Key) (digest : List ℕ) (i : ℕ) (found : Option Key) → length keys ≤ i
    → FindsBelow keys digest i found → FindsKey keys digest found
found_all keys digest i None past so = λ k d within. so k d (omega arith)
found_all keys digest i (Some key) past so = so

-- A test of each element tells whether one passes.
pub any_by_cases : {A : Type 0} (P : A → Type 0) (xs : List A) (r : Bool)
    → MatchBool r ((k : ℕ) × (k < length xs) × HoldsAt P xs k) (AllWithin (λ x. P x → ⊥) xs 0 (length xs))
    → IsTrue r ↔ Any P xs
any_by_cases P [] true cases = absurd (omega (arith, cases.1))
any_by_cases P (x ∷ xs) true cases = (
  λ _. (cases.0, get_or (x ∷ xs) cases.0 x, cases.1, get_or_default (x ∷ xs) cases.0 (get_or (x ∷ xs) cases.0 x) x cases.1, cases.2 x),
  λ _. refl,
)
any_by_cases P xs false cases = (
  λ never. absurd (false≢true never),
  λ any. absurd (cases any.0 any.1 (omega arith) any.2 (subst P (sym any.3) any.4)),
)

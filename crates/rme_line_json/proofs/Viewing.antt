-- A value, level by level, and the members of an object prepended to others.
use Rattle.std.proofs.Common.{◌≡◌, ℕ, zero, suc, ◌+◌, ◌<◌, ◌≤◌, List, [], ◌∷◌, ◌++◌, length, get_or, take, drop, slice_set, Option, Some, None, Vec, Global, Ordering, Less, Equal, Greater, nat_cmp, is_eq, Bool, true, false, bytes_eq, true≢false, string_bytes, Bor, refl, sym, ap, ◌∙◌, arith, rules}
use Rattle.std.proofs.Math.Seq.{drop-cons}
use Rattle.std.proofs.lemmas.List.{take_more, take_all, drop_all}
use Rattle.std.proofs.lemmas.Slice.Eq.{bytes_eq-Decides}
use Rattle.std.proofs.lemmas.Map.Text.{is_eq-slice_cmp}
use Rattle.std.specs.Cmp.Lexicographic.{slice_cmp}
use Rattle.std.specs.List.{insert}
use Rattle.std.specs.Ordering.{match_ordering}
use Rattle.serde_json.specs.Data.{Data, array, object, Members, no_members, member, put}
use Rattle.serde_json.specs.Events.{items_len, members_len}
use Rattle.serde_json.specs.Find.{get_member, get_item}
use Rattle.serde_json.proofs.Views as views
use Rattle.serde_json.specs.View as kit
use Rattle.rme_line_json.specs.View.{value_view, items_view, members_view}
use Rattle.rme_line_json.specs.declared.value.Value.{Value, Array, Object, the_lemmas}

abbrev pub Entry : Type 0
Entry = Bor (List ℕ) × Value

pub view-Array : (v : Vec Value Global) → value_view (Array v) ≡ array (items_view v.items)
view-Array v = search (rules, the_lemmas)

pub view-Object : (v : Vec Entry Global) → value_view (Object v) ≡ object (members_view v.items)
view-Object v = search (rules, the_lemmas)

pub items_as_many : (vs : List Value) → items_len (items_view vs) ≡ length vs
items_as_many [] = refl
items_as_many (v ∷ vs) = ap suc (items_as_many vs)

pub members_as_many : (ms : List Entry) → members_len (members_view ms) ≡ length ms
members_as_many [] = refl
members_as_many (m ∷ ms) = ap suc (members_as_many ms)

pub item_within : (vs : List Value) (i : ℕ) (d : Value) → i < length vs → Some (value_view (get_or vs i d)) ≡ get_item i (items_view vs)
item_within [] i d h = absurd (omega arith)
item_within (v ∷ vs) zero d h = refl
item_within (v ∷ vs) (suc i) d h = item_within vs i d (omega arith)

pub item_past : (vs : List Value) (i : ℕ) → length vs ≤ i → None ≡ get_item i (items_view vs)
item_past [] i h = refl
item_past (v ∷ vs) zero h = absurd (omega arith)
item_past (v ∷ vs) (suc i) h = item_past vs i (omega arith)

-- Members prepended to others.
abbrev pub members_before : List Entry → Members → Members
members_before [] rest = rest
members_before (m ∷ ms) rest = member m.0.now (value_view m.1) (members_before ms rest)

pub before_some : (ms more : List Entry) → members_before ms (members_view more) ≡ members_view (ms ++ more)
before_some [] more = refl
before_some (m ∷ ms) more = ap (member m.0.now (value_view m.1)) (before_some ms more)

pub before_last : (ms : List Entry) (last : Entry) (rest : Members) → members_before (ms ++ last ∷ []) rest ≡ members_before ms (member last.0.now (value_view last.1) rest)
before_last [] last rest = refl
before_last (m ∷ ms) last rest = ap (member m.0.now (value_view m.1)) (before_last ms last rest)

-- A member appended to others, in our objects and in those of serde_json.
abbrev pub followed : Members → List ℕ → Data → Members
followed no_members key datum = member key datum no_members
followed (member k d ms) key datum = member k d (followed ms key datum)

ours_followed : (ms : List Entry) (m : Entry) → members_view (ms ++ m ∷ []) ≡ followed (members_view ms) m.0.now (value_view m.1)
ours_followed [] m = refl
ours_followed (n ∷ ms) m = ap (member n.0.now (value_view n.1)) (ours_followed ms m)

theirs_followed : (es : List views.Entry) (e : views.Entry) → kit.members_view (es ++ e ∷ []) ≡ followed (kit.members_view es) (string_bytes e.0) (kit.view e.1)
theirs_followed [] e = refl
theirs_followed (n ∷ es) e = ap (member (string_bytes n.0) (kit.view n.1)) (theirs_followed es e)

pub alike : (ms : List Entry) (m : Entry) (es : List views.Entry) (e : views.Entry) → members_view ms ≡ kit.members_view es → m.0.now ≡ string_bytes e.0 → value_view m.1 ≡ kit.view e.1
    → members_view (ms ++ m ∷ []) ≡ kit.members_view (es ++ e ∷ [])
alike ms m es e before key value =
    ours_followed ms m ∙ ap (λ b. followed b m.0.now (value_view m.1)) before ∙ ap (λ k. followed (kit.members_view es) k (value_view m.1)) key
    ∙ ap (followed (kit.members_view es) (string_bytes e.0)) value ∙ sym (theirs_followed es e)

-- The member here, and the look-up in the later ones if it has another name.
found_at : (o : Ordering) (is : Bool) (d e : Option Data) → is_eq o ≡ is → is ≡ true → match_ordering o d e d ≡ e
found_at Less is d e same it = absurd (true≢false (sym (same ∙ it)))
found_at Equal is d e same it = refl
found_at Greater is d e same it = absurd (true≢false (sym (same ∙ it)))

passed_at : (o : Ordering) (is : Bool) (d e : Option Data) → is_eq o ≡ is → is ≡ false → match_ordering o d e d ≡ d
passed_at Less is d e same other = refl
passed_at Equal is d e same other = absurd (true≢false (same ∙ other))
passed_at Greater is d e same other = refl

pub found_here : (name : List ℕ) (m : Entry) (rest : List Entry) → bytes_eq name m.0.now ≡ true → get_member name (members_view (m ∷ rest)) ≡ Some (value_view m.1)
found_here name m rest is = found_at (slice_cmp nat_cmp name m.0.now) (bytes_eq name m.0.now) _ _ (is_eq-slice_cmp name m.0.now) is

pub found_later : (name : List ℕ) (m : Entry) (rest : List Entry) → bytes_eq name m.0.now ≡ false → get_member name (members_view (m ∷ rest)) ≡ get_member name (members_view rest)
found_later name m rest other = passed_at (slice_cmp nat_cmp name m.0.now) (bytes_eq name m.0.now) _ _ (is_eq-slice_cmp name m.0.now) other

set_between : {X : Type 0} (xs : List X) (i : ℕ) (y : X) → i < length xs → slice_set xs i y ≡ take i xs ++ y ∷ drop (suc i) xs
set_between [] i y h = absurd (omega arith)
set_between (x ∷ xs) zero y h = refl
set_between (x ∷ xs) (suc i) y h = ap (λ l. x ∷ l) (set_between xs i y (omega arith))

set_here : {X : Type 0} (xs : List X) (i : ℕ) (y : X) → i < length xs → slice_set xs i y ≡ take i xs ++ y ∷ drop (i + 1) xs
set_here xs i y within =
    let next : suc i ≡ i + 1 = omega arith in
    set_between xs i y within ∙ ap (λ n. take i xs ++ y ∷ drop n xs) next

pub here : (ms : List Entry) (i : ℕ) (m : Entry) → i < length ms → m ≡ get_or ms i m → drop i ms ≡ m ∷ drop (i + 1) ms
here ms i m within is =
    let next : suc i ≡ i + 1 = omega arith in
    drop-cons ms i m within ∙ ap (λ e. e ∷ drop (suc i) ms) (sym is) ∙ ap (λ n. m ∷ drop n ms) next

-- A key belongs after the first members, up to this index.
abbrev pub IsBehind : List ℕ → List Entry → ℕ → Type 0
IsBehind key ms i = (datum : Data) → put key datum (members_view ms) ≡ members_before (take i ms) (put key datum (members_view (drop i ms)))

module _ (key : Bor (List ℕ)) (value : Value) (ms : List Entry) (i : ℕ) (behind : IsBehind key.now ms i) where
  module _ (m : Entry) (within : i < length ms) (is : m ≡ get_or ms i m) where
    at_first : (datum : Data) → put key.now datum (members_view ms) ≡ members_before (take i ms) (put key.now datum (members_view (m ∷ drop (i + 1) ms)))
    at_first datum = behind datum ∙ ap (λ es. members_before (take i ms) (put key.now datum (members_view es))) (here ms i m within is)

    pub one_further : slice_cmp nat_cmp key.now m.0.now ≡ Greater → IsBehind key.now ms (i + 1)
    one_further above datum =
        let more : take (i + 1) ms ≡ take i ms ++ m ∷ [] = take_more ms i m within ∙ ap (λ e. take i ms ++ e ∷ []) (sym is) in
        let rest = put key.now datum (members_view (drop (i + 1) ms)) in
        at_first datum ∙ ap (members_before (take i ms)) (rw above refl) ∙ sym (before_last (take i ms) m rest) ∙ ap (λ es. members_before es rest) (sym more)

    pub put_here : slice_cmp nat_cmp key.now m.0.now ≡ Equal → members_view (slice_set ms i (key, value)) ≡ put key.now (value_view value) (members_view ms)
    put_here equal =
        let same : key.now ≡ m.0.now = (bytes_eq-Decides key.now m.0.now).0 (sym (is_eq-slice_cmp key.now m.0.now) ∙ ap is_eq equal) in
        let after = members_view (drop (i + 1) ms) in
        let there : put key.now (value_view value) (members_view (m ∷ drop (i + 1) ms)) ≡ member key.now (value_view value) after = rw equal (ap (λ k. member k (value_view value) after) (sym same)) in
        ap members_view (set_here ms i (key, value) within) ∙ sym (before_some (take i ms) ((key, value) ∷ drop (i + 1) ms))
        ∙ ap (members_before (take i ms)) (sym there) ∙ sym (at_first (value_view value))

    pub put_before : slice_cmp nat_cmp key.now m.0.now ≡ Less → members_view (insert ms i (key, value)) ≡ put key.now (value_view value) (members_view ms)
    put_before less =
        let there : put key.now (value_view value) (members_view (m ∷ drop (i + 1) ms)) ≡ members_view ((key, value) ∷ m ∷ drop (i + 1) ms) = rw less refl in
        ap (λ es. members_view (take i ms ++ (key, value) ∷ es)) (here ms i m within is) ∙ sym (before_some (take i ms) ((key, value) ∷ m ∷ drop (i + 1) ms))
        ∙ ap (members_before (take i ms)) (sym there) ∙ sym (at_first (value_view value))

  pub put_last : length ms ≤ i → members_view (ms ++ (key, value) ∷ []) ≡ put key.now (value_view value) (members_view ms)
  put_last all =
      let none : drop i ms ≡ [] = drop_all i ms all in
      let whole : take i ms ≡ ms = take_all i ms all in
      sym (before_some ms ((key, value) ∷ [])) ∙ ap (λ es. members_before es (put key.now (value_view value) no_members)) (sym whole)
      ∙ ap (λ es. members_before (take i ms) (put key.now (value_view value) (members_view es))) (sym none) ∙ sym (behind (value_view value))

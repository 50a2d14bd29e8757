-- Where a comma behind a number stands first, and where the mark of a last line.
use Rattle.std.proofs.Common.{◌≡◌, ℕ, zero, suc, ◌+◌, ◌-◌, ◌%◌, ◌^◌, ◌<◌, ◌≤◌, List, [], ◌∷◌, ◌++◌, Option, Some, None, length, get_or, codes, decimal, refl, sym, ap, subst, ◌∙◌, arith, inl, inr}
use Rattle.std.proofs.lemmas.Bool.{cases_lt, cases_order, eqb-true, eq-eqb}
use Rattle.std.proofs.lemmas.List.{get_or_append_left, get_or-append-add, length-append, append_assoc}
use Rattle.std.proofs.Math.Seq.{get_or-append_seam}
use Rattle.std.proofs.lemmas.Fmt.{decimal_by_steps}
use Rattle.memchr.specs.Find.{FindsNeedle, IsFirst, IsFirstByte, NoneBefore, OccursAt, Passes, is_byte}
use Rattle.rme_durable_writes.specs.Writes.{AreWriteLines, sum_mark}

-- There is one first place.
pub first_same : (P : ℕ → Type 0) (i j : ℕ) (one other : Option ℕ) → IsFirst P i j one → IsFirst P i j other → one ≡ other
first_same P i j None None a b = refl
first_same P i j None (Some k) a b = absurd (a k b.0.low b.0.high b.1)
first_same P i j (Some k) None a b = absurd (b k a.0.low a.0.high a.1)
first_same P i j (Some k) (Some l) a b =
    elim (cases_order k l) [
      | inl same ↦ ap (λ (n : ℕ). Some n) same
      | inr (inl before) ↦ absurd (b.0.before k a.0.low before a.1)
      | inr (inr after) ↦ absurd (a.0.before l b.0.low after b.1)
    ]

one_digit : (digit place : ℕ) → place < 1 → 48 ≤ get_or ((48 + digit) ∷ []) place 0
one_digit digit zero below = omega arith
one_digit digit (suc place) below = omega (arith, below)

one_more_digit : (digits : List ℕ) (digit : ℕ) → ((place : ℕ) → place < length digits → 48 ≤ get_or digits place 0) → (place : ℕ) → place < length (digits ++ (48 + digit) ∷ []) → 48 ≤ get_or (digits ++ (48 + digit) ∷ []) place 0
one_more_digit digits digit all place below =
    let long = length-append digits ((48 + digit) ∷ []) in
    elim (cases_lt place (length digits)) [
      | inl inside ↦ rw (get_or_append_left digits ((48 + digit) ∷ []) 0 place inside) (all place inside)
      | inr behind ↦
          let last : place ≡ length digits = omega (arith, below, long, behind) in
          let is : get_or (digits ++ (48 + digit) ∷ []) place 0 ≡ 48 + digit =
          ap (λ (n : ℕ). get_or (digits ++ (48 + digit) ∷ []) n 0) last ∙ get_or-append_seam digits (48 + digit) [] 0 in
          omega (arith, is)
    ]

-- Each digit of a number is at least `0`.
pub digits_from_zero : (n : ℕ) → n < 2 ^ 64 → (place : ℕ) → place < length (decimal n) → 48 ≤ get_or (decimal n) place 0
digits_from_zero =
    decimal_by_steps (λ (_ : ℕ) (digits : List ℕ). (place : ℕ) → place < length digits → 48 ≤ get_or digits place 0) (λ n low. one_digit n) (λ n digits ten all. one_more_digit digits (n % 10) all)

comma_first : (n : ℕ) (rest : List ℕ) → n < 2 ^ 64 → IsFirstByte (is_byte 44) (decimal n ++ 44 ∷ rest) (Some (length (decimal n)))
comma_first n rest small =
    let digits = decimal n in
    let long = length-append digits (44 ∷ rest) in
    let none : NoneBefore (Passes (is_byte 44) (digits ++ 44 ∷ rest)) 0 (length (digits ++ 44 ∷ rest)) (length digits) = record {
      low = omega arith;
      high = omega (arith, long);
      before = λ k low high passes.
          let is : get_or (digits ++ 44 ∷ rest) k 0 ≡ 44 = eqb-true _ _ passes in
          let same : get_or (digits ++ 44 ∷ rest) k 0 ≡ get_or digits k 0 = get_or_append_left digits (44 ∷ rest) 0 k high in
          omega (arith, is, same, digits_from_zero n small k high);
    } in (none, eq-eqb _ _ (get_or-append_seam digits 44 rest 0))

pub comma_behind : (n : ℕ) (rest : List ℕ) (found : Option ℕ) → n < 2 ^ 64 → IsFirstByte (is_byte 44) (decimal n ++ 44 ∷ rest) found → found ≡ Some (length (decimal n))
comma_behind n rest found small is = first_same _ _ _ found (Some (length (decimal n))) is (comma_first n rest small)

-- ---- the mark

no_newline : (place : ℕ) → place < 8 → get_or (codes "{\"kept\":") place 0 ≡ 10 → ⊥
no_newline zero below is = omega (arith, is)
no_newline (suc zero) below is = omega (arith, is)
no_newline (suc (suc zero)) below is = omega (arith, is)
no_newline (suc (suc (suc zero))) below is = omega (arith, is)
no_newline (suc (suc (suc (suc zero)))) below is = omega (arith, is)
no_newline (suc (suc (suc (suc (suc zero))))) below is = omega (arith, is)
no_newline (suc (suc (suc (suc (suc (suc zero)))))) below is = omega (arith, is)
no_newline (suc (suc (suc (suc (suc (suc (suc zero))))))) below is = omega (arith, is)
no_newline (suc (suc (suc (suc (suc (suc (suc (suc place)))))))) below is = omega (arith, below)

later_no_newline : (place : ℕ) → 0 < place → place < 9 → get_or sum_mark place 0 ≡ 10 → ⊥
later_no_newline zero some below is = omega (arith, some)
later_no_newline (suc place) some below is = no_newline place (omega (arith, below)) is

module _ (front more : List ℕ) where
  abbrev text : List ℕ
  text = front ++ (sum_mark ++ more)

  mark_there : OccursAt text sum_mark (length front)
  mark_there =
      let long = length-append front (sum_mark ++ more) in
      let mark_long = length-append sum_mark more in record {
        fits = omega (arith, long, mark_long);
        reads = λ j below. get_or-append-add front (sum_mark ++ more) j 0 ∙ get_or_append_left sum_mark more 0 j below;
      }

  none_before : ((at : ℕ) → OccursAt (front ++ 10 ∷ []) sum_mark at → ⊥) → (k : ℕ) → 0 ≤ k → k < length front → OccursAt text sum_mark k → ⊥
  none_before plain k low high occurs =
      let long = length-append front (10 ∷ []) in
      elim (cases_lt (length front) (k + 8)) [
        | inl over ↦
            let j = length front - k in
            let reads : get_or text (k + j) 0 ≡ get_or sum_mark j 0 = occurs.reads j (omega (arith, over)) in
            let at : k + j ≡ length front = omega (arith, high) in
            let newline : get_or text (length front) 0 ≡ 10 = get_or-append_seam front 10 (codes "{\"kept\":" ++ more) 0 in
            later_no_newline j (omega (arith, high)) (omega (arith, over)) (sym reads ∙ ap (λ (n : ℕ). get_or text n 0) at ∙ newline)
        | inr within ↦
            let same : (j : ℕ) → j < length sum_mark → get_or (front ++ 10 ∷ []) (k + j) 0 ≡ get_or sum_mark j 0 =
            λ j below.
            let inside : k + j < length (front ++ 10 ∷ []) = omega (arith, long, within, below) in
            let split : text ≡ (front ++ 10 ∷ []) ++ (codes "{\"kept\":" ++ more) = sym (append_assoc front (10 ∷ []) (codes "{\"kept\":" ++ more)) in
            sym (get_or_append_left (front ++ 10 ∷ []) (codes "{\"kept\":" ++ more) 0 (k + j) inside) ∙ ap (λ (bytes : List ℕ). get_or bytes (k + j) 0) (sym split) ∙ occurs.reads j below in
            plain k (record { fits = omega (arith, long, within); reads = same })
      ]

  mark_first : ((at : ℕ) → OccursAt (front ++ 10 ∷ []) sum_mark at → ⊥) → FindsNeedle text sum_mark 0 (Some (length front))
  mark_first plain =
      let there = mark_there in (
        record { low = omega arith; high = omega (arith, there.fits); before = none_before plain },
        there,
      )

-- Behind the lines of a write the mark of its last line stands first.
pub mark_behind : (lines tail more : List ℕ) (found : Option ℕ) (are : AreWriteLines lines) → tail ≡ codes "{\"kept\":" ++ more → FindsNeedle (lines ++ tail) sum_mark 0 found → found ≡ Some (length are.front)
mark_behind lines tail more found are begins finds =
    let whole : lines ++ tail ≡ are.front ++ (sum_mark ++ more) =
    ap (λ (bytes : List ℕ). bytes ++ tail) are.whole ∙ append_assoc are.front (10 ∷ []) tail ∙ ap (λ (bytes : List ℕ). are.front ++ 10 ∷ bytes) begins in
    let F : List ℕ → Type 0 = λ (bytes : List ℕ). FindsNeedle bytes sum_mark 0 found in
    let plain : (at : ℕ) → OccursAt (are.front ++ 10 ∷ []) sum_mark at → ⊥ = subst (λ (bytes : List ℕ). (at : ℕ) → OccursAt bytes sum_mark at → ⊥) are.whole are.plain in
    first_same _ _ _ found (Some (length are.front)) (subst F whole finds) (mark_first are.front more plain)

-- The laws of `eval`: it preserves the length of a row and the cells that the script does not name, and depends only on
-- the named cells. None of them requires that the script fit the row.
use Rattle.std.proofs.Common.{◌≡◌, ◌≢◌, ℕ, ◌+◌, ◌%◌, ◌^◌, true, false, ◌==◌, List, [], ◌∷◌, length, get_or, set, refl, sym, ap, ◌∙◌, inl, inr, arith}
use Rattle.std.proofs.lemmas.Bool.{cases_eq, cases_lt, eq-eqb, eqb-false, or_parts, or_left, or_right}
use Rattle.std.proofs.lemmas.List.{length-set, get_or-set_same, get_or-set_other, set_past}
use Rattle.rme_script.specs.declared.op.Op.{Op}
use Rattle.rme_script.specs.declared.op.Op.TheVariants.{Get, Set, Add, Copy, Swap}
use Rattle.rme_script.specs.Cells.{op_names_cell, ops_name_cell}
use Rattle.rme_script.specs.Eval.{op_row, op_value, last_named, run_ops_from, eval_of}
use Rattle.rme_script.specs.RowAgreement.{RowsAgree, RowsAgreeOnNamed}

-- ---- the length of the row

pub op_row_length : (o : Op) (r : List ℕ) → length (op_row o r) ≡ length r
op_row_length (Get c) r = refl
op_row_length (Set c v) r = length-set r c v
op_row_length (Add c v) r = length-set r c ((get_or r c 0 + v) % 2 ^ 64)
op_row_length (Copy a b) r = length-set r b (get_or r a 0)
op_row_length (Swap a b) r = length-set (set r a (get_or r b 0)) b (get_or r a 0) ∙ length-set r a (get_or r b 0)

run_length : (ops : List Op) (r : List ℕ) (x : ℕ) → length ((run_ops_from record { row = r; reply = x } ops).row) ≡ length r
unfolding run_ops_from
run_length [] r x = refl
run_length (o ∷ os) r x = run_length os (op_row o r) (op_value o r) ∙ op_row_length o r

pub eval_length : (ops : List Op) (r : List ℕ) → length ((eval_of ops r).row) ≡ length r
eval_length ops r = run_length ops r 0

-- ---- the cells that are not named

set_unnamed : (r : List ℕ) (i v c : ℕ) → (i == c) ≡ false → get_or (set r i v) c 0 ≡ get_or r c 0
set_unnamed r i v c h = let other : c ≢ i = λ e. eqb-false i c h (sym e) in get_or-set_other r i c v 0 other

op_row_unnamed : (o : Op) (r : List ℕ) (c : ℕ) → op_names_cell o c ≡ false → get_or (op_row o r) c 0 ≡ get_or r c 0
op_row_unnamed (Get a) r c h = refl
op_row_unnamed (Set a v) r c h = set_unnamed r a v c h
op_row_unnamed (Add a v) r c h = set_unnamed r a ((get_or r a 0 + v) % 2 ^ 64) c h
op_row_unnamed (Copy a b) r c h = set_unnamed r b (get_or r a 0) c ((or_parts (a == c) (b == c) h).1)
op_row_unnamed (Swap a b) r c h =
    let both = or_parts (a == c) (b == c) h in
    set_unnamed (set r a (get_or r b 0)) b (get_or r a 0) c both.1 ∙ set_unnamed r a (get_or r b 0) c both.0

run_unnamed : (ops : List Op) (r : List ℕ) (x c : ℕ) → ops_name_cell ops c ≡ false → get_or ((run_ops_from record { row = r; reply = x } ops).row) c 0 ≡ get_or r c 0
unfolding run_ops_from
run_unnamed [] r x c h = refl
run_unnamed (o ∷ os) r x c h =
    let both = or_parts (op_names_cell o c) (ops_name_cell os c) h in
    run_unnamed os (op_row o r) (op_value o r) c both.1 ∙ op_row_unnamed o r c both.0

pub eval_unnamed : (ops : List Op) (r : List ℕ) (c : ℕ) → ops_name_cell ops c ≡ false → get_or ((eval_of ops r).row) c 0 ≡ get_or r c 0
eval_unnamed ops r c h = run_unnamed ops r 0 c h

-- ---- the cells that are named

set_agree : (P : ℕ → Type 0) (r s : List ℕ) (i v w : ℕ) → v ≡ w → RowsAgree P r s → RowsAgree P (set r i v) (set s i w)
set_agree P r s i v w e a = record {
  long = length-set r i v ∙ a.long ∙ sym (length-set s i w);
  at = λ (c : ℕ) (p : P c). elim (cases_eq c i) [
    | inl q ↦ elim (cases_lt i (length r)) [
      | inl l ↦ let same : get_or (set r i v) i 0 ≡ get_or (set s i w) i 0 = get_or-set_same r i v 0 l ∙ e ∙ sym (get_or-set_same s i w 0 (omega (arith, l, a.long))) in
          rw q same
      | inr g ↦ rw (set_past r i v g, set_past s i w (omega (arith, g, a.long))) (a.at c p)
    ]
    | inr n ↦ let other : c ≢ i = n in rw (get_or-set_other r i c v 0 other, get_or-set_other s i c w 0 other) (a.at c p)
  ];
}

op_row_agree : (P : ℕ → Type 0) (o : Op) (r s : List ℕ) → ((c : ℕ) → op_names_cell o c ≡ true → P c) → RowsAgree P r s → RowsAgree P (op_row o r) (op_row o s)
op_row_agree P (Get c) r s named a = a
op_row_agree P (Set c v) r s named a = set_agree P r s c v v refl a
op_row_agree P (Add c v) r s named a =
    set_agree P r s c ((get_or r c 0 + v) % 2 ^ 64) ((get_or s c 0 + v) % 2 ^ 64)
    (ap (λ (x : ℕ). (x + v) % 2 ^ 64) (a.at c (named c (eq-eqb c c refl)))) a
op_row_agree P (Copy x y) r s named a =
    set_agree P r s y (get_or r x 0) (get_or s x 0) (a.at x (named x (or_left (x == x) (y == x) (eq-eqb x x refl)))) a
op_row_agree P (Swap x y) r s named a =
    let first = a.at x (named x (or_left (x == x) (y == x) (eq-eqb x x refl))) in
    let second = a.at y (named y (or_right (x == y) (y == y) (eq-eqb y y refl))) in
    set_agree P (set r x (get_or r y 0)) (set s x (get_or s y 0)) y (get_or r x 0) (get_or s x 0) first
    (set_agree P r s x (get_or r y 0) (get_or s y 0) second a)

names_last : (o : Op) → op_names_cell o (last_named o) ≡ true
names_last (Get c) = eq-eqb c c refl
names_last (Set c v) = eq-eqb c c refl
names_last (Add c v) = eq-eqb c c refl
names_last (Copy a b) = or_right (a == b) (b == b) (eq-eqb b b refl)
names_last (Swap a b) = or_right (a == b) (b == b) (eq-eqb b b refl)

op_value_agree : (P : ℕ → Type 0) (o : Op) (r s : List ℕ) → ((c : ℕ) → op_names_cell o c ≡ true → P c) → RowsAgree P r s → op_value o r ≡ op_value o s
op_value_agree P o r s named a = (op_row_agree P o r s named a).at (last_named o) (named (last_named o) (names_last o))

-- Over any set of cells that includes the named ones.
pub run_local : (P : ℕ → Type 0) (ops : List Op) (r s : List ℕ) (x y : ℕ) → x ≡ y → ((c : ℕ) → ops_name_cell ops c ≡ true → P c) → RowsAgree P r s → RowsAgree P ((run_ops_from record { row = r; reply = x } ops).row) ((run_ops_from record { row = s; reply = y } ops).row) × ((run_ops_from record { row = r; reply = x } ops).reply ≡ (run_ops_from record { row = s; reply = y } ops).reply)
unfolding run_ops_from
run_local P [] r s x y e named a = (a, e)
run_local P (o ∷ os) r s x y e named a =
    let here : (c : ℕ) → op_names_cell o c ≡ true → P c = λ c t. named c (or_left (op_names_cell o c) (ops_name_cell os c) t) in
    run_local P os (op_row o r) (op_row o s) (op_value o r) (op_value o s) (op_value_agree P o r s here a)
    (λ c t. named c (or_right (op_names_cell o c) (ops_name_cell os c) t))
    (op_row_agree P o r s here a)

pub eval_local : (ops : List Op) (r s : List ℕ) → RowsAgreeOnNamed ops r s → RowsAgreeOnNamed ops ((eval_of ops r).row) ((eval_of ops s).row) × ((eval_of ops r).reply ≡ (eval_of ops s).reply)
eval_local ops r s a = run_local (λ (c : ℕ). ops_name_cell ops c ≡ true) ops r s 0 0 refl (λ c t. t) a

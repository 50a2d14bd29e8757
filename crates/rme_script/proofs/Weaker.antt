-- A script of a small row is a script of a larger one, and names no cell outside its row.
use Rattle.std.proofs.Common.{◌≡◌, ℕ, ◌^◌, ◌<◌, ◌≤◌, true, false, ◌==◌, List, [], ◌∷◌, Ok, nat_lt, refl, sym, ◌∙◌, inl, inr, arith}
use Rattle.std.specs.List.{All, list_all}
use Rattle.std.proofs.lemmas.Bool.{false≢true, eqb-true, or_cases, lt-ltb, le-ltb, and_from, false_from_ne_true}
use Rattle.std.proofs.lemmas.List.Elements.{All-weaker, All-head, All-tail}
use Rattle.rme_words.specs.declared.shape.Shape.{Shape}
use Rattle.rme_script.specs.declared.op.Op.{Op}
use Rattle.rme_script.specs.declared.op.Op.TheVariants.{Get, Set, Add, Copy, Swap}
use Rattle.rme_script.specs.Programs.{Program}
use Rattle.rme_script.specs.Scripts.{OpIsWithin, IsScript, op_is_within, script_check}
use Rattle.rme_script.specs.Cells.{op_names_cell, ops_name_cell, IsMaskOfOps, mask_has_cell}
use Rattle.rme_script.proofs.Rising.{has_named}

-- ---- larger rows

IsWithin_weaker : (small large : ℕ) → small ≤ large → (o : Op) → OpIsWithin small o → OpIsWithin large o
IsWithin_weaker small large l (Get c) h = omega (arith, l, h)
IsWithin_weaker small large l (Set c v) h = omega (arith, l, h)
IsWithin_weaker small large l (Add c v) h = omega (arith, l, h)
IsWithin_weaker small large l (Copy a b) h = (omega (arith, l, h.0), omega (arith, l, h.1))
IsWithin_weaker small large l (Swap a b) h = (omega (arith, l, h.0), omega (arith, l, h.1))

pub IsScript_weaker : (small large : ℕ) (p : Program) → small ≤ large → IsScript small p → IsScript large p
IsScript_weaker small large p l s = record {
  few = s.few;
  counted = s.counted;
  within = All-weaker (OpIsWithin small) (OpIsWithin large) (IsWithin_weaker small large l) p.ops s.within;
}

pub IsScript_slate : (shape : Shape) (p : Program) → IsScript shape.cells p → IsScript (2 ^ 32) p
IsScript_slate shape p s = let few : shape.cells ≤ 16 = shape.counted.limits.few_cells in IsScript_weaker shape.cells (2 ^ 32) p (omega (arith, few)) s

-- ---- the answer of `check`

within_fits : (cells : ℕ) (o : Op) → OpIsWithin cells o → op_is_within cells o ≡ true
within_fits cells (Get c) h = lt-ltb c cells h
within_fits cells (Set c v) h = lt-ltb c cells h
within_fits cells (Add c v) h = lt-ltb c cells h
within_fits cells (Copy a b) h = and_from (nat_lt a cells) (nat_lt b cells) (lt-ltb a cells h.0) (lt-ltb b cells h.1)
within_fits cells (Swap a b) h = and_from (nat_lt a cells) (nat_lt b cells) (lt-ltb a cells h.0) (lt-ltb b cells h.1)

all_fit : (cells : ℕ) (ops : List Op) → All (OpIsWithin cells) ops → list_all (op_is_within cells) ops ≡ true
all_fit cells [] h = refl
all_fit cells (o ∷ os) h =
    and_from (op_is_within cells o) (list_all (op_is_within cells) os) (within_fits cells o (All-head (OpIsWithin cells) o os h)) (all_fit cells os (All-tail (OpIsWithin cells) o os h))

pub script_checks : (cells : ℕ) (p : Program) → IsScript cells p → script_check cells p ≡ Ok tt
script_checks cells p s =
    let short : nat_lt 8 p.n ≡ false = le-ltb 8 p.n s.few in
    let good : list_all (op_is_within cells) p.ops ≡ true = all_fit cells p.ops s.within in
    rw (short, good) refl

-- ---- the cells outside the row

names_below : (cells : ℕ) (o : Op) (c : ℕ) → OpIsWithin cells o → op_names_cell o c ≡ true → c < cells
names_below cells (Get a) c h t = omega (arith, h, eqb-true a c t)
names_below cells (Set a v) c h t = omega (arith, h, eqb-true a c t)
names_below cells (Add a v) c h t = omega (arith, h, eqb-true a c t)
names_below cells (Copy a b) c h t = elim (or_cases (a == c) (b == c) t) [
  | inl q ↦ omega (arith, h.0, eqb-true a c q)
  | inr q ↦ omega (arith, h.1, eqb-true b c q)
]
names_below cells (Swap a b) c h t = elim (or_cases (a == c) (b == c) t) [
  | inl q ↦ omega (arith, h.0, eqb-true a c q)
  | inr q ↦ omega (arith, h.1, eqb-true b c q)
]

pub named_below : (cells : ℕ) (ops : List Op) (c : ℕ) → All (OpIsWithin cells) ops → ops_name_cell ops c ≡ true → c < cells
named_below cells [] c h t = absurd (false≢true t)
named_below cells (o ∷ os) c h t = elim (or_cases (op_names_cell o c) (ops_name_cell os c) t) [
  | inl q ↦ names_below cells o c (All-head (OpIsWithin cells) o os h) q
  | inr q ↦ named_below cells os c (All-tail (OpIsWithin cells) o os h) q
]

-- The mask of a script of a row has no bit outside that row.
pub mask_below : (cells mask : ℕ) (ops : List Op) → All (OpIsWithin cells) ops → IsMaskOfOps mask ops → (c : ℕ) → cells ≤ c → mask_has_cell mask c ≡ false
mask_below cells mask ops h m c past =
    false_from_ne_true (mask_has_cell mask c) (λ t. let below : c < cells = named_below cells ops c h (sym (has_named mask ops m c) ∙ t) in omega (arith, below, past))

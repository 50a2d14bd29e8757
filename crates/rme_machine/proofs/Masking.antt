-- The next cell of a mask, and lists that agree at the cells of a mask below a bound.
use Rattle.std.proofs.Common.{◌≡◌, ℕ, ◌+◌, ◌-◌, ◌<◌, ◌≤◌, List, length, sym, ◌∙◌, ap, inl, inr, arith}
use Rattle.std.specs.Prelude.{false, slice_index, slice_set, Some, None}
use Rattle.std.proofs.lemmas.Bool.{cases_eq, cases_lt, both_ways}
use Rattle.std.proofs.lemmas.List.{get_or-set_same, get_or-set_other}
use Rattle.std.proofs.lemmas.Option.{none-some}
use Rattle.rme_script.specs.Cells.{mask_has_cell, mask_cells_from, IsNextCell}
use Rattle.rme_program.specs.Masks.{first_cell}
use Rattle.rme_program.proofs.Firsts.{FirstCell, first_some, none_left}
use Rattle.rme_machine.specs.Knowledge.{ListsAgreeBelow}

-- The next cell of a mask.
pub next_some : (mask from cells c : ℕ) → first_cell mask from cells ≡ Some c → IsNextCell mask from cells c
unfolding first_cell mask_cells_from
next_some mask from cells c found = elim (cases_lt cells from) [
  | inl past ↦
      let empty : cells - from ≡ 0 = omega (arith, past) in
      let none : None ≡ Some c = rw empty at found in
      absurd (none-some c none)
  | inr within ↦
      let next : FirstCell mask from cells c = first_some mask from cells c within found in
      record { after = next.after; below = next.below; set = next.set; first = next.none }
]

-- Any two lists agree below 0.
pub same_start : (mask : ℕ) (xs ys : List ℕ) → ListsAgreeBelow mask 0 xs ys
same_start mask xs ys c low set = absurd (omega (arith, low))

-- Lists that agree below a bound agree up to the next cell of the mask.
pub same_on : (mask from to : ℕ) (xs ys : List ℕ) → ListsAgreeBelow mask from xs ys → ((k : ℕ) → from ≤ k → k < to → mask_has_cell mask k ≡ false) → ListsAgreeBelow mask to xs ys
same_on mask from to xs ys same none c low set = elim (cases_lt c from) [
  | inl before ↦ same c before set
  | inr after ↦ absurd (both_ways (mask_has_cell mask c) (none c after low) set)
]

pub same_next : (mask from cells c : ℕ) (xs ys : List ℕ) → first_cell mask from cells ≡ Some c → ListsAgreeBelow mask from xs ys → ListsAgreeBelow mask c xs ys
same_next mask from cells c xs ys found same = same_on mask from c xs ys same (next_some mask from cells c found).first

pub same_all : (mask from cells : ℕ) (xs ys : List ℕ) → first_cell mask from cells ≡ None → ListsAgreeBelow mask from xs ys → ListsAgreeBelow mask cells xs ys
same_all mask from cells xs ys found same = same_on mask from cells xs ys same (λ k. none_left mask from cells k found)

-- One more cell is stored.
pub same_stored : (mask cell x : ℕ) (xs ys : List ℕ) → cell < length xs → x ≡ slice_index ys cell → ListsAgreeBelow mask cell xs ys → ListsAgreeBelow mask (cell + 1) (slice_set xs cell x) ys
same_stored mask cell x xs ys within is same c low set = elim (cases_eq c cell) [
  | inl here ↦ ap (λ (k : ℕ). slice_index (slice_set xs cell x) k) here ∙ get_or-set_same xs cell x 0 within ∙ is ∙ ap (λ (k : ℕ). slice_index ys k) (sym here)
  | inr other ↦ get_or-set_other xs cell c x 0 other ∙ same c (omega (arith, low, other)) set
]

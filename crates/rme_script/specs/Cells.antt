-- The cells that a script names, as a test, as the bits of a mask and as a rising list.
use Rattle.std.specs.Prelude.{◌≡◌, ℕ, zero, suc, ◌-◌, ◌<◌, ◌≤◌, Bool, true, false, ◌==◌, ◌||◌, List, [], ◌∷◌, if◌then◌else◌}
use Rattle.std.specs.List.{list_any}
use Rattle.std.specs.Int.{bit_at}
use Rattle.rme_script.specs.declared.op.Op.{Op}
use Rattle.rme_script.specs.declared.op.Op.TheVariants.{Get, Set, Add, Copy, Swap}

-- An operation names a cell.
abbrev pub op_names_cell : Op → ℕ → Bool
op_names_cell (Get c) x = c == x
op_names_cell (Set c v) x = c == x
op_names_cell (Add c v) x = c == x
op_names_cell (Copy a b) x = (a == x) || (b == x)
op_names_cell (Swap a b) x = (a == x) || (b == x)

-- One of the operations names it.
abbrev pub ops_name_cell : List Op → ℕ → Bool
ops_name_cell ops c = list_any (λ (o : Op). op_names_cell o c) ops

-- A test as a bit.
abbrev pub bit_of : Bool → ℕ
bit_of true = 1
bit_of false = 0

-- The mask of the operations: bit c is set if and only if they name cell c.
abbrev pub IsMaskOfOps : ℕ → List Op → Type 0
IsMaskOfOps mask ops = (c : ℕ) → bit_at mask c ≡ bit_of (ops_name_cell ops c)

-- A mask has a cell.
abbrev pub mask_has_cell : ℕ → ℕ → Bool
mask_has_cell mask c = bit_at mask c == 1

-- Of the `count` numbers from `from` on, those that pass the test, in increasing order.
abbrev pub numbers_passing : (ℕ → Bool) → ℕ → ℕ → List ℕ
numbers_passing test from zero = []
numbers_passing test from (suc count) =
    if test from then from ∷ numbers_passing test (suc from) count else numbers_passing test (suc from) count

-- The cells of a mask below `cells`, in increasing order, and those of them that are at or after `from`.
unfoldable pub mask_cells : ℕ → ℕ → List ℕ
mask_cells mask cells = numbers_passing (mask_has_cell mask) 0 cells

unfoldable pub mask_cells_from : ℕ → ℕ → ℕ → List ℕ
mask_cells_from mask from cells = numbers_passing (mask_has_cell mask) from (cells - from)

-- The cells below `cells` that the operations name, in increasing order.
unfoldable pub cells_of_ops : List Op → ℕ → List ℕ
cells_of_ops ops cells = numbers_passing (ops_name_cell ops) 0 cells

-- The first cell of a mask that is at or after `from` and below `cells`.
pub record IsNextCell (mask from cells c : ℕ) : Type 0 where
  pub after : from ≤ c
  pub below : c < cells
  pub set : mask_has_cell mask c ≡ true
  pub first : (k : ℕ) → from ≤ k → k < c → mask_has_cell mask k ≡ false

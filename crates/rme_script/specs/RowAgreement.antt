-- Rows that agree on some cells: a script does the same to both.
use Rattle.std.specs.Prelude.{◌≡◌, ℕ, true, List, length, slice_index}
use Rattle.rme_script.specs.declared.op.Op.{Op}
use Rattle.rme_script.specs.Cells.{ops_name_cell}

-- Two rows of one length that agree in each cell with the property P.
pub record RowsAgree (P : ℕ → Type 0) (r s : List ℕ) : Type 0 where
  pub long : length r ≡ length s
  pub at : (c : ℕ) → P c → slice_index r c ≡ slice_index s c

-- Two rows that agree in the cells that the operations name.
abbrev pub RowsAgreeOnNamed : List Op → List ℕ → List ℕ → Type 0
RowsAgreeOnNamed ops r s = RowsAgree (λ (c : ℕ). ops_name_cell ops c ≡ true) r s

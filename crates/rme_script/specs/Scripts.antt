-- The scripts that may run on a row of `cells` cells, and the answer of `check`.
use Rattle.std.specs.Prelude.{◌≡◌, ℕ, ◌<◌, ◌≤◌, Bool, ◌&&◌, nat_lt, length, Result, Ok, Err, if◌then◌else◌}
use Rattle.std.specs.List.{All, list_all}
use Rattle.rme_words.specs.declared.refusal.Refusal.{Refusal}
use Rattle.rme_words.specs.declared.refusal.Refusal.TheVariants.{BadScript, NoCell}
use Rattle.rme_script.specs.declared.op.Op.{Op}
use Rattle.rme_script.specs.declared.op.Op.TheVariants.{Get, Set, Add, Copy, Swap}
use Rattle.rme_script.specs.Programs.{Program}

-- Each cell that an operation names is below `cells`.
abbrev pub OpIsWithin : ℕ → Op → Type 0
OpIsWithin cells (Get c) = c < cells
OpIsWithin cells (Set c v) = c < cells
OpIsWithin cells (Add c v) = c < cells
OpIsWithin cells (Copy a b) = (a < cells) × (b < cells)
OpIsWithin cells (Swap a b) = (a < cells) × (b < cells)

-- A script of at most eight operations, each within a row of `cells` cells.
pub record IsScript (cells : ℕ) (p : Program) : Type 0 where
  pub few : p.n ≤ 8
  pub counted : length p.ops ≡ p.n
  pub within : All (OpIsWithin cells) p.ops

-- The same as a test, for one operation.
abbrev pub op_is_within : ℕ → Op → Bool
op_is_within cells (Get c) = nat_lt c cells
op_is_within cells (Set c v) = nat_lt c cells
op_is_within cells (Add c v) = nat_lt c cells
op_is_within cells (Copy a b) = nat_lt a cells && nat_lt b cells
op_is_within cells (Swap a b) = nat_lt a cells && nat_lt b cells

-- The answer of `check`: too many operations take priority over a missing cell.
abbrev pub script_check : ℕ → Program → Result (Unit {0}) Refusal
script_check cells p =
    if nat_lt 8 p.n then Err BadScript else if list_all (op_is_within cells) p.ops then Ok tt else Err NoCell

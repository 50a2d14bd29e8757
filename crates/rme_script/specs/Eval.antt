-- `eval`: the effect of a script on a row, as a fold over its operations.
use Rattle.std.specs.Prelude.{ℕ, ◌+◌, ◌%◌, ◌^◌, List, [], ◌∷◌, slice_index, slice_set}
use Rattle.rme_script.specs.declared.op.Op.{Op}
use Rattle.rme_script.specs.declared.op.Op.TheVariants.{Get, Set, Add, Copy, Swap}

-- The row after an operation.
abbrev pub op_row : Op → List ℕ → List ℕ
op_row (Get c) row = row
op_row (Set c v) row = slice_set row c v
op_row (Add c v) row = slice_set row c ((slice_index row c + v) % 2 ^ 64)
op_row (Copy a b) row = slice_set row b (slice_index row a)
op_row (Swap a b) row = slice_set (slice_set row a (slice_index row b)) b (slice_index row a)

-- The cell that an operation names last.
abbrev pub last_named : Op → ℕ
last_named (Get c) = c
last_named (Set c v) = c
last_named (Add c v) = c
last_named (Copy a b) = b
last_named (Swap a b) = b

-- The value of an operation: the value of its last-named cell afterwards.
abbrev pub op_value : Op → List ℕ → ℕ
op_value o row = slice_index (op_row o row) (last_named o)

-- The result of a run: the row, and the value of the last operation.
pub record RunResult : Type 0 where
  pub row : List ℕ
  pub reply : ℕ

-- The operations in order.
unfoldable pub run_ops_from : RunResult → List Op → RunResult
run_ops_from ran [] = ran
run_ops_from ran (o ∷ os) = run_ops_from record { row = op_row o ran.row; reply = op_value o ran.row } os

-- A script's row and reply. The reply of a script without operations is 0.
abbrev pub eval_of : List Op → List ℕ → RunResult
eval_of ops row = run_ops_from record { row = row; reply = 0 } ops

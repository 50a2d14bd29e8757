-- The view of a script: its operations, and the number that it was given.
use Rattle.std.specs.Prelude.{ℕ, List}
use Rattle.rme_script.specs.declared.op.Op.{Op}

-- `ops` are the first eight operations, and `n` is the number given: 9 stands for every number above 8.
pub record Program : Type 0 where
  pub n : ℕ
  pub ops : List Op

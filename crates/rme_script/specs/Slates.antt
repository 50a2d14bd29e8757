-- The words of a slate: three for each operation.
use Rattle.std.specs.Prelude.{◌≡◌, ℕ, zero, suc, ◌-◌, ◌*◌, ◌^◌, ◌&&◌, nat_lt, ◌==◌, List, [], ◌∷◌, ◌++◌, length, take, replicate, Option, Some, None, if◌then◌else◌}
use Rattle.rme_script.specs.declared.op.Op.{Op}
use Rattle.rme_script.specs.declared.op.Op.TheVariants.{Get, Set, Add, Copy, Swap}
use Rattle.rme_script.specs.Programs.{Program}
use Rattle.rme_script.specs.Scripts.{IsScript}

-- The three words of an operation.
abbrev pub op_words : Op → List ℕ
op_words (Get c) = 0 ∷ c ∷ 0 ∷ []
op_words (Set c v) = 1 ∷ c ∷ v ∷ []
op_words (Add c v) = 2 ∷ c ∷ v ∷ []
op_words (Copy a b) = 3 ∷ a ∷ b ∷ []
op_words (Swap a b) = 4 ∷ a ∷ b ∷ []

-- The words of some operations, one after another.
abbrev pub ops_words : List Op → List ℕ
ops_words [] = []
ops_words (o ∷ os) = op_words o ++ ops_words os

-- The slate of a script: its words, and 0 in the words that are not used.
abbrev pub slate_of : List Op → List ℕ
slate_of ops = ops_words ops ++ replicate (24 - 3 * length ops) 0

-- The first words of a slate are a script of n operations whose cell numbers are below 2^32. Later words do not count.
pub record IsSlate (n : ℕ) (words : List ℕ) (p : Program) : Type 0 where
  pub counted : p.n ≡ n
  pub script : IsScript (2 ^ 32) p
  pub first : take (3 * n) words ≡ ops_words p.ops

-- The operation of three words, if they are one.
abbrev pub op_from_words : ℕ → ℕ → ℕ → Option Op
op_from_words kind first second =
    if nat_lt first (2 ^ 32)
    then (if kind == 0 then (if second == 0 then Some (Get first) else None)
    else if kind == 1 then Some (Set first second)
    else if kind == 2 then Some (Add first second)
    else if (kind == 3) && nat_lt second (2 ^ 32) then Some (Copy first second)
    else if (kind == 4) && nat_lt second (2 ^ 32) then Some (Swap first second)
    else None)
    else None

-- An operation before others: none if either is none.
abbrev pub prepend_op : Option Op → Option (List Op) → Option (List Op)
prepend_op None rest = None
prepend_op (Some o) None = None
prepend_op (Some o) (Some os) = Some (o ∷ os)

-- The first n operations of some words, if these are n operations.
abbrev pub ops_from_words : ℕ → List ℕ → Option (List Op)
ops_from_words zero ws = Some []
ops_from_words (suc n) (kind ∷ first ∷ second ∷ ws) = prepend_op (op_from_words kind first second) (ops_from_words n ws)
ops_from_words (suc n) ws = None

-- The script of n operations that were read.
abbrev pub script_if_read : ℕ → Option (List Op) → Option Program
script_if_read n None = None
script_if_read n (Some ops) = Some record { n = n; ops = ops }

-- The script of a slate, if it is one.
abbrev pub script_from_words : ℕ → List ℕ → Option Program
script_from_words n ws = if nat_lt 8 n then None else script_if_read n (ops_from_words n ws)

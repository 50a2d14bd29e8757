use Rattle.std.proofs.Common.{◌≡◌, ◌++◌, take, length, vec_capacity}
use Rattle.rme_history.proofs.entry_list.put_ops.Given as goal

abbrev pub invariant-loop-i : goal.invariant-loop-i
invariant-loop-i l =
    (l.ops.items ≡ l.initial.ops.items ++ take l.i l.script.ops) × (vec_capacity l.ops ≡ vec_capacity l.initial.ops) × (length l.script.ops ≡ l.script.n)

-- The holds added so far, and those of the other locks, are those of all.
use Rattle.std.proofs.Common.{◌≡◌, ◌++◌, ◌-◌}
use Rattle.rme_draw_history.specs.Holds.{holds_from}
use Rattle.rme_draw_history.proofs.holds.push_holds.Given as goal

abbrev pub invariant-loop-lock : goal.invariant-loop-lock
invariant-loop-lock l =
    l.holds.items ++ holds_from l.machine l.line l.holding l.lock (l.machine.shape.locks - l.lock) ≡ l.fn.holds.items ++ holds_from l.machine l.line l.holding 0 l.machine.shape.locks

-- The holds added so far, and those of the rest, are those of all.
use Rattle.std.proofs.Common.{◌≡◌, ◌++◌, drop}
use Rattle.rme_draw_history.specs.Holds.{holds_at_end}
use Rattle.rme_draw_history.proofs.holds.push_last_holds.Given as goal

abbrev pub invariant-loop-hold : goal.invariant-loop-hold
invariant-loop-hold l = l.holds.items ++ holds_at_end (drop l.hold-index l.all) l.to ≡ l.fn.holds.items ++ holds_at_end l.all l.to

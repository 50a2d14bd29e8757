-- The stays added so far, and those of the rest, are those of all.
use Rattle.std.proofs.Common.{◌≡◌, ◌++◌, drop}
use Rattle.rme_draw_history.specs.Stays.{stays_at_end}
use Rattle.rme_draw_history.proofs.stays.push_last_stays.Given as goal

abbrev pub invariant-loop-staying : goal.invariant-loop-staying
invariant-loop-staying l = l.stays.items ++ stays_at_end (drop l.staying-index l.all) l.to ≡ l.fn.stays.items ++ stays_at_end l.all l.to

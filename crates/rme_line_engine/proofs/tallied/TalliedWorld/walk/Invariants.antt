-- A completion of the walk from here is one from the start, and there is room for the notes that may still come.
use Rattle.std.proofs.Common.{◌-◌}
use Rattle.rme_line_engine.proofs.NoteLemmas.{HasRoom}
use Rattle.rme_line_engine.proofs.WalkLemmas.{Completes}
use Rattle.rme_line_engine.proofs.tallied.TalliedWorld.walk.Given as goal

abbrev pub invariant-loop : goal.invariant-loop
invariant-loop l = record {
  completes : Completes l.walk.worker l.walk.until l.walk.max l.fn.self (l.walk.max - l.counter) l.self l.notes;
  room : HasRoom l.self.world l.walk.worker l.notes;
}

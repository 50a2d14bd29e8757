use Rattle.rme_service_phases.proofs.Drafted.{LooksOver}
use Rattle.rme_service_phases.proofs.reading.read_words.Given as goal

abbrev pub invariant-loop-i : goal.invariant-loop-i
invariant-loop-i l = LooksOver l.fn.seat l.seat l.words l.i

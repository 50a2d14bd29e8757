use Rattle.rme_service_phases.proofs.Slated.{Reads}
use Rattle.rme_service_phases.proofs.open_section.OpenSection.load_slate.Given as goal

abbrev pub invariant-loop-i : goal.invariant-loop-i
invariant-loop-i g l = Reads l.service l.fn.seat (g.C.Chance.tally l.fn.chance) l.fn.self.lock l.fn.self.turn l.operations l.words l.seat (g.C.Chance.tally l.chance) l.i

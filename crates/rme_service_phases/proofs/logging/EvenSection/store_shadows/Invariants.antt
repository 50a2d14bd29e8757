use Rattle.std.specs.Prelude.{◌-◌}
use Rattle.rme_program.specs.Steps.{shadow_stage_from}
use Rattle.rme_service_phases.specs.Sections.{visit_from_even_turn}
use Rattle.rme_service_phases.proofs.Masked.{OverMask}
use Rattle.rme_service_phases.proofs.logging.EvenSection.store_shadows.Given as goal

abbrev pub invariant-loop-cell : goal.invariant-loop-cell
invariant-loop-cell g l =
    OverMask l.service l.fn.seat (g.C.Chance.tally l.fn.chance) l.self.named 1 l.fn.seat.part.private.begun (shadow_stage_from (visit_from_even_turn l.self.lock l.self.turn l.self.operations l.self.named) l.self.named l.outcome.row l.outcome.reply) l.seat (g.C.Chance.tally l.chance) l.from

abbrev pub decreases-loop-cell : goal.decreases-loop-cell
decreases-loop-cell g l = l.service.shape.cells - l.from

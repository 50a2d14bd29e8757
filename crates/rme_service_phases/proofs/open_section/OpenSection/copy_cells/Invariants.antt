use Rattle.std.specs.Prelude.{◌-◌}
use Rattle.rme_program.specs.Steps.{copy_stage_from}
use Rattle.rme_service_phases.specs.Sections.{visit_of_part}
use Rattle.rme_service_phases.proofs.Masked.{OverMask}
use Rattle.rme_service_phases.proofs.open_section.OpenSection.copy_cells.Given as goal

abbrev pub invariant-loop-cell : goal.invariant-loop-cell
invariant-loop-cell g l =
    OverMask l.service l.fn.seat (g.C.Chance.tally l.fn.chance) l.mask 2 l.fn.seat.part.private.begun (copy_stage_from (visit_of_part l.fn.seat.part l.self.lock l.self.turn) l.mask) l.seat (g.C.Chance.tally l.chance) l.from

abbrev pub decreases-loop-cell : goal.decreases-loop-cell
decreases-loop-cell g l = l.service.shape.cells - l.from

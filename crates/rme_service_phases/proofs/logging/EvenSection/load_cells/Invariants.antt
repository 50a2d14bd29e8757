use Rattle.std.specs.Prelude.{◌-◌}
use Rattle.rme_program.specs.Steps.{cell_stage_from, logging_section}
use Rattle.rme_service_phases.proofs.Masked.{OverRow}
use Rattle.rme_service_phases.proofs.logging.EvenSection.load_cells.Given as goal

abbrev pub invariant-loop-cell : goal.invariant-loop-cell
invariant-loop-cell g l =
    OverRow l.service l.fn.seat (g.C.Chance.tally l.fn.chance) l.self.named l.fn.seat.part.private.begun (cell_stage_from l.service.shape (logging_section l.self.lock l.self.turn l.script l.self.named)) l.row l.seat (g.C.Chance.tally l.chance) l.from

abbrev pub decreases-loop-cell : goal.decreases-loop-cell
decreases-loop-cell g l = l.service.shape.cells - l.from

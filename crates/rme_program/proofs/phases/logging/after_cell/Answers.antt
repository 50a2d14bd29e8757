use Rattle.std.proofs.Common.{◌≡◌, ◌∙◌, sym, ap, ℕ, List}
use Rattle.std.specs.Prelude.{Option, slice_set}
use Rattle.rme_program.specs.Steps.{run_stage, cell_stage_from, logging_section}
use Rattle.rme_program.proofs.phases.logging.after_cell.Goals as goal

pub returns-in-None-clause-after : goal.returns-in-None-clause-after
returns-in-None-clause-after c =
    let same : c.in-LoadCells-log.row ≡ c.in-LoadCells.row = cc (sym c.in-LoadCells-log.is ∙ c.in-LoadCells.is) in
    rw c.in-LoadCells.is (
    c.run_script.ensures.after c.in-LoadCells.lock c.in-LoadCells.turn c.in-LoadCells.script c.in-LoadCells.named c.set.new.self c.in-LoadCells.cell (cc (sym c.in-LoadCells-log.is ∙ c.in-LoadCells.is))
    ∙ ap (λ (row : List ℕ). run_stage c.args.shape (logging_section c.in-LoadCells.lock c.in-LoadCells.turn c.in-LoadCells.script c.in-LoadCells.named) row) c.set.ensures
    ∙ ap (λ (row : List ℕ). run_stage c.args.shape (logging_section c.in-LoadCells.lock c.in-LoadCells.turn c.in-LoadCells.script c.in-LoadCells.named) (slice_set row c.in-LoadCells.cell c.args.value)) same
    ∙ ap (λ (next : Option ℕ). cell_stage_from c.args.shape (logging_section c.in-LoadCells.lock c.in-LoadCells.turn c.in-LoadCells.script c.in-LoadCells.named) (slice_set c.in-LoadCells.row c.in-LoadCells.cell c.args.value) next) c.in-None.ensures.first
    )

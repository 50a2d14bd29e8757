use Rattle.std.proofs.Common.{refl, ap, sym, arith}
use Rattle.rme_program.specs.declared.stage.Visit.{Visit}
use Rattle.rme_program.specs.declared.stage.Stage.TheVariants.{Copying}
use Rattle.rme_program.specs.declared.stage.Redo.TheVariants.{LoadReply}
use Rattle.rme_program.specs.Masks.{first_cell}
use Rattle.rme_program.specs.Steps.{copy_stage_from}
use Rattle.rme_script.proofs.Rising.{cells_named_most}
use Rattle.rme_service_steps.proofs.Chains.{falls_at, falls_on}
use Rattle.rme_service_phases.proofs.Outcomes.{passed_on}
use Rattle.rme_service_phases.proofs.Parts.{before_at, then_as, visit_at, parity_copies}
use Rattle.rme_service_phases.proofs.Copied.{mask_may, masked}
use Rattle.rme_service_phases.proofs.open_section.OpenSection.copy.Goals as goal

pub load-requires-clause-may : goal.load-requires-clause-may
load-requires-clause-may g c = mask_may _ c.args.seat.now (g.C.Chance.tally c.args.chance.now) _ _ c.requires.at c.requires.lock _ _ c.shape.ensures c.mask_at-at.ensures

pub returns-in_err-mask : goal.returns-in_err-mask
returns-in_err-mask g c = passed_on _ _ _ c.from_residual.ensures.0 (falls_at _ _ _ _ _ _ _ c.in_err-mask.ensures (omega arith))

pub copy_cells-requires-clause-at : goal.copy_cells-requires-clause-at
copy_cells-requires-clause-at g c =
    let one = masked _ c.args.seat.now (g.C.Chance.tally c.args.chance.now) _ _ c.requires.at c.requires.lock _ _ _ c.in_ok-mask.ensures in
    let same = visit_at c.args.self.lock c.args.self.turn _ one.at (parity_copies _ _ _) in
    before_at one.at (ap (λ (x : Visit). copy_stage_from x c.in_ok-mask.mask (first_cell c.in_ok-mask.mask 0 c.args.service.now.shape.cells)) (sym same))

pub returns-in_err-copy_cells : goal.returns-in_err-copy_cells
returns-in_err-copy_cells g c =
    let one = masked _ c.args.seat.now (g.C.Chance.tally c.args.chance.now) _ _ c.requires.at c.requires.lock _ _ _ c.in_ok-mask.ensures in
    let few = cells_named_most c.in_ok-mask.mask c.args.service.now.shape.cells in
    passed_on _ _ _ c.from_residual-in_err-copy_cells.ensures.0 (falls_on _ _ _ _ _ _ _ one c.in_err-copy_cells.ensures (omega (arith, few)))

pub returns : goal.returns
returns g c =
    let one = masked _ c.args.seat.now (g.C.Chance.tally c.args.chance.now) _ _ c.requires.at c.requires.lock _ _ _ c.in_ok-mask.ensures in
    let same = visit_at c.args.self.lock c.args.self.turn _ one.at (parity_copies _ _ _) in
    then_as one c.in_ok-copy_cells.ensures (ap (λ (x : Visit). Copying (LoadReply x c.in_ok-mask.mask)) same) refl

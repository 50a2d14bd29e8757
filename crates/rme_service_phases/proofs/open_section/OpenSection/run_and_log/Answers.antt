use Rattle.std.proofs.Common.{ℕ, refl, ap, sym, ◌∙◌, length, arith}
use Rattle.rme_script.proofs.Laws.{eval_length}
use Rattle.rme_script.specs.Eval.{RunResult}
use Rattle.rme_program.specs.declared.stage.Stage.TheVariants.{Copying}
use Rattle.rme_program.specs.declared.stage.Redo.TheVariants.{LoadMask}
use Rattle.rme_program.specs.Phases.{mask_cells_below}
use Rattle.rme_service_steps.proofs.Chains.{falls_on}
use Rattle.rme_service_phases.specs.Sections.{visit_from_even_turn}
use Rattle.rme_service_phases.proofs.Outcomes.{passed_on, ends_with}
use Rattle.rme_service_phases.proofs.Parts.{before_at, then_as}
use Rattle.rme_service_phases.proofs.Completed.{falls_wider}
use Rattle.rme_service_phases.proofs.Run.{from_script, from_run}
use Rattle.rme_service_phases.proofs.open_section.OpenSection.run_and_log.Goals as goal

pub load_cells-requires-clause-at : goal.load_cells-requires-clause-at
load_cells-requires-clause-at g c = before_at c.requires.at
    (from_script c.args.service.now.shape _ _ _ _ _ c.mask_of-named.ensures refl)

pub returns-in_err-row : goal.returns-in_err-row
returns-in_err-row g c =
    let count = ap (λ (m : ℕ). mask_cells_below m c.args.service.now.shape.cells) c.mask_of-named.ensures in
    let fell = c.in_err-row.ensures in
    passed_on _ _ _ c.from_residual.ensures.0 (falls_wider fell.loads (omega (arith, count)))

pub store_shadows-requires-clause-at : goal.store_shadows-requires-clause-at
store_shadows-requires-clause-at g c =
    let loads = c.in_ok-row.ensures in
    before_at loads.loads.at (from_run c.args.service.now.shape _ _ _ _ _ _ _ _ c.eval-reply.ensures.fold c.n.ensures.n)

pub store_shadows-requires-clause-row : goal.store_shadows-requires-clause-row
store_shadows-requires-clause-row g c =
    let loads = c.in_ok-row.ensures in
    ap (λ (r : RunResult). length r.row) (sym c.eval-reply.ensures.fold) ∙ eval_length c.args.script.now.ops _ ∙ loads.row

pub returns-in_err-store_shadows : goal.returns-in_err-store_shadows
returns-in_err-store_shadows g c =
    let count = ap (λ (m : ℕ). mask_cells_below m c.args.service.now.shape.cells) c.mask_of-named.ensures in
    let loads = c.in_ok-row.ensures in
    passed_on _ _ _ c.from_residual-in_err-store_shadows.ensures.0 (falls_on _ _ _ _ _ _ _ loads.loads c.in_err-store_shadows.ensures (omega (arith, count)))

pub returns : goal.returns
returns g c =
    let count = ap (λ (m : ℕ). mask_cells_below m c.args.service.now.shape.cells) c.mask_of-named.ensures in
    let loads = c.in_ok-row.ensures in
    let two = then_as loads.loads c.in_ok-store_shadows.ensures refl refl in
    let stage = ap (λ (n : ℕ). Copying (LoadMask (visit_from_even_turn c.args.self.lock c.args.self.turn n c.mask_of-named.result))) c.n.ensures.n
    ∙ ap (λ (m : ℕ). Copying (LoadMask (visit_from_even_turn c.args.self.lock c.args.self.turn c.args.script.now.n m))) c.mask_of-named.ensures in
    ends_with _ _ _ _ _ c.write_down.ensures (λ _ last. then_as two last stage (omega (arith, count))) (λ fell. falls_on _ _ _ _ _ _ _ two fell (omega (arith, count)))

use Rattle.std.proofs.Common.{ℕ, refl, ap, sym, ◌∙◌, arith}
use Rattle.rme_program.specs.declared.stage.Visit.{Visit}
use Rattle.rme_program.specs.declared.stage.Stage.TheVariants.{Copying}
use Rattle.rme_program.specs.declared.stage.Redo.TheVariants.{StoreDone}
use Rattle.rme_script.proofs.Rising.{cells_named_most}
use Rattle.rme_words.specs.declared.address.Address.TheVariants.{Done}
use Rattle.rme_service_steps.specs.Layout.{position_of_address}
use Rattle.rme_service_steps.proofs.Chains.{falls_at, falls_on}
use Rattle.rme_service_phases.proofs.Outcomes.{passed_on}
use Rattle.rme_service_phases.proofs.Parts.{then_as, visit_at}
use Rattle.rme_service_phases.proofs.Completed.{finish_may, completed, falls_wider}
use Rattle.rme_service_phases.proofs.open_section.OpenSection.complete.Goals as goal

pub returns-in_err-mask : goal.returns-in_err-mask
returns-in_err-mask g c = passed_on _ _ _ c.from_residual.ensures.0 (falls_wider c.in_err-mask.ensures (omega arith))

pub returns-in_err-reply : goal.returns-in_err-reply
returns-in_err-reply g c =
    let few = cells_named_most c.in_ok-mask.mask c.args.service.now.shape.cells in
    passed_on _ _ _ c.from_residual-in_err-reply.ensures.0 (falls_on _ _ _ _ _ _ _ c.in_ok-mask.ensures c.in_err-reply.ensures (omega (arith, few)))

pub finish-requires-clause-may : goal.finish-requires-clause-may
finish-requires-clause-may g c =
    let one = c.in_ok-mask.ensures in
    let same = visit_at c.args.self.lock c.args.self.turn _ one.at refl in
    let two = then_as one c.in_ok-reply.ensures (ap (λ (x : Visit). Copying (StoreDone x c.in_ok-mask.mask c.in_ok-reply.reply)) same) refl in
    let own = c.worker-worker.ensures.worker ∙ sym two.stays.own in
    finish_may _ _ _ _ _ _ two.at _ _ _ _ refl own c.requires.begun (ap (λ (w : ℕ). position_of_address c.args.service.now.shape (Done w)) (sym own))

pub returns-in_err-finish : goal.returns-in_err-finish
returns-in_err-finish g c =
    let one = c.in_ok-mask.ensures in
    let same = visit_at c.args.self.lock c.args.self.turn _ one.at refl in
    let two = then_as one c.in_ok-reply.ensures (ap (λ (x : Visit). Copying (StoreDone x c.in_ok-mask.mask c.in_ok-reply.reply)) same) refl in
    let few = cells_named_most c.in_ok-mask.mask c.args.service.now.shape.cells in
    passed_on _ _ _ c.from_residual-in_err-finish.ensures.0 (falls_on _ _ _ _ _ _ _ two (falls_at _ _ _ _ _ _ 1 c.in_err-finish.ensures (omega arith)) (omega (arith, few)))

pub returns : goal.returns
returns g c =
    let one = c.in_ok-mask.ensures in
    let same = visit_at c.args.self.lock c.args.self.turn _ one.at refl in
    let two = then_as one c.in_ok-reply.ensures (ap (λ (x : Visit). Copying (StoreDone x c.in_ok-mask.mask c.in_ok-reply.reply)) same) (omega arith) in
    completed _ _ _ _ _ _ _ _ _ _ _ _ _ _ two c.worker-worker.ensures.worker c.requires.begun c.in_ok-finish.ensures

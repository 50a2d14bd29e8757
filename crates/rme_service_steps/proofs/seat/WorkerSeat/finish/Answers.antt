use Rattle.std.proofs.Common.{◌≡◌, ℕ, sym, ◌∙◌, ap, subst}
use Rattle.rme_words.specs.declared.shape.Shape.{Shape}
use Rattle.rme_words.specs.declared.address.Address.TheVariants.{Done}
use Rattle.rme_program.specs.declared.note.Receipt.{Receipt}
use Rattle.rme_service_steps.specs.declared.seat_record.Part.{Part}
use Rattle.rme_service_steps.specs.Layout.{position_of_address}
use Rattle.rme_service_steps.specs.CallSteps.{FinishIsAllowed}
use Rattle.rme_program.specs.declared.action.Action.TheVariants.{Store}
use Rattle.rme_service_steps.specs.Parts.{unchanged_part}
use Rattle.rme_service_steps.proofs.Seats.{at_table, may_go, now_finished, entry_room, script_short}
use Rattle.rme_service_steps.proofs.seat.WorkerSeat.finish.Goals as goal

-- the position that the code computes is that of the worker's `done`
at_done : (s shape : Shape) (p : Part) (worker at : ℕ) (receipt : Receipt) → shape ≡ s → worker ≡ p.worker → at ≡ position_of_address shape (Done worker)
    → FinishIsAllowed s p (position_of_address s (Done p.worker)) receipt → FinishIsAllowed s p at receipt
at_done s shape p worker at receipt same own lies may =
    let P : ℕ → Type 0 = λ n. FinishIsAllowed s p n receipt in
    let there : at ≡ position_of_address s (Done p.worker) = lies ∙ ap (λ (x : Shape). position_of_address x (Done worker)) same ∙ ap (λ (w : ℕ). position_of_address s (Done w)) own in
    subst P (sym there) may

pub store-requires : goal.store-requires
store-requires g c =
    let may = at_done _ _ _ _ _ _ c.shape.ensures c.worker.ensures.worker c.done_at-at.ensures c.requires.may in
    let table = at_table c.self.invariant c.self.view_is c.service.view_is c.requires.ours c.service.invariant in
    may_go _ _ _ _ _ _ _ table _ unchanged_part (Store may.address c.args.receipt.number) c.done_at-at.result may.may

pub push-requires-clause-room : goal.push-requires-clause-room
push-requires-clause-room g c =
    let may = at_done _ _ _ _ _ _ c.shape.ensures c.worker.ensures.worker c.done_at-at.ensures c.requires.may in
    let table = at_table c.self.invariant c.self.view_is c.service.view_is c.requires.ours c.service.invariant in
    entry_room _ _ _ _ _ _ _ table _ _ _ _ c.self.invariant c.done_at-at.result c.args.receipt _ _ c.store.ensures.2 may c.requires.script

pub push-requires-clause-few : goal.push-requires-clause-few
push-requires-clause-few g c =
    let may = at_done _ _ _ _ _ _ c.shape.ensures c.worker.ensures.worker c.done_at-at.ensures c.requires.may in
    let table = at_table c.self.invariant c.self.view_is c.service.view_is c.requires.ours c.service.invariant in
    script_short _ _ _ _ _ _ _ table _ _ _ _ c.self.invariant c.done_at-at.result c.args.receipt _ _ c.store.ensures.2 may c.requires.script

pub invariant_of-self : goal.invariant_of-self
invariant_of-self g c =
    let may = at_done _ _ _ _ _ _ c.shape.ensures c.worker.ensures.worker c.done_at-at.ensures c.requires.may in
    let table = at_table c.self.invariant c.self.view_is c.service.view_is c.requires.ours c.service.invariant in
    now_finished _ _ _ _ _ _ _ table _ _ _ _ c.self.invariant c.done_at-at.result c.args.receipt _ _ c.store.ensures.2 may c.requires.script _ _ c.push.ensures.entries c.push.ensures.room

-- A worker that is ready holds no node.
use Rattle.std.proofs.Common.{◌≡◌, ℕ, ◌<◌, ◌≤◌, sym, ◌∙◌, ap, subst}
use Rattle.std.specs.Prelude.{Some}
use Rattle.rme_words.specs.declared.shape.Shape.{Shape}
use Rattle.rme_program.specs.declared.private.Private.{Private}
use Rattle.rme_program.specs.declared.stage.Stage.{Stage}
use Rattle.rme_program.specs.declared.stage.Stage.TheVariants.{Resting, Climbing}
use Rattle.rme_machine.specs.FurtherLaws.{is_ready_or_posting}
use Rattle.rme_machine.proofs.Further.{idling}
use Rattle.rme_service_steps.specs.declared.seat_record.Part.{Part}
use Rattle.rme_service_steps.specs.Chances.{ChanceCounts}
use Rattle.rme_service_steps.specs.SeatViews.{ServiceId, SeatView}
use Rattle.rme_service_steps.specs.Rule.{table_memory, privates_of_parts}
use Rattle.rme_service_steps.specs.CallSteps.{seat_call, PartIsAtStage, CallProgress, CallFell}
use Rattle.rme_service_steps.proofs.Chains.{is_stage}
use Rattle.rme_service_phases.proofs.Completed.{falls_wider}
use Rattle.rme_table.specs.Calls.{PartHoldsNoNode, CallIsDone}

pub holds_none : (s : Shape) (p : Part) (b : ℕ) → PartIsAtStage s p b Resting → PartHoldsNoNode s p
holds_none s p b at words parts history world here lock below =
    idling s (table_memory s words) (privates_of_parts parts) history p.worker lock p.private world.fact at.stood.worker below (ap (λ (q : Part). Some q.private) here)
    (ap (λ (q : Private). is_ready_or_posting q.stage) at.private)

-- The progress of a phase, as its call states it.
pub made_of : {s : Shape} {lead : Part → Part} {a c : SeatView} {t u : ChanceCounts} {count b least most : ℕ} {st : Stage} → CallProgress (seat_call s lead a c t u) count b st → least ≤ count → count ≤ most → CallIsDone (seat_call s lead a c t u) least most
made_of {count = count} doing enough few = record { count = count; enough = enough; few = few; counted = doing.counted; walks = doing.walks; stays = doing.stays }

-- A property of a value's fields is one of its view.
pub seen_holds : {i : SeatView} {x : SeatView} (b : ℕ) → i ≡ x → PartIsAtStage i.ident.shape i.part b Resting → PartHoldsNoNode x.ident.shape x.part
seen_holds {i} {x} b same at = subst (λ (y : SeatView). PartHoldsNoNode y.ident.shape y.part) same (holds_none i.ident.shape i.part b at)

module _ {i x c : SeatView} {held own : ServiceId} {lead : Part → Part} {t u : ChanceCounts} (same : i ≡ x) (service : held ≡ own) where
  pub seen_made : {count b least most : ℕ} {st : Stage} → CallProgress (seat_call held.shape lead i c t u) count b st → least ≤ count → count ≤ most → CallIsDone (seat_call own.shape lead x c t u) least most
  seen_made {count} {b} {least} {most} {st} doing enough few =
      let P : SeatView → Type 0 = λ (y : SeatView). CallProgress (seat_call held.shape lead y c t u) count b st in
      let Q : ServiceId → Type 0 = λ (y : ServiceId). CallProgress (seat_call y.shape lead x c t u) count b st in
      made_of (subst Q service (subst P same doing)) enough few

  pub seen_fell : {few most : ℕ} → CallFell (seat_call held.shape lead i c t u) few → few ≤ most → CallFell (seat_call own.shape lead x c t u) most
  seen_fell {few} {most} fell less =
      let P : SeatView → Type 0 = λ (y : SeatView). CallFell (seat_call held.shape lead y c t u) few in
      let Q : ServiceId → Type 0 = λ (y : ServiceId). CallFell (seat_call y.shape lead x c t u) few in
      falls_wider (subst Q service (subst P same fell)) less

-- A climbing worker holds fewer nodes than its path has.
pub climbs_below : (s : Shape) (p : Part) (b lock held : ℕ) → PartIsAtStage s p b (Climbing record { lock = lock; held = held }) → (lock < s.locks) × (held < s.height)
climbs_below s p b lock held at = is_stage s p b (Climbing record { lock = lock; held = held }) at

-- The shape of a service's seat.
pub same_height : {i x : SeatView} {held own : ServiceId} → i ≡ x → held ≡ own → x.ident ≡ own → i.ident.shape.height ≡ own.shape.height
same_height same service ours = ap (λ (y : SeatView). y.ident.shape.height) same ∙ ap (λ (y : ServiceId). y.shape.height) ours

-- The stage of a waiting worker, and of a ready one, in the contract's view.
pub climbs_at : {i x : SeatView} (b lock held : ℕ) → i ≡ x → PartIsAtStage i.ident.shape i.part b (Climbing record { lock = lock; held = held }) → x.part.private.stage ≡ Climbing record { lock = lock; held = held }
climbs_at b lock held same at = ap (λ (y : SeatView). y.part.private.stage) (sym same) ∙ ap (λ (q : Private). q.stage) at.private

pub rests_at : {i x : SeatView} (b : ℕ) → i ≡ x → PartIsAtStage i.ident.shape i.part b Resting → x.part.private.stage ≡ Resting
rests_at b same at = ap (λ (y : SeatView). y.part.private.stage) (sym same) ∙ ap (λ (q : Private). q.stage) at.private

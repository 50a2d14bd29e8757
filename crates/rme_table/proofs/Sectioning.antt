-- The section that a Held reads.
use Rattle.std.proofs.Common.{◌≡◌, ℕ, ◌^◌, ◌<◌, List, length, refl, sym, ◌∙◌, ap, subst, arith}
use Rattle.std.specs.Prelude.{Bool, true, false, Some}
use Rattle.rme_words.specs.declared.shape.Shape.{Shape}
use Rattle.rme_words.specs.declared.address.Address.TheVariants.{Turn}
use Rattle.rme_script.specs.declared.job.Job.{Job}
use Rattle.rme_program.specs.declared.note.Entry.{Entry}
use Rattle.rme_program.specs.declared.private.Private.{Private}
use Rattle.rme_program.specs.declared.stage.Stage.TheVariants.{Logging}
use Rattle.rme_program.specs.declared.stage.Log.TheVariants.{LoadTurn}
use Rattle.rme_program.specs.Steps.{reentry_stage}
use Rattle.rme_service_steps.specs.declared.seat_record.Part.{Part}
use Rattle.rme_service_steps.specs.Layout.{position_of_address}
use Rattle.rme_service_steps.specs.Parts.{draft_script, part_with_section}
use Rattle.rme_service_steps.specs.SeatViews.{ServiceId, SeatView}
use Rattle.rme_service_steps.specs.Steps.{PartWasInWorld}
use Rattle.rme_service_steps.specs.CallSteps.{PartIsAtStage, TurnIsNext}
use Rattle.rme_service_steps.proofs.Reading.{known_in_world}
use Rattle.rme_service_phases.proofs.Joins.{is_before}
use Rattle.rme_table.specs.Kinds.{HeldInvariant}
use Rattle.rme_table.specs.Calls.{PartHasSection, SectionContract, is_section_over}
use Rattle.rme_table.proofs.Owners.{owned_lock, held_owned, held_draft}

-- A Held whose job is pending may read it.
pub held_turn : (s : Shape) (seat : SeatView) (b lock at : ℕ) (pending : Bool) → pending ≡ true → HeldInvariant seat b lock pending → seat.ident.shape ≡ s → at ≡ position_of_address s (Turn lock)
    → TurnIsNext s seat.part at
held_turn s seat b lock at false waits stands same its = absurd (let clash : false ≡ true = waits in cc)
held_turn s seat b lock at true waits stands same its =
    subst (λ (x : Shape). (at ≡ position_of_address x (Turn lock)) → TurnIsNext x seat.part at) same
    (λ lies. (lock, owned_lock seat.ident.shape seat.part b (reentry_stage true lock) lock stands (held_owned seat.ident.shape true lock), lies, is_before seat.ident.shape seat.part b (reentry_stage true lock) stands))
    its

-- It keeps what it kept.
pub held_reads : (seat next : SeatView) (b lock section : ℕ) (pending : Bool) → HeldInvariant seat b lock pending → next ≡ record { ident = seat.ident; part = part_with_section seat.part section }
    → PartWasInWorld next.ident.shape next.part → HeldInvariant next b lock pending
held_reads seat next b lock section pending stands is stood = record {
  private = ap (λ (x : SeatView). x.part.private) is ∙ stands.private ∙ ap (λ (w : ℕ). record { worker = w; begun = b; stage = reentry_stage pending lock }) (sym (ap (λ (x : SeatView). x.part.worker) is));
  stood = stood;
}

-- In every world with the part that it has then, so many sections of its lock are finished.
has_section : (s : Shape) (p : Part) (b lock section : ℕ) → PartIsAtStage s p b (Logging (LoadTurn lock)) → p.section ≡ Some section → PartHasSection s p lock section
has_section s p b lock section at knows words parts history world here =
    sym (known_in_world s words parts history p lock world at.stood.worker here (ap (λ (q : Private). q.stage) at.private) section knows)

pub reads_section : (start seat next : SeatView) (b lock section : ℕ) (pending : Bool) → pending ≡ true → seat ≡ start → HeldInvariant seat b lock pending
    → next ≡ record { ident = seat.ident; part = part_with_section seat.part section } → PartWasInWorld next.ident.shape next.part → SectionContract (is_section_over start.part.private.stage) start next section
reads_section start seat next b lock section false waits same stands is stood = absurd (let clash : false ≡ true = waits in cc)
reads_section start seat next b lock section true waits same stands is stood =
    let over : is_section_over start.part.private.stage ≡ false = ap (λ (x : SeatView). is_section_over x.part.private.stage) (sym same) ∙ ap (λ (q : Private). is_section_over q.stage) stands.private in
    let job : Job = record { lock = lock; script = draft_script seat.part.draft } in
    let shape : next.ident.shape ≡ start.ident.shape = ap (λ (x : SeatView). x.ident.shape) is ∙ ap (λ (x : SeatView). x.ident.shape) same in
    let has : PartHasSection next.ident.shape next.part lock section =
    has_section next.ident.shape next.part b lock section (held_reads seat next b lock section true stands is stood) (ap (λ (x : SeatView). x.part.section) is) in
    rw over (
      is ∙ ap {B = SeatView} (λ (x : SeatView). record { ident = x.ident; part = part_with_section x.part section }) same,
      (job, held_draft seat start b lock true job same stands over refl, subst (λ (x : Shape). PartHasSection x next.part lock section) shape has),
    )

-- The lock of a Held is one of its service.
pub held_within : (s : Shape) (seat : SeatView) (b lock : ℕ) (pending : Bool) → HeldInvariant seat b lock pending → seat.ident.shape ≡ s → lock < s.locks
held_within s seat b lock pending stands same =
    subst (λ (x : Shape). lock < x.locks) same (owned_lock seat.ident.shape seat.part b (reentry_stage pending lock) lock stands (held_owned seat.ident.shape pending lock))

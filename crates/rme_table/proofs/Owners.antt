-- The knowledge of a Held's worker: it owns its lock, and if its job is finished it has the receipt.
use Rattle.std.proofs.Common.{◌≡◌, ℕ, zero, suc, ◌+◌, ◌-◌, ◌<◌, List, [], ◌∷◌, ◌++◌, length, refl, sym, ◌∙◌, ap, subst, arith}
use Rattle.std.specs.Prelude.{Bool, true, false, not, filter, Option, Some, None, slice_get}
use Rattle.std.proofs.lemmas.List.{length-append}
use Rattle.std.proofs.lemmas.List.Elements.{filter-append}
use Rattle.std.proofs.lemmas.Option.{none-some}
use Rattle.rme_words.specs.declared.shape.Shape.{Shape}
use Rattle.rme_tree.specs.Nodes.{held_levels_in}
use Rattle.rme_script.specs.declared.job.Job.{Job}
use Rattle.rme_program.specs.declared.note.Entry.{Entry}
use Rattle.rme_program.specs.declared.note.Receipt.{Receipt}
use Rattle.rme_program.specs.declared.private.Private.{Private}
use Rattle.rme_program.specs.declared.stage.Stage.{Stage}
use Rattle.rme_program.specs.declared.stage.Stage.TheVariants.{Climbing, Leaving}
use Rattle.rme_program.specs.declared.stage.Departure.TheVariants.{LoadExitTurn}
use Rattle.rme_program.specs.Steps.{reentry_stage}
use Rattle.rme_machine.specs.Histories.{history_of_worker, last_entry_passing}
use Rattle.rme_machine.specs.Views.{WorkerWords, worker_words, lock_words}
use Rattle.rme_machine.specs.Knowledge.{StageKnowledge, IsDoneAt}
use Rattle.rme_machine.specs.FurtherLaws.{stage_owned_lock}
use Rattle.rme_machine.proofs.Ended.{IsEnded, ended}
use Rattle.rme_machine.proofs.Lasts.{IsLast, last_stands}
use Rattle.rme_machine.proofs.Tables.{owning}
use Rattle.rme_service_steps.specs.declared.seat_record.Part.{Part}
use Rattle.rme_service_steps.specs.Parts.{draft_script, unchanged_part}
use Rattle.rme_service_steps.specs.Rule.{table_memory, privates_of_parts}
use Rattle.rme_service_steps.specs.Chances.{ChanceCounts}
use Rattle.rme_service_steps.specs.SeatViews.{ServiceId, SeatView}
use Rattle.rme_service_steps.specs.CallSteps.{seat_call, PartIsAtStage}
use Rattle.rme_service_phases.specs.Sections.{SectionSteps}
use Rattle.rme_table.specs.Kinds.{ClimbInvariant, HeldInvariant}
use Rattle.rme_table.specs.Calls.{PartOwnsLock, PerformContract, is_section_over}
use Rattle.rme_table.proofs.Drafts.{draft_is}

module _ (s : Shape) (p : Part) (b : ℕ) (stage : Stage) (lock : ℕ) (at : PartIsAtStage s p b stage) (owned : stage_owned_lock s stage ≡ Some lock) where
  its_stage : stage_owned_lock s p.private.stage ≡ Some lock
  its_stage = ap (λ (q : Private). stage_owned_lock s q.stage) at.private ∙ owned

  pub owns : PartOwnsLock s p lock
  owns words parts history world here =
      (owning s (table_memory s words) (privates_of_parts parts) history p.worker lock p.private world.fact at.stood.worker (ap (λ (q : Part). Some q.private) here) its_stage).1

  pub owned_lock : lock < s.locks
  owned_lock =
      (owning s (table_memory s at.stood.words) (privates_of_parts at.stood.parts) at.stood.history p.worker lock p.private at.stood.world.fact at.stood.worker
      (ap (λ (q : Part). Some q.private) at.stood.here) its_stage).0

pub held_owned : (s : Shape) (pending : Bool) (lock : ℕ) → stage_owned_lock s (reentry_stage pending lock) ≡ Some lock
held_owned s true lock = refl
held_owned s false lock = refl

pub held_owns : (seat now : SeatView) (b lock : ℕ) (pending : Bool) → seat ≡ now → HeldInvariant seat b lock pending → PartOwnsLock now.ident.shape now.part lock
held_owns seat now b lock pending same at =
    let P : SeatView → Type 0 = λ (x : SeatView). PartOwnsLock x.ident.shape x.part lock in
    subst P same (owns seat.ident.shape seat.part b (reentry_stage pending lock) lock at (held_owned seat.ident.shape pending lock))

-- If there is a last entry that passes, some entry passes.
some_pass : (test : Entry → Bool) (es : List Entry) (last : Entry) → last_entry_passing test es ≡ Some last → 0 < length (filter test es)
some_pass test es last found =
    let its : IsLast test es last = last_stands test es last found in
    let here : filter test (last ∷ its.after) ≡ last ∷ filter test its.after = rw its.passes refl in
    let kept : filter test es ≡ filter test its.before ++ last ∷ filter test its.after =
    ap (filter test) its.stands ∙ filter-append test its.before (last ∷ its.after) ∙ ap (λ (xs : List Entry). filter test its.before ++ xs) here in
    let long : length (filter test es) ≡ length (filter test its.before) + length (last ∷ filter test its.after) = ap length kept ∙ length-append (filter test its.before) (last ∷ filter test its.after) in
    let more : 0 < length (last ∷ filter test its.after) = omega arith in
    omega (arith, long, more)

-- The worker of a finished section has an entry.
some_entry : (s : Shape) (p : Part) (b lock : ℕ) → PartIsAtStage s p b (Leaving (LoadExitTurn lock)) → 0 < length p.entries
some_entry s p b lock at = subst (λ (es : List Entry). 0 < length es) entries (some_pass _ at.stood.history last.last last.found)
  where
    own : WorkerWords
    own = worker_words (table_memory s at.stood.words) p.worker

    past : IsDoneAt own (held_levels_in s (table_memory s at.stood.words) p.worker) b lock s.height
    past =
        let fits = at.stood.world.fact.fits p.worker p.private at.stood.worker (ap (λ (q : Part). Some q.private) at.stood.here) in
        let K : Private → Type 0 = λ (q : Private). StageKnowledge s own (held_levels_in s (table_memory s at.stood.words) p.worker) (lock_words s (table_memory s at.stood.words)) q.begun q.stage in
        subst K at.private fits.knows

    last : IsEnded at.stood.history p.worker lock
    last =
        ended s (table_memory s at.stood.words) (privates_of_parts at.stood.parts) at.stood.history p.worker lock at.stood.world.fact at.stood.worker
        (owned_lock s p b (Leaving (LoadExitTurn lock)) lock at refl) past.holds past.past (omega (arith, past.known, past.some)) past.site

    entries : history_of_worker at.stood.history p.worker ≡ p.entries
    entries = (at.stood.world.books p.worker at.stood.worker).entries ∙ ap (λ (q : Part). q.entries) at.stood.here

at_end : (es : List Entry) (i : ℕ) → i < length es → slice_get es i ≡ None → ⊥
at_end [] i within none = omega (arith, within)
at_end (e ∷ es) zero within none = none-some e (sym none)
at_end (e ∷ es) (suc i) within none = at_end es i (omega (arith, within)) none

-- So a Held whose job is finished has a last entry.
pub told_there : (seat self : SeatView) (b lock : ℕ) (pending : Bool) (es : List Entry) → seat ≡ self → HeldInvariant seat b lock pending → is_section_over self.part.private.stage ≡ true
    → es ≡ seat.part.entries → slice_get es (length es - 1) ≡ None → ⊥
told_there seat self b lock true es same at over is none =
    let clash : false ≡ true = sym (ap (λ (q : Private). is_section_over q.stage) at.private) ∙ ap (λ (x : SeatView). is_section_over x.part.private.stage) same ∙ over in cc
told_there seat self b lock false es same at over is none =
    let some = some_entry seat.ident.shape seat.part b lock at in
    let long : length es ≡ length seat.part.entries = ap length is in
    at_end es (length es - 1) (omega (arith, some, long)) none

-- The lock of a Climb is that of its draft.
pub waits_for : (seat self : SeatView) (b lock held : ℕ) → seat ≡ self → ClimbInvariant seat b lock held → (job : Job) × (self.part.draft ≡ Some job) × (job.lock ≡ lock)
waits_for seat self b lock held same at =
    let job : Job = record { lock = lock; script = draft_script seat.part.draft } in
    (job, ap (λ (x : SeatView). x.part.draft) (sym same) ∙ draft_is seat.ident.shape seat.part b (Climbing record { lock = lock; held = held }) lock at refl, refl)

-- A Climb is at the place of its stage.
pub climbs_there : (seat self : SeatView) (b lock held : ℕ) → seat ≡ self → ClimbInvariant seat b lock held → self.part.private.stage ≡ Climbing record { lock = lock; held = held }
climbs_there seat self b lock held same at =
    ap (λ (x : SeatView). x.part.private.stage) (sym same) ∙ ap (λ (q : Private). q.stage) at.private

-- The job of a Held whose job is pending.
pub held_draft : (seat self : SeatView) (b lock : ℕ) (pending : Bool) (job : Job) → seat ≡ self → HeldInvariant seat b lock pending → is_section_over self.part.private.stage ≡ false
    → job ≡ record { lock = lock; script = draft_script seat.part.draft } → self.part.draft ≡ Some job
held_draft seat self b lock true job same at over is =
    ap (λ (x : SeatView). x.part.draft) (sym same) ∙ draft_is seat.ident.shape seat.part b (reentry_stage true lock) lock at refl
    ∙ ap {A = Job} {B = Option Job} (λ (j : Job). Some j) (sym is)
held_draft seat self b lock false job same at over is =
    let clash : true ≡ false = sym (ap (λ (q : Private). is_section_over q.stage) at.private) ∙ ap (λ (x : SeatView). is_section_over x.part.private.stage) same ∙ over in cc

-- A Held whose job is pending has performed its section.
pub performed : (s : Shape) (start seat now : SeatView) (old new : ChanceCounts) (b lock : ℕ) (pending : Bool) (receipt : Receipt) → seat ≡ start → HeldInvariant seat b lock pending → not pending ≡ false
    → (words service : ServiceId) → words ≡ service → service.shape ≡ s → SectionSteps (seat_call words.shape unchanged_part seat now old new) b lock receipt → PerformContract (is_section_over start.part.private.stage) (seat_call s unchanged_part start now old new) receipt
performed s start seat now old new b lock false receipt same at waits words service one shaped did = absurd (let clash : true ≡ false = waits in cc)
performed s start seat now old new b lock true receipt same before waits words service one shaped did =
    let does : SectionSteps (seat_call s unchanged_part seat now old new) b lock receipt = subst (λ (x : Shape). SectionSteps (seat_call x unchanged_part seat now old new) b lock receipt) (ap (λ (x : ServiceId). x.shape) one ∙ shaped) did in
    let over : is_section_over start.part.private.stage ≡ false = ap (λ (x : SeatView). is_section_over x.part.private.stage) (sym same) ∙ ap (λ (q : Private). is_section_over q.stage) before.private in
    let number : b ≡ start.part.private.begun = ap (λ (q : Private). q.begun) (sym before.private) ∙ ap (λ (x : SeatView). x.part.private.begun) same in
    let P : SeatView → ℕ → Type 0 = λ (x : SeatView) (n : ℕ). SectionSteps (seat_call s unchanged_part x now old new) n lock receipt in
    let its : start.part.draft ≡ Some record { lock = lock; script = draft_script seat.part.draft } = held_draft seat start b lock true record { lock = lock; script = draft_script seat.part.draft } same before over refl in
    rw over (record { lock = lock; script = draft_script seat.part.draft }, its, subst (λ (n : ℕ). P start n) number (subst (λ (x : SeatView). P x b) same does), owns s now.part b (Leaving (LoadExitTurn lock)) lock does.finishes.at refl)

-- From the first own step of Recover on, the number that a worker knows is its word Begun.
use Rattle.std.proofs.Common.{◌≡◌, ℕ, refl, ◌∙◌, ap, subst}
use Rattle.std.specs.Prelude.{Bool, true, false, Some}
use Rattle.rme_words.specs.declared.shape.Shape.{Shape}
use Rattle.rme_tree.specs.Nodes.{held_levels_in}
use Rattle.rme_program.specs.declared.private.Private.{Private}
use Rattle.rme_program.specs.declared.stage.Stage.{Stage}
use Rattle.rme_program.specs.declared.stage.Stage.TheVariants.{Resting, Recovering, Posting, Climbing, Logging, Copying, Leaving}
use Rattle.rme_program.specs.declared.stage.Departure.{Departure}
use Rattle.rme_program.specs.declared.stage.Departure.TheVariants.{LoadExitTurn, StoreExitTurn, Clear, WithdrawPlace, WithdrawAt, WithdrawReply, WithdrawDone}
use Rattle.rme_program.specs.Steps.{reentry_stage}
use Rattle.rme_machine.specs.Views.{WorkerWords, LockWords, worker_words, lock_words}
use Rattle.rme_machine.specs.Knowledge.{StageKnowledge, DepartureKnowledge}
use Rattle.rme_service_steps.specs.declared.seat_record.Part.{Part}
use Rattle.rme_service_steps.specs.Rule.{table_memory}
use Rattle.rme_service_steps.specs.CallSteps.{PartIsAtStage}
use Rattle.rme_service_steps.specs.SeatViews.{ServiceId}
use Rattle.rme_service_phases.specs.declared.recovering.ResumePoint.{ResumePoint}
use Rattle.rme_service_phases.specs.declared.recovering.ResumePoint.TheVariants as found
use Rattle.rme_service_phases.specs.Recoveries.{resume_stage}
use Rattle.rme_table.specs.Calls.{PartKnowsNumber}

-- The stages of a restart in which a worker may not know it yet.
abbrev pub comes_up : Stage → Bool
comes_up (Recovering recovery) = true
comes_up _ = false

leaving_knows : (s : Shape) (own : WorkerWords) (held : ℕ → ℕ) (locks : ℕ → LockWords) (b : ℕ) (departure : Departure) → DepartureKnowledge s own held locks b departure → own.begun ≡ b
leaving_knows s own held locks b (LoadExitTurn lock) knows = knows.known
leaving_knows s own held locks b (StoreExitTurn lock turn) knows = knows.0.known
leaving_knows s own held locks b (Clear lock level) knows = knows.0.known
leaving_knows s own held locks b (WithdrawPlace lock levels) knows = knows.known
leaving_knows s own held locks b (WithdrawAt lock levels) knows = knows.0.known
leaving_knows s own held locks b (WithdrawReply lock levels) knows = knows.0.known
leaving_knows s own held locks b (WithdrawDone lock levels) knows = knows.0.known

knows_begun : (s : Shape) (own : WorkerWords) (held : ℕ → ℕ) (locks : ℕ → LockWords) (b : ℕ) (stage : Stage) → comes_up stage ≡ false → StageKnowledge s own held locks b stage → own.begun ≡ b
knows_begun s own held locks b Resting up knows = knows.known
knows_begun s own held locks b (Recovering recovery) up knows = cc
knows_begun s own held locks b (Posting slate) up knows = knows.0.known
knows_begun s own held locks b (Climbing ascent) up knows = knows.known
knows_begun s own held locks b (Logging log) up knows = knows.0.known
knows_begun s own held locks b (Copying redo) up knows = knows.0.known
knows_begun s own held locks b (Leaving departure) up knows = leaving_knows s own held locks b departure knows

pub numbered : (s : Shape) (p : Part) (b : ℕ) (stage : Stage) → comes_up stage ≡ false → PartIsAtStage s p b stage → PartKnowsNumber s p
numbered s p b stage up at words parts history world here =
    let fits = world.fact.fits p.worker p.private at.stood.worker (ap (λ (q : Part). Some q.private) here) in
    knows_begun s (worker_words (table_memory s words) p.worker) (held_levels_in s (table_memory s words) p.worker) (lock_words s (table_memory s words)) p.private.begun p.private.stage
    (ap (λ (q : Private). comes_up q.stage) at.private ∙ up) fits.knows

re_entry_is_up : (pending : Bool) (lock : ℕ) → comes_up (reentry_stage pending lock) ≡ false
re_entry_is_up true lock = refl
re_entry_is_up false lock = refl

found_is_up : (its : ResumePoint) → comes_up (resume_stage its) ≡ false
found_is_up found.Ready = refl
found_is_up (found.Climbing lock held) = refl
found_is_up (found.Inside lock pending) = re_entry_is_up pending lock
found_is_up (found.Leaving lock level) = refl

-- The result of a recovery.
pub found_numbered : {i own : ServiceId} (p : Part) (b : ℕ) (its : ResumePoint) → i ≡ own → PartIsAtStage i.shape p b (resume_stage its) → PartKnowsNumber own.shape p
found_numbered {i} {own} p b its same at = subst (λ (y : ServiceId). PartKnowsNumber y.shape p) same (numbered i.shape p b (resume_stage its) (found_is_up its) at)

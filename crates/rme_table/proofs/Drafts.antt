-- The draft of a worker that waits, or that is inside with its job pending: its current lock, and its script.
use Rattle.std.proofs.Common.{◌≡◌, ℕ, sym, ◌∙◌, ap, subst}
use Rattle.std.specs.Prelude.{true, Option, Some, None}
use Rattle.std.proofs.lemmas.Option.{same_Some}
use Rattle.rme_words.specs.declared.shape.Shape.{Shape}
use Rattle.rme_tree.specs.Nodes.{held_levels_in}
use Rattle.rme_script.specs.declared.job.Job.{Job}
use Rattle.rme_program.specs.declared.private.Private.{Private}
use Rattle.rme_program.specs.declared.stage.Stage.{Stage}
use Rattle.rme_program.specs.declared.stage.Stage.TheVariants.{Resting, Recovering, Posting, Climbing, Logging, Copying, Leaving}
use Rattle.rme_machine.specs.Views.{WorkerWords, LockWords, worker_words, lock_words, is_pending, slate_job}
use Rattle.rme_machine.specs.Knowledge.{StageKnowledge, log_lock, redo_lock}
use Rattle.rme_service_steps.specs.declared.seat_record.Part.{Part}
use Rattle.rme_service_steps.specs.Parts.{draft_script}
use Rattle.rme_service_steps.specs.Rule.{table_memory}
use Rattle.rme_service_steps.specs.CallSteps.{PartIsAtStage}

-- The lock of a worker's pending job.
abbrev pub waits_on : Stage → Option ℕ
waits_on Resting = None
waits_on (Recovering recovery) = None
waits_on (Posting slate) = None
waits_on (Climbing ascent) = Some ascent.lock
waits_on (Logging log) = Some (log_lock log)
waits_on (Copying redo) = Some (redo_lock redo)
waits_on (Leaving departure) = None

on_lock : (s : Shape) (own : WorkerWords) (held : ℕ → ℕ) (locks : ℕ → LockWords) (b : ℕ) (stage : Stage) (lock : ℕ) → waits_on stage ≡ Some lock → StageKnowledge s own held locks b stage
    → (is_pending own ≡ true) × (own.slate_lock ≡ lock)
on_lock s own held locks b Resting lock waits knows = cc
on_lock s own held locks b (Recovering recovery) lock waits knows = cc
on_lock s own held locks b (Posting slate) lock waits knows = cc
on_lock s own held locks b (Climbing ascent) lock waits knows = (knows.pending, knows.slate ∙ same_Some _ _ waits)
on_lock s own held locks b (Logging log) lock waits knows = (knows.0.pending, knows.0.slate ∙ same_Some _ _ waits)
on_lock s own held locks b (Copying redo) lock waits knows = (knows.0.pending, knows.0.slate ∙ same_Some _ _ waits)
on_lock s own held locks b (Leaving departure) lock waits knows = cc

pub draft_is : (s : Shape) (p : Part) (b : ℕ) (stage : Stage) (lock : ℕ) → PartIsAtStage s p b stage → waits_on stage ≡ Some lock → p.draft ≡ Some record { lock = lock; script = draft_script p.draft }
draft_is s p b stage lock at waits = slated ∙ ap {A = Job} (λ (job : Job). Some job) same
  where
    own : WorkerWords
    own = worker_words (table_memory s at.stood.words) p.worker

    K : Private → Type 0
    K q = StageKnowledge s own (held_levels_in s (table_memory s at.stood.words) p.worker) (lock_words s (table_memory s at.stood.words)) q.begun q.stage

    its : (is_pending own ≡ true) × (own.slate_lock ≡ lock)
    its =
        let fits = at.stood.world.fact.fits p.worker p.private at.stood.worker (ap (λ (q : Part). Some q.private) at.stood.here) in
        on_lock s own _ (lock_words s (table_memory s at.stood.words)) b stage lock waits (subst K at.private fits.knows)

    slated : p.draft ≡ Some (slate_job own)
    slated = ap (λ (q : Part). q.draft) (sym at.stood.here) ∙ at.stood.world.slates p.worker at.stood.worker its.0

    same : ◌≡◌ {A = Job} (slate_job own) record { lock = lock; script = draft_script p.draft }
    same = λ k. record { lock = its.1 k; script = ap draft_script (sym slated) k }

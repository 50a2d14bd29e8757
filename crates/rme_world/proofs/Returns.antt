-- A restarted worker: an owner re-enters at step h + 3 of its Recover. And a worker that withdrew its job.
use Rattle.std.proofs.Common.{◌≡◌, ℕ, ◌<◌, refl, sym, ◌∙◌, ap, subst, arith}
use Rattle.std.specs.Prelude.{Some}
use Rattle.std.proofs.lemmas.Bool.{le-ltb, ltb-true}
use Rattle.std.proofs.lemmas.Option.{same_Some}
use Rattle.rme_words.specs.declared.shape.Shape.{Shape}
use Rattle.rme_words.specs.declared.address.Address.TheVariants.{Begun, Done, Place}
use Rattle.rme_words.specs.Words.{StoreEffect}
use Rattle.rme_tree.specs.Nodes.{owner_in}
use Rattle.rme_program.specs.declared.kinds.Phase.TheVariants as phase
use Rattle.rme_program.specs.declared.note.Note.{Note}
use Rattle.rme_program.specs.declared.note.Note.TheVariants.{Withdrew}
use Rattle.rme_program.specs.declared.private.Private.{Private}
use Rattle.rme_program.specs.declared.stage.Recovery.{Recovery}
use Rattle.rme_program.specs.declared.stage.Stage.{Stage}
use Rattle.rme_program.specs.declared.stage.Stage.TheVariants.{Resting, Recovering, Posting, Climbing, Logging, Copying, Leaving}
use Rattle.rme_program.specs.Phases.{phase_of}
use Rattle.rme_program.specs.StepsMade.{steps_made_in_recovery}
use Rattle.rme_program.specs.Progress.{StepsTaken}
use Rattle.rme_program.specs.Steps.{outcome_at, private_after, withdrawn_place}
use Rattle.rme_machine.specs.Histories.{has_entry}
use Rattle.rme_machine.specs.Views.{worker_words}
use Rattle.rme_machine.specs.FurtherLaws.{BoundedReentryStep}
use Rattle.rme_machine.proofs.Returning.{returning}
use Rattle.rme_world.specs.Counting.{phase_count}
use Rattle.rme_world.specs.WorldViews.{WorldView, worker_counts, world_memory, world_privates}
use Rattle.rme_world.specs.WorldInvariants.{WorldInvariant}
use Rattle.rme_world.specs.Events.{StepChange}
use Rattle.rme_world.specs.Queries.{BoundedReentry, NumberIsWithdrawn, WorkerIsInPhase, world_worker_words}
use Rattle.rme_world.proofs.Telling.{taken_in_recovery, within, up, its, after_step, tells, stay}
use Rattle.rme_world.proofs.Worlds.{step_kept}

recovers : (stage : Stage) → phase_of stage ≡ phase.Recover → (recovery : Recovery) × (stage ≡ Recovering recovery)
recovers Resting e = absurd (cc)
recovers (Recovering recovery) e = (recovery, refl)
recovers (Posting slate) e = absurd (cc)
recovers (Climbing ascent) e = absurd (cc)
recovers (Logging log) e = absurd (cc)
recovers (Copying redo) e = absurd (cc)
recovers (Leaving departure) e = absurd (cc)

module _ (old new : WorldView) (worker : ℕ) (note : Note) (kept : WorldInvariant old) (steps : StepChange old worker note new) where
  pub comes_back : (lock : ℕ) → lock < old.shape.locks → owner_in old.shape (world_memory old) lock ≡ Some worker → WorkerIsInPhase old worker phase.Recover → BoundedReentry old new worker lock note
  comes_back lock below owns (private, found, recover) =
      let same_private : private ≡ steps.private = same_Some _ _ (same_Some _ _ (sym found ∙ steps.found)) in
      let there : (recovery : Recovery) × (steps.private.stage ≡ Recovering recovery) = recovers steps.private.stage (ap (λ (p : Private). phase_of p.stage) (sym same_private) ∙ recover) in
      let here = within old new worker note kept steps in
      let goes : BoundedReentryStep old.shape lock there.0 (outcome_at old.shape steps.private.worker steps.private.begun steps.private.stage steps.value)
      = returning old.shape (world_memory old) (world_memory new) (world_privates old) old.history worker lock steps.private there.0 steps.value kept.fact here (up old new worker note kept steps) there.1 below owns steps.did in
      let stay_here = stay old new worker note kept steps in
      let Q : Stage → Type 0 = λ (s : Stage). StepsTaken old.shape stay_here.first s (phase_count (worker_counts old worker) (phase_of s)) in
      let place : phase_count (worker_counts old worker) phase.Recover ≡ steps_made_in_recovery there.0 = taken_in_recovery old.shape stay_here.first there.0 _ (subst Q there.1 stay_here.taken) in
      record {
        before = λ early. (let went = goes.before (omega (arith, early, place)) in
            (steps.says ∙ went.0, (private_after old.shape steps.private steps.value, after_step old new worker note kept steps, went.1)));
        there = λ at. steps.says ∙ goes.there (sym place ∙ at);
        within = omega (arith, goes.most, place);
      }

  pub gives_up : (number : ℕ) → note ≡ Withdrew number → NumberIsWithdrawn new worker number
  gives_up number withdrew =
      let tale = tells old new worker note kept steps (Withdrew number) withdrew in
      let here = within old new worker note kept steps in
      let fits = kept.fact.fits worker steps.private here (up old new worker note kept steps) in
      let own = its old new worker note kept steps in
      let knows = rw tale.2 at fits.knows in
      let did : StoreEffect (world_memory old) (world_memory new) (Done worker) steps.private.begun = rw (own.0, tale.2) at steps.did in
      let told : note ≡ Withdrew steps.private.begun = steps.says ∙ ap (λ (s : Stage). (outcome_at old.shape steps.private.worker steps.private.begun s steps.value).1) tale.2 in
      let is_number : number ≡ steps.private.begun = same_withdrew number steps.private.begun (sym withdrew ∙ told) in
      let done : (world_worker_words new worker).done ≡ steps.private.begun = did.at in
      let begun : (world_worker_words new worker).begun ≡ steps.private.begun = did.off (Begun worker) (λ q. cc) ∙ knows.0.known in
      let place : (world_worker_words new worker).place ≡ withdrawn_place = did.off (Place worker) (λ q. cc) ∙ knows.1 in
      let pending : (worker_words (world_memory old) worker).done < (worker_words (world_memory old) worker).begun = ltb-true _ _ knows.0.pending in
      let after : WorldInvariant new = step_kept old new worker note steps kept in
      let shape_is : new.shape ≡ old.shape = ap (λ (s : WorldView). s.shape) steps.goes in
      let account = after.fact.accounts worker (omega (arith, here, ap (λ (s : Shape). s.workers) shape_is)) in
      let gone = account.withdrawn (le-ltb _ _ (omega (arith, done, begun))) (omega (arith, begun, knows.0.known, pending)) place in
      record {
        last_number = is_number ∙ sym done;
        no_entry = ap (has_entry new.history worker) (is_number ∙ sym done) ∙ gone.no_entry;
        no_receipt = λ has. has.kept place;
      }
    where
      same_withdrew : (a b : ℕ) → Withdrew a ≡ Withdrew b → a ≡ b
      same_withdrew a b e = cc

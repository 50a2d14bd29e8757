-- The operations of all threads, in their order, are a run of the abstract machine.
use Rattle.std.proofs.Common.{◌≡◌, ℕ, ◌+◌, ◌/◌, ◌<◌, List, [], ◌∷◌, ◌++◌, refl, sym, ap, subst}
use Rattle.rme_words.specs.declared.shape.Shape.{Shape}
use Rattle.rme_words.specs.declared.address.Address.TheVariants.{Turn}
use Rattle.rme_script.specs.declared.job.Job.{Job}
use Rattle.rme_program.specs.declared.stage.Ascent.{Ascent}
use Rattle.rme_program.specs.declared.stage.Stage.TheVariants.{Resting, Climbing, Logging}
use Rattle.rme_program.specs.declared.stage.Log.TheVariants.{LoadTurn}
use Rattle.rme_script.specs.Jobs.{IsJob}
use Rattle.rme_machine.specs.declared.label.Act.TheVariants.{Hand, Crash, Restart, Wait}
use Rattle.rme_machine.specs.declared.label.Label.{Label}
use Rattle.rme_machine.specs.declared.label.Label.TheVariants.{Of}
use Rattle.rme_machine.specs.Changes.{history_after}
use Rattle.rme_machine.specs.Machine.{MachineState, MachineRun}
use Rattle.rme_machine.specs.AbstractState.{act_of_note}
use Rattle.rme_service_steps.specs.declared.operation.Operation.{Operation}
use Rattle.rme_service_steps.specs.declared.operation.Operation.TheVariants as operation
use Rattle.rme_service_steps.specs.Parts.{part_after_step, part_with_section, restarted_part, submitted_part, withdrawing_part}
use Rattle.rme_service_steps.specs.Rule.{ServiceState, ServiceStateInvariant, service_abstract_state, table_memory, parts_with_update}
use Rattle.rme_service_steps.specs.Running.{IsServiceRun, OperationMayCome, ServiceRefinementLaw, state_after_operation, labels_of_operation, next_action, next_note, next_value, state_with_part}
use Rattle.rme_service_steps.specs.Steps.{words_after}
use Rattle.rme_service_steps.proofs.Keeping.{keeps}
use Rattle.rme_service_steps.proofs.Reading.{read_world, read_runs}
use Rattle.rme_service_steps.proofs.Leading.{restart_runs, submit_runs, withdraw_runs}

-- A run, and then another.
run_then : (shape : Shape) (ls ms : List Label) (a b c : MachineState) → MachineRun shape a ls b → MachineRun shape b ms c → MachineRun shape a (ls ++ ms) c
run_then shape [] ms a b c one two = subst (λ (x : MachineState). MachineRun shape x ms c) one two
run_then shape (l ∷ ls) ms a b c (mid, step, rest) two = (mid, step, run_then shape ls ms mid b c rest two)

module _ (shape : Shape) (old : ServiceState) (world : ServiceStateInvariant shape old) (worker : ℕ) (within : worker < shape.workers) where
  -- The worker's part names it.
  own : (old.parts worker).worker ≡ worker
  own = (world.books worker within).own

  below : (old.parts worker).worker < shape.workers
  below = subst (λ (w : ℕ). w < shape.workers) (sym own) within

  here : old.parts (old.parts worker).worker ≡ old.parts worker
  here = ap old.parts own

  -- What holds under the number that the part names holds under the worker's.
  by_worker : (P : ℕ → Type 0) → P (old.parts worker).worker → P worker
  by_worker P its = subst P own its

  restarts_run : IsServiceRun shape old (labels_of_operation shape (operation.Restart worker) old) (state_after_operation shape (operation.Restart worker) old)
  restarts_run =
      by_worker (λ (w : ℕ). IsServiceRun shape old (Of w Crash ∷ Of w Restart ∷ []) (state_with_part old w (restarted_part (old.parts worker))))
      (restart_runs shape (old.parts worker) old.words old.parts old.history world below here)

  reads_run : (lock : ℕ) → (old.parts worker).private.stage ≡ Logging (LoadTurn lock)
      → IsServiceRun shape old [] (state_with_part old worker (part_with_section (old.parts worker) (table_memory shape old.words (Turn lock) / 2)))
  reads_run lock at =
      let part = old.parts worker in
      by_worker (λ (w : ℕ). IsServiceRun shape old [] (state_with_part old w (part_with_section part (table_memory shape old.words (Turn lock) / 2))))
      record {
        world = read_world shape old.words old.parts old.history part lock world below here at;
        run = read_runs shape old.words old.parts old.history part lock world below here at;
      }

  submits_run : (job : Job) → (old.parts worker).private.stage ≡ Resting → (old.parts worker).private.begun < shape.jobs → IsJob shape job
      → IsServiceRun shape old (labels_of_operation shape (operation.Submit worker job) old) (state_after_operation shape (operation.Submit worker job) old)
  submits_run job rests few is =
      by_worker (λ (w : ℕ). IsServiceRun shape old (Of w (Hand ((old.parts worker).private.begun + 1) job) ∷ []) (state_with_part old w (submitted_part job (old.parts worker))))
      (submit_runs shape (old.parts worker) old.words old.parts old.history world below here job rests few is)

  withdraws_run : (ascent : Ascent) → (old.parts worker).private.stage ≡ Climbing ascent
      → IsServiceRun shape old (labels_of_operation shape (operation.Withdraw worker) old) (state_after_operation shape (operation.Withdraw worker) old)
  withdraws_run ascent climbs =
      by_worker (λ (w : ℕ). IsServiceRun shape old (Of w Wait ∷ []) (state_with_part old w (withdrawing_part (old.parts worker))))
      (withdraw_runs shape (old.parts worker) old.words old.parts old.history world below here ascent climbs)

  -- After an own step, under this number.
  stepped : ℕ → ServiceState
  stepped w = record {
    words = words_after shape old.words (next_action shape old worker);
    parts = parts_with_update old.parts w (part_after_step shape (old.parts worker) (next_value shape old worker));
    history = history_after old.history (table_memory shape old.words) w (next_note shape old worker);
  }

  steps_run : OperationMayCome shape (operation.Step worker) old → IsServiceRun shape old (labels_of_operation shape (operation.Step worker) old) (state_after_operation shape (operation.Step worker) old)
  unfolding stepped
  steps_run may =
      let kept = keeps shape old (old.parts worker) world below here may.1 may.2 in
      by_worker (λ (w : ℕ). IsServiceRun shape old (Of w (act_of_note (next_note shape old worker)) ∷ []) (stepped w))
      record { world = kept.world; run = (service_abstract_state shape (stepped (old.parts worker).worker), kept.does, refl) }

comes : (shape : Shape) (one : Operation) (old : ServiceState) → ServiceStateInvariant shape old → OperationMayCome shape one old → IsServiceRun shape old (labels_of_operation shape one old) (state_after_operation shape one old)
comes shape operation.Look old world may = record { world = world; run = refl }
comes shape (operation.ReadSection worker lock) old world may = reads_run shape old world worker may.0 lock may.1
comes shape (operation.Restart worker) old world may = restarts_run shape old world worker may
comes shape (operation.Submit worker job) old world may = submits_run shape old world worker may.0 job may.1 may.2 may.3
comes shape (operation.Withdraw worker) old world may = withdraws_run shape old world worker may.0 may.1 may.2
comes shape (operation.Step worker) old world may = steps_run shape old world worker may.0 may

-- Any operations, one after another.
pub running : ServiceRefinementLaw
running shape old [] world may = record { world = world; run = refl }
running shape old (one ∷ others) world may =
    let first = comes shape one old world may.0 in
    let rest = running shape (state_after_operation shape one old) others first.world may.1 in
    record { world = rest.world; run = run_then shape _ _ _ _ _ first.run rest.run }

-- BEING INSIDE A LOCK. What may be done to a worker that owns a lock without its leaving the lock.
use Rattle.std.specs.Prelude.{◌≡◌, ℕ, List, [], ◌∷◌, Some, slice_get}
use Rattle.rme_words.specs.declared.shape.Shape.{Shape}
use Rattle.rme_program.specs.declared.kinds.Phase.TheVariants.{Recover}
use Rattle.rme_program.specs.Phases.{phase_of}
use Rattle.rme_machine.specs.Theorems.{OnlyWorkerAt}
use Rattle.rme_service_steps.specs.declared.operation.Operation.{Operation}
use Rattle.rme_service_steps.specs.declared.operation.Operation.TheVariants as operation
use Rattle.rme_service_steps.specs.Rule.{ServiceState, ServiceStateInvariant, service_abstract_state}
use Rattle.rme_service_steps.specs.Running.{OperationsMayCome, state_after_operations, state_after_operation, labels_of_operations}

-- If the operation is an own step of the worker, it is a step of Recover. Steps of other workers, and other operations
-- on the worker, are free.
abbrev pub OperationOnlyRecovers : Shape → ℕ → Operation → ServiceState → Type 0
OperationOnlyRecovers shape worker (operation.Step who) old =
    who ≡ worker → phase_of (old.parts who).private.stage ≡ Recover
OperationOnlyRecovers shape worker one old = Unit {0}

abbrev pub OperationsOnlyRecover : Shape → ℕ → List Operation → ServiceState → Type 0
OperationsOnlyRecover shape worker [] old = Unit {0}
OperationsOnlyRecover shape worker (one ∷ others) old =
    OperationOnlyRecovers shape worker one old
    × OperationsOnlyRecover shape worker others (state_after_operation shape one old)

-- While a worker that owns a lock makes only own steps of Recover, no other worker takes, re-enters, finishes in or
-- leaves that lock, and the worker remains its owner. The worker may crash and restart any number of times.
abbrev pub InsideLaw : Type 0
InsideLaw =
    (shape : Shape) (old : ServiceState) (operations : List Operation) (worker lock : ℕ)
    → ServiceStateInvariant shape old → OperationsMayCome shape operations old
    → slice_get (service_abstract_state shape old).owners lock ≡ Some (Some worker)
    → OperationsOnlyRecover shape worker operations old
    → OnlyWorkerAt worker lock (labels_of_operations shape operations old)
    × (slice_get (service_abstract_state shape (state_after_operations shape operations old)).owners lock ≡ Some
    (Some worker))

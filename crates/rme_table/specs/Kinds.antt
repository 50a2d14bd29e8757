-- The invariants of the values of a worker that is up: the step before which the worker is.
use Rattle.std.specs.Prelude.{Bool}
use Rattle.rme_program.specs.declared.stage.Stage.TheVariants.{Resting, Climbing}
use Rattle.std.specs.Prelude.{ℕ}
use Rattle.rme_program.specs.Steps.{reentry_stage}
use Rattle.rme_service_steps.specs.SeatViews.{SeatView}
use Rattle.rme_service_steps.specs.CallSteps.{PartIsAtStage}

-- The worker of a Ready is ready, and knows `begun`.
abbrev pub ReadyInvariant : SeatView → ℕ → Type 0
ReadyInvariant stand begun = PartIsAtStage stand.ident.shape stand.part begun Resting

-- The worker of a Climb waits, and holds `held` levels.
abbrev pub ClimbInvariant : SeatView → ℕ → ℕ → ℕ → Type 0
ClimbInvariant stand begun lock held =
    PartIsAtStage stand.ident.shape stand.part begun (Climbing record { lock = lock; held = held })

-- The worker of a Held owns the lock: it is before its section, or before the exit of a finished one.
abbrev pub HeldInvariant : SeatView → ℕ → ℕ → Bool → Type 0
HeldInvariant stand begun lock pending = PartIsAtStage stand.ident.shape stand.part begun (reentry_stage pending lock)

-- The planned crash of a client.
use Rattle.std.specs.Prelude.{◌≡◌, ℕ, ◌+◌, ◌<◌, Bool, true, false}
use Rattle.rme_session_protocol.specs.declared.planned_crash.Countdown.{Countdown}
use Rattle.rme_session_protocol.specs.declared.planned_crash.Countdown.TheVariants.{Runs, Fallen}
use Rattle.rme_session_protocol.specs.declared.planned_crash.PlannedCrash.{PlannedCrash}
use Rattle.rme_session_protocol.specs.declared.planned_crash.PlannedCrash.TheVariants.{Nothing, After}

-- The plan after a number of own steps without a crash: the crash comes earlier by that number. Without a plan there is
-- none afterwards. (A plan counts with 32 bits.)
abbrev pub PlanAfterSteps : PlannedCrash → ℕ → PlannedCrash → Type 0
PlanAfterSteps Nothing made Nothing = Unit {0}
PlanAfterSteps Nothing made (After rest) = ⊥
PlanAfterSteps (After left) made Nothing = ⊥
PlanAfterSteps (After left) made (After rest) = left < 4294967296 → left ≡ rest + made

-- A crash is due after exactly the planned number of own steps.
abbrev pub IsCrashDue : PlannedCrash → ℕ → Type 0
IsCrashDue Nothing made = ⊥
IsCrashDue (After left) made = left < 4294967296 → made ≡ left

-- The plan afterwards: a crash uses it up.
abbrev pub planned_after : Countdown → PlannedCrash
planned_after (Runs planned) = planned
planned_after Fallen = Nothing

-- A tick of the plan before the worker's next own step: it answers whether the worker crashes now. The worker crashes
-- if the crash is due; otherwise the crash comes one step earlier. A tick after the crash answers yes again, and then
-- nothing is planned.
abbrev pub CountdownTick : Countdown → Bool → Countdown → Type 0
CountdownTick (Runs Nothing) false (Runs Nothing) = Unit {0}
CountdownTick (Runs (After left)) false (Runs (After rest)) = (left ≡ rest + 1) × (left < 4294967296)
CountdownTick (Runs (After left)) true Fallen = left ≡ 0
CountdownTick Fallen true (Runs Nothing) = Unit {0}
CountdownTick old answer now = ⊥

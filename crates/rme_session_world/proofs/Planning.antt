-- A plan that is ticked before each own step.
use Rattle.std.proofs.Common.{◌≡◌, ℕ, ◌+◌, arith}
use Rattle.std.specs.Prelude.{false}
use Rattle.rme_session_protocol.specs.PlannedCrashes.{CountdownTick, PlanAfterSteps}
use Rattle.rme_session_protocol.specs.declared.planned_crash.Countdown.{Countdown}
use Rattle.rme_session_protocol.specs.declared.planned_crash.Countdown.TheVariants.{Runs, Fallen}
use Rattle.rme_session_protocol.specs.declared.planned_crash.PlannedCrash.{PlannedCrash}
use Rattle.rme_session_protocol.specs.declared.planned_crash.PlannedCrash.TheVariants.{Nothing, After}

-- It was ticked before this number of steps, and still runs.
abbrev pub RunsOn : PlannedCrash → ℕ → Countdown → Type 0
RunsOn planned steps (Runs left) = PlanAfterSteps planned steps left
RunsOn planned steps Fallen = ⊥

pub runs_first : (planned : PlannedCrash) → RunsOn planned 0 (Runs planned)
runs_first Nothing = tt
runs_first (After left) = λ small. omega arith

pub runs_on : (planned : PlannedCrash) (steps more : ℕ) (old now : Countdown) → more ≡ steps + 1 → RunsOn planned steps old → CountdownTick old false now → RunsOn planned more now
runs_on planned steps more Fallen now is on asked = absurd on
runs_on planned steps more (Runs Nothing) Fallen is on asked = absurd asked
runs_on planned steps more (Runs (After left)) Fallen is on asked = absurd asked
runs_on Nothing steps more (Runs Nothing) (Runs Nothing) is on asked = tt
runs_on Nothing steps more (Runs Nothing) (Runs (After rest)) is on asked = absurd asked
runs_on (After first) steps more (Runs Nothing) (Runs now) is on asked = absurd on
runs_on Nothing steps more (Runs (After left)) (Runs now) is on asked = absurd on
runs_on (After first) steps more (Runs (After left)) (Runs Nothing) is on asked = absurd asked
runs_on (After first) steps more (Runs (After left)) (Runs (After rest)) is on asked = λ small. (let sum = on small in omega (arith, sum, asked.0, is))

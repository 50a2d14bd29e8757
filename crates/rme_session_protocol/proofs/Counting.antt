-- Planned crashes that are ticked before each own step of consecutive runs.
use Rattle.std.proofs.Common.{ℕ, ◌+◌, ◌<◌, arith}
use Rattle.rme_session_protocol.specs.PlannedCrashes.{IsCrashDue, PlanAfterSteps}
use Rattle.rme_session_protocol.specs.declared.planned_crash.PlannedCrash.{PlannedCrash}
use Rattle.rme_session_protocol.specs.declared.planned_crash.PlannedCrash.TheVariants.{Nothing, After}

pub left_on : (a b c : PlannedCrash) (m n : ℕ) → PlanAfterSteps a m b → PlanAfterSteps b n c → PlanAfterSteps a (m + n) c
left_on Nothing Nothing Nothing m n first then_ = tt
left_on Nothing Nothing (After last) m n first then_ = absurd then_
left_on Nothing (After left) c m n first then_ = absurd first
left_on (After left) Nothing c m n first then_ = absurd first
left_on (After left) (After rest) Nothing m n first then_ = absurd then_
left_on (After left) (After rest) (After last) m n first then_ = λ small.
    (let one = first small in let less : rest < 4294967296 = omega (arith, one, small) in let two = then_ less in omega (arith, one, two))

pub due_on : (a b : PlannedCrash) (m n : ℕ) → PlanAfterSteps a m b → IsCrashDue b n → IsCrashDue a (m + n)
due_on Nothing Nothing m n first due = absurd due
due_on Nothing (After rest) m n first due = absurd first
due_on (After left) Nothing m n first due = absurd due
due_on (After left) (After rest) m n first due = λ small.
    (let one = first small in let less : rest < 4294967296 = omega (arith, one, small) in let two = due less in omega (arith, one, two))

-- Without a step a plan is unchanged.
pub leaves_none : (planned : PlannedCrash) → PlanAfterSteps planned 0 planned
leaves_none Nothing = tt
leaves_none (After left) = λ small. omega arith

-- The planned crash of a client, as a Chance.
use Rattle.std.specs.Prelude.{◌-◌, Some, None}
use Rattle.rme_service_steps.specs.Chances.{ChanceCounts}
use Rattle.rme_session_protocol.specs.declared.planned_crash.Countdown.{Countdown}
use Rattle.rme_session_protocol.specs.declared.planned_crash.Countdown.TheVariants.{Runs, Fallen}
use Rattle.rme_session_protocol.specs.declared.planned_crash.PlannedCrash.{PlannedCrash}
use Rattle.rme_session_protocol.specs.declared.planned_crash.PlannedCrash.TheVariants.{Nothing, After}

-- The view of a plan in contracts. It answers yes once; without a plan it has already done so. Its ticks are counted so
-- that it has been asked 2^32 times when its yes is due; a plan counts with 32 bits.
abbrev pub plan_tally : PlannedCrash → ChanceCounts
plan_tally Nothing = record { yeses = 1; questions = None }
plan_tally (After left) = record { yeses = 0; questions = Some (4294967296 - left) }

-- The view of a plan during an order. Its yes is counted, and if it is asked again afterwards it answers yes once more;
-- without a plan it has already done so. So one yes implies that it was the last answer.
abbrev pub countdown_tally : Countdown → ChanceCounts
countdown_tally (Runs Nothing) = record { yeses = 2; questions = None }
countdown_tally (Runs (After left)) = record { yeses = 0; questions = Some (4294967296 - left) }
countdown_tally Fallen = record { yeses = 1; questions = Some 4294967297 }

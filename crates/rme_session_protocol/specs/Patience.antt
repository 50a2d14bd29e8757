-- The patience of an order: how long it tries.
use Rattle.std.specs.Prelude.{ℕ}
use Rattle.rme_session_protocol.specs.declared.order.Patience.{Patience}
use Rattle.rme_session_protocol.specs.declared.order.Patience.TheVariants.{Tries, Wait}

-- the number of sweeps that are made at least if the job waits afterwards
abbrev pub least_tries : Patience → ℕ
least_tries (Tries tries) = tries
least_tries (Wait milliseconds) = 1

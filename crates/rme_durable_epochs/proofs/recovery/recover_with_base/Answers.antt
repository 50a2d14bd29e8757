use Rattle.std.proofs.Common.{inr, refl}
use Rattle.std.proofs.lemmas.Bool.{false≢true}
use Rattle.rme_durable_format.specs.Headers.{header_values}
use Rattle.rme_durable_epochs.proofs.recovery.recover_with_base.Goals as goal

pub returns-in-None-clause-err : goal.returns-in-None-clause-err
returns-in-None-clause-err g c =
    let log = c.in-Ok.log in
    let room = rw c.in-None.is at c.in_ok-base.ensures.room in
    inr (refl, record { names = log.names; world = log.world; past = header_values log.header; recovers = c.in-Ok.ensures.ok; begins = c.in-Ok.ensures.header; full = λ fits. false≢true (room.1 fits) })

use Rattle.rme_cli_messages.proofs.fault.CliFaultDisplay.fmt.Goals as goal

pub returns-in-OtherLocks-clause-writes : goal.returns-in-OtherLocks-clause-writes
returns-in-OtherLocks-clause-writes g c = rw c.in-OtherLocks.is c.write-in-OtherLocks.ensures.writes

use Rattle.std.proofs.Common.{◌∙◌}
use Rattle.rme_replica.specs.KnownLogs.{log_of}
use Rattle.rme_replica.proofs.Memory.{own_bytes_named}
use Rattle.rme_replica.proofs.memory_log.MemoryLog.new.Goals as goal

pub returns-clause-bytes : goal.returns-clause-bytes
unfolding log_of
returns-clause-bytes c = own_bytes_named _ _ _ ∙ c.new.ensures.items

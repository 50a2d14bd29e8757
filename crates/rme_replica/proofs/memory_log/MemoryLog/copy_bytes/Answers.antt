use Rattle.std.proofs.Common.{◌∙◌, sym}
use Rattle.rme_replica.specs.KnownLogs.{log_of}
use Rattle.rme_replica.proofs.Memory.{own_bytes_named}
use Rattle.rme_replica.proofs.memory_log.MemoryLog.copy_bytes.Goals as goal

pub returns : goal.returns
unfolding log_of
returns c = c.in_ok-copy.ensures.items_if_clones_equal (λ x y e. e) ∙ (c.as_slice.ensures.value ∙ sym (own_bytes_named _ _ _))

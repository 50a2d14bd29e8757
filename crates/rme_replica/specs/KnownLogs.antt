-- What log a log in memory is.
use Rattle.std.specs.Prelude.{map}
use Rattle.rme_replica.specs.EngineLogs.{EngineLog}
use Rattle.rme_replica.specs.MemoryLogs.{bytes_named}
use Rattle.rme_replica.specs.declared.memory_log.MemoryLog.{MemoryLog}

unfoldable pub log_of : MemoryLog → EngineLog
log_of log = record {
  head = log.head;
  bytes_at = bytes_named log.head log.bytes.items log.past;
  parts = map (λ part. part.items) log.parts.items;
}

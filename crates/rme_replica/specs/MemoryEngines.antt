-- The log of an engine in memory.
use Rattle.rme_replica.specs.EngineLogs.{EngineLog}
use Rattle.rme_replica.specs.KnownLogs.{log_of}
use Rattle.rme_replica.specs.declared.memory_engine.MemoryEngine.{MemoryEngine}

abbrev pub engine_log : MemoryEngine → EngineLog
engine_log engine = log_of engine.log

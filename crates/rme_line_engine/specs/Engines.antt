-- The state of an engine.
use Rattle.rme_line_engine.specs.declared.engine.Engine.{Engine}
use Rattle.rme_line_engine.specs.EngineStates.{EngineState}

abbrev pub engine_state_of : Engine → EngineState
engine_state_of engine = record { names = engine.names; world = engine.world }

use Rattle.std.proofs.Common.{refl}
use Rattle.rme_line_engine.specs.Engines.{engine_state_of}
use Rattle.rme_line_engine.proofs.EngineLemmas.{commanded, not_open}
use Rattle.rme_line_engine.proofs.engine.Engine.obey_request.Goals as goal

pub returns-in-None : goal.returns-in-None
returns-in-None c = let self = c.args.self.now in rw c.in-World.is (not_open self.world (engine_state_of self) c.in-World.command c.in-None.is)

pub returns-in-Some : goal.returns-in-Some
returns-in-Some c =
    let self = c.args.self.now in
    rw c.in-World.is (commanded self.world (engine_state_of self) _ c.in-World.command c.in-Some.world c.obey.new.self c.obey.result c.in-Some.is c.obey.ensures refl)

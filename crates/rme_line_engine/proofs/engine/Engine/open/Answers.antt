use Rattle.std.proofs.Common.{refl, sym}
use Rattle.rme_line_engine.specs.Engines.{engine_state_of}
use Rattle.rme_line_engine.proofs.EngineLemmas.{already_open, may_not_open, opens_world}
use Rattle.rme_line_engine.proofs.engine.Engine.open.Goals as goal

pub returns-then-is_some : goal.returns-then-is_some
returns-then-is_some c = let self = c.args.self.now in already_open self.world (engine_state_of self) c.args.opening.now (sym c.if-is_some.ensures)

pub returns-in-Err : goal.returns-in-Err
returns-in-Err c = let self = c.args.self.now in may_not_open self.world (engine_state_of self) c.args.opening.now c.in-Err.refusal (sym c.if-is_some.ensures) c.in-Err.ensures.err

pub returns-in-Ok : goal.returns-in-Ok
returns-in-Ok c =
    let self = c.args.self.now in
    let opened = c.in-Ok.ensures.ok in
    opens_world self.world (engine_state_of self) _ c.args.opening.now opened.2.0 c.in-Ok.opened.names c.in-Ok.opened.world (sym c.if-is_some.ensures) opened.0 opened.2.1 opened.1 opened.2.2 refl

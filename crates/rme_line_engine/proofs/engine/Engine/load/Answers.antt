use Rattle.std.proofs.Common.{Ok, Err, refl}
use Rattle.rme_line_engine.proofs.engine.Engine.load.Goals as goal

pub returns-in-Err : goal.returns-in-Err
returns-in-Err c = (Err c.in-Err.refusal, (c.in-Err.ensures.err, refl, refl))

pub returns : goal.returns
returns c = (Ok c.in-Ok.loaded.world, (c.in-Ok.ensures.ok, refl, refl))

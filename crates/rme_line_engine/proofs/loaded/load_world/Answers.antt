use Rattle.rme_line_engine.proofs.loaded.load_world.Goals as goal

pub returns-then-not-may_name-clause-err : goal.returns-then-not-may_name-clause-err
returns-then-not-may_name-clause-err c = (c.in-Ok.world, c.in-Ok.ensures, λ may. absurd (let yes_ = c.may_name.ensures.1 may in let no_ = c.if-not-may_name.true in cc))

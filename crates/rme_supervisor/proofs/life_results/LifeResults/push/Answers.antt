use Rattle.std.proofs.Common.{rules}
use Rattle.rme_supervisor.proofs.Rests.{rested_lives, settled_more}
use Rattle.rme_supervisor.proofs.life_results.LifeResults.push.Goals as goal

pub returns-clause-settled : goal.returns-clause-settled
returns-clause-settled g c =
    settled_more _ _ _ _ _ _ _ _ _ _ _ c.requires.settled c.push_reserved.ensures.items c.push_reserved-2.ensures.items c.push_reserved-3.ensures.items (search rules) (search rules) (search (rules, rested_lives))

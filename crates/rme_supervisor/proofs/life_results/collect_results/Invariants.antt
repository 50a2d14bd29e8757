use Rattle.std.specs.Prelude.{◌≡◌, length}
use Rattle.std.specs.Vec.Iter.{into_iter_items, into_iter_len}
use Rattle.rme_supervisor.specs.LifeResults.{ResultsFollowPlans, ResultsHaveRoom}
use Rattle.rme_supervisor.proofs.life_results.collect_results.Given as goal

abbrev pub invariant-loop-slot : goal.invariant-loop-slot
invariant-loop-slot g l = ResultsHaveRoom (into_iter_len l.slot-iterator) l.settled × ResultsFollowPlans g.K.Tag.ident g.K.RunTag.run l.settled
    × (into_iter_len l.slot-iterator ≡ length (into_iter_items l.slot-iterator))

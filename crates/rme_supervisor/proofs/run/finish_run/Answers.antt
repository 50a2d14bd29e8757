use Rattle.rme_supervisor.specs.Supervised.{DownsFollowPlans, all_fresh}
use Rattle.rme_supervisor.proofs.Ending.{not_whole, over, whole_so}
use Rattle.rme_supervisor.proofs.run.finish_run.Goals as goal

pub returns-then-not-are_downs_as_planned-clause-unattended : goal.returns-then-not-are_downs_as_planned-clause-unattended
returns-then-not-are_downs_as_planned-clause-unattended g c =
    let s = c.args.settled in
    let run = g.K.RunTag.run in record {
      ours = c.requires.settled.ours;
      why = record {
        ends = s.ends.items;
        lives = s.lives.items;
        settled = c.requires.settled;
        amiss = not_whole c.shape.result c.args.service.now.shape _ run.rounds _ run.plans _ (all_fresh run.given) _ s.downs.items _ s.ends.items c.shape.ensures c.requires.rounds c.requires.plans.1 c.requires.fresh c.deref.ensures.value c.deref-2.ensures.value
            c.are_downs_as_planned.result c.are_downs_as_planned.ensures c.if-not-are_downs_as_planned.true;
      };
    }

pub returns-clause-ours : goal.returns-clause-ours
returns-clause-ours g c = c.requires.settled.ours

pub returns-clause-attended : goal.returns-clause-attended
returns-clause-attended g c =
    let s = c.args.settled in
    let run = g.K.RunTag.run in
    let whole : DownsFollowPlans c.args.service.now.shape run.rounds run.plans (all_fresh run.given) s.downs.items s.ends.items =
    whole_so c.shape.result c.args.service.now.shape _ run.rounds _ run.plans _ (all_fresh run.given) _ s.downs.items _ s.ends.items c.shape.ensures c.requires.rounds c.requires.plans.1 c.requires.fresh c.deref.ensures.value c.deref-2.ensures.value
    (c.are_downs_as_planned.ensures.0 c.if-not-are_downs_as_planned.false) in
    over c.args.service.now run s c.requires.settled whole.all whole.follow

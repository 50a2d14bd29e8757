use Rattle.rme_service_steps.specs.Parts.{submitted_part}
use Rattle.std.proofs.Common.{◌<◌, ◌≤◌, arith}
use Rattle.std.specs.Prelude.{Some}
use Rattle.rme_session_threads.proofs.Planning.{fallen, spared, spent_on}
use Rattle.rme_session_threads.proofs.Working.{posted_did, tried_since}
use Rattle.rme_session_threads.proofs.work.post.Goals as goal

pub returns-in-Ok-clause-plan : goal.returns-in-Ok-clause-plan
returns-in-Ok-clause-plan c =
    let ready = c.args.admitted.ready in
    let climb = c.in-Ok.climb in
    let old = c.args.planned.now.countdown in
    let mid = c.post.new.chance.countdown in
    let made = c.in-Ok.ensures.made in
    let posted = spared c.args.service.now.shape (submitted_part c.args.admitted.job) ready climb old mid made.walks made.stays.ident made.stays.own in
    let counted = made.counted in
    let enough = made.enough in
    let more : ready.part.steps < climb.part.steps = omega (arith, counted, enough) in
    spent_on c.args.service.now.shape (submitted_part c.args.admitted.job) (Some ready) (Some climb) more old mid c.climb_to.new.planned.countdown c.climb_to.result posted c.climb_to.ensures.plan

pub returns-in-Err-clause-plan : goal.returns-in-Err-clause-plan
returns-in-Err-clause-plan c =
    let falls = c.in-Err.ensures.made in
    fallen c.args.service.now.shape (submitted_part c.args.admitted.job) c.args.admitted.ready c.in-Err.down c.args.planned.now.countdown c.post.new.chance.countdown falls.walks falls.ident falls.own

pub returns-in-Ok-clause-tried : goal.returns-in-Ok-clause-tried
returns-in-Ok-clause-tried c =
    let ready = c.args.admitted.ready.part in
    let climb = c.in-Ok.climb.part in
    let counted = c.in-Ok.ensures.made.counted in
    let more : ready.steps ≤ climb.steps = omega (arith, counted) in tried_since c.args.tries ready.steps climb.steps c.climb_to.result more c.climb_to.ensures.tried

pub returns-in-Ok-clause-did : goal.returns-in-Ok-clause-did
returns-in-Ok-clause-did c =
    let made = c.in-Ok.ensures.made in
    let posted = c.in-Ok.ensures.posted in
    posted_did c.args.admitted.ready c.in-Ok.climb c.args.admitted.job posted.draft made.stays.entries made.stays.own posted.number c.args.goal c.climb_to.result c.climb_to.ensures.did

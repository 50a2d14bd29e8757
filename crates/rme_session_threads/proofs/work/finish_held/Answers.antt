use Rattle.rme_table.specs.declared.driving.Driven.TheVariants as driven
use Rattle.rme_table.proofs.GoingOn.{goes_fell}
use Rattle.rme_session_threads.specs.CrashPlans.{countdown_tally}
use Rattle.rme_session_threads.proofs.Finishing.{fell_leaving, known_place, left_lock}
use Rattle.rme_session_threads.proofs.Working.{driven_did, driven_ours, driven_plan}
use Rattle.rme_session_threads.proofs.work.finish_held.Goals as goal

pub returns-in-Ok-exit-clause-ours : goal.returns-in-Ok-exit-clause-ours
returns-in-Ok-exit-clause-ours c =
    let drives = left_lock c.args.service.now.shape c.args.held c.in-Ok.done.0 c.args.planned.now.countdown c.perform.new.chance.countdown c.in-Ok.done.1 _ c.requires.pending c.in-Ok.ensures
    c.in-Ok-exit.ready c.exit.new.chance.countdown _ _ c.in-Ok-exit.ensures.made c.in-Ok-exit.ensures.number in
    driven_ours c.args.service.now.shape c.args.held c.args.planned.now.countdown c.exit.new.chance.countdown 0 0 c.args.service.now (driven.Done c.in-Ok-exit.ready c.in-Ok.done.1) drives tt

pub returns-in-Ok-exit-clause-did : goal.returns-in-Ok-exit-clause-did
returns-in-Ok-exit-clause-did c =
    let drives = left_lock c.args.service.now.shape c.args.held c.in-Ok.done.0 c.args.planned.now.countdown c.perform.new.chance.countdown c.in-Ok.done.1 _ c.requires.pending c.in-Ok.ensures
    c.in-Ok-exit.ready c.exit.new.chance.countdown _ _ c.in-Ok-exit.ensures.made c.in-Ok-exit.ensures.number in
    driven_did c.args.service.now.shape c.args.held c.args.planned.now.countdown c.exit.new.chance.countdown 0 0 (driven.Done c.in-Ok-exit.ready c.in-Ok.done.1) drives tt

pub returns-in-Ok-exit-clause-plan : goal.returns-in-Ok-exit-clause-plan
returns-in-Ok-exit-clause-plan c =
    let drives = left_lock c.args.service.now.shape c.args.held c.in-Ok.done.0 c.args.planned.now.countdown c.perform.new.chance.countdown c.in-Ok.done.1 _ c.requires.pending c.in-Ok.ensures
    c.in-Ok-exit.ready c.exit.new.chance.countdown _ _ c.in-Ok-exit.ensures.made c.in-Ok-exit.ensures.number in
    driven_plan c.args.service.now.shape c.args.held c.args.planned.now.countdown c.exit.new.chance.countdown 0 0 (driven.Done c.in-Ok-exit.ready c.in-Ok.done.1) drives tt

pub returns-in-Err-exit-clause-ours : goal.returns-in-Err-exit-clause-ours
returns-in-Err-exit-clause-ours c =
    let drives = fell_leaving c.args.service.now.shape c.args.held c.in-Ok.done.0 c.args.planned.now.countdown c.perform.new.chance.countdown c.in-Ok.done.1 _ c.requires.pending c.in-Ok.ensures
    c.in-Err-exit.down c.exit.new.chance.countdown _ c.in-Err-exit.ensures.made in
    driven_ours c.args.service.now.shape c.args.held c.args.planned.now.countdown c.exit.new.chance.countdown 0 0 c.args.service.now (driven.Fell c.in-Err-exit.down) drives tt

pub returns-in-Err-exit-clause-plan : goal.returns-in-Err-exit-clause-plan
returns-in-Err-exit-clause-plan c =
    let drives = fell_leaving c.args.service.now.shape c.args.held c.in-Ok.done.0 c.args.planned.now.countdown c.perform.new.chance.countdown c.in-Ok.done.1 _ c.requires.pending c.in-Ok.ensures
    c.in-Err-exit.down c.exit.new.chance.countdown _ c.in-Err-exit.ensures.made in
    driven_plan c.args.service.now.shape c.args.held c.args.planned.now.countdown c.exit.new.chance.countdown 0 0 (driven.Fell c.in-Err-exit.down) drives tt

pub returns-in-Err-clause-ours : goal.returns-in-Err-clause-ours
returns-in-Err-clause-ours c =
    let falls = goes_fell c.args.service.now.shape c.args.held c.in-Err.down (countdown_tally c.args.planned.now.countdown) (countdown_tally c.perform.new.chance.countdown) _ c.in-Err.ensures in
    driven_ours c.args.service.now.shape c.args.held c.args.planned.now.countdown c.perform.new.chance.countdown 0 0 c.args.service.now (driven.Fell c.in-Err.down) falls tt

pub returns-in-Err-clause-plan : goal.returns-in-Err-clause-plan
returns-in-Err-clause-plan c =
    let falls = goes_fell c.args.service.now.shape c.args.held c.in-Err.down (countdown_tally c.args.planned.now.countdown) (countdown_tally c.perform.new.chance.countdown) _ c.in-Err.ensures in
    driven_plan c.args.service.now.shape c.args.held c.args.planned.now.countdown c.perform.new.chance.countdown 0 0 (driven.Fell c.in-Err.down) falls tt

pub returns-in-Ok-exit-clause-place : goal.returns-in-Ok-exit-clause-place
returns-in-Ok-exit-clause-place c = known_place c.args.service.now.shape c.args.held c.in-Ok.done.0 c.args.planned.now.countdown c.perform.new.chance.countdown c.in-Ok.done.1 _ c.requires.pending c.in-Ok.ensures

use Rattle.std.proofs.Common.{◌≡◌, ℕ, ◌-◌, arith, refl, subst}
use Rattle.rme_session_threads.specs.SessionWorks.{driven_result}
use Rattle.rme_session_threads.specs.JobOutcomes.{WorkWaitsAfterTries}
use Rattle.rme_session_threads.proofs.Working.{driven_did, driven_ours, driven_plan, driven_tried, stopped_inside}
use Rattle.rme_session_threads.proofs.work.climb_and_finish.Goals as goal

pub driven_result-requires : goal.driven_result-requires
driven_result-requires c =
    let drive = c.drive_waiting-driven in record {
      inside = stopped_inside c.args.service.now.shape c.args.climb c.args.planned.now.countdown drive.new.chance.countdown c.args.service.now drive.result drive.ensures.drives drive.ensures.stops c.requires.ours;
    }

pub returns-clause-ours : goal.returns-clause-ours
returns-clause-ours c =
    let drive = c.drive_waiting-driven in
    let told = c.driven_result.ensures.result in
    rw told.2 (driven_ours c.args.service.now.shape c.args.climb c.args.planned.now.countdown drive.new.chance.countdown told.0 told.1 c.args.service.now drive.result drive.ensures.drives (drive.ensures.passes refl))

pub returns-clause-did : goal.returns-clause-did
returns-clause-did c =
    let drive = c.drive_waiting-driven in
    let told = c.driven_result.ensures.result in
    rw told.2 (driven_did c.args.service.now.shape c.args.climb c.args.planned.now.countdown drive.new.chance.countdown told.0 told.1 drive.result drive.ensures.drives (drive.ensures.passes refl))

pub returns-clause-plan : goal.returns-clause-plan
returns-clause-plan c =
    let drive = c.drive_waiting-driven in
    let told = c.driven_result.ensures.result in
    rw told.2 (driven_plan c.args.service.now.shape c.args.climb c.args.planned.now.countdown drive.new.chance.countdown told.0 told.1 drive.result drive.ensures.drives (drive.ensures.passes refl))

pub returns-clause-tried : goal.returns-clause-tried
returns-clause-tried c =
    let drive = c.drive_waiting-driven in
    let told = c.driven_result.ensures.result in
    let all : c.args.tries - 0 ≡ c.args.tries = omega arith in
    let P : ℕ → Type 0 = λ most. WorkWaitsAfterTries most c.args.climb.part.steps (driven_result told.0 told.1 drive.result) in
    rw told.2 (subst P all (driven_tried c.args.climb (record { blocked = 0; most = c.args.tries }) drive.new.tries told.0 told.1 drive.result drive.ensures.tries (drive.ensures.passes refl)))

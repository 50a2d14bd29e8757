use Rattle.std.proofs.Common.{ℕ, subst}
use Rattle.rme_session_threads.specs.JobOutcomes.{WorkWaitsAfterTries}
use Rattle.rme_session_threads.proofs.Telling.{stays_ours, stays_place, stays_tried, stays_up}
use Rattle.rme_session_threads.proofs.Working.{repeats_spares, repeats_tried, stays_spares}
use Rattle.rme_session_threads.proofs.work.perform_work.Goals as goal

pub returns-in-Repeat-clause-tried : goal.returns-in-Repeat-clause-tried
returns-in-Repeat-clause-tried c =
    rw c.in-Repeat.is (λ most has. repeats_tried c.args.service.now.shape c.in-Repeat.ready most c.in-Repeat.ready.part.steps c.repeat_last.result.0 c.repeat_last.result.1 c.repeat_last.ensures)

pub returns-in-Repeat-clause-plan : goal.returns-in-Repeat-clause-plan
returns-in-Repeat-clause-plan c =
    rw c.in-Repeat.is (repeats_spares c.args.service.now.shape c.in-Repeat.ready c.args.planned.now.countdown c.repeat_last.result.0 c.repeat_last.result.1 c.repeat_last.ensures)

pub returns-in-Post-clause-tried : goal.returns-in-Post-clause-tried
returns-in-Post-clause-tried c =
    let P : ℕ → Type 0 = λ n. WorkWaitsAfterTries n c.in-Post.admitted.ready.part.steps c.post.result in rw c.in-Post.is (λ most has. subst P has c.post.ensures.tried)

pub returns-in-GoIn-clause-tried : goal.returns-in-GoIn-clause-tried
returns-in-GoIn-clause-tried c =
    let P : ℕ → Type 0 = λ n. WorkWaitsAfterTries n c.in-GoIn.climb.part.steps c.climb_to.result in rw c.in-GoIn.is (λ most has. subst P has c.climb_to.ensures.tried)

pub returns-in-Stay-clause-plan : goal.returns-in-Stay-clause-plan
returns-in-Stay-clause-plan c =
    rw c.in-Stay.is (stays_spares c.args.service.now.shape c.in-Stay.held c.args.planned.now.countdown c.stay_inside.result.0 c.stay_inside.result.1 c.stay_inside.ensures.stays)

pub returns-in-Stay-clause-did : goal.returns-in-Stay-clause-did
returns-in-Stay-clause-did c =
    let stays = c.stay_inside.ensures.stays in rw c.in-Stay.is (stays, stays_up c.in-Stay.held c.stay_inside.result.0 c.stay_inside.result.1 stays)

pub returns-in-Stay-clause-ours : goal.returns-in-Stay-clause-ours
returns-in-Stay-clause-ours c =
    rw c.in-Stay.is (λ count ours. stays_ours c.in-Stay.held c.stay_inside.result.0 c.stay_inside.result.1 c.stay_inside.ensures.stays c.args.service.now count ours)

pub returns-in-Stay-clause-tried : goal.returns-in-Stay-clause-tried
returns-in-Stay-clause-tried c =
    rw c.in-Stay.is (λ most has. stays_tried c.in-Stay.held c.stay_inside.result.0 c.stay_inside.result.1 c.stay_inside.ensures.stays most c.in-Stay.held.part.steps)

pub returns-in-Stay-clause-place : goal.returns-in-Stay-clause-place
returns-in-Stay-clause-place c =
    rw c.in-Stay.is (stays_place c.in-Stay.held c.stay_inside.result.0 c.stay_inside.result.1 c.stay_inside.ensures.stays)

use Rattle.rme_session_world.proofs.Posting.{posted_up}
use Rattle.rme_session_world.proofs.work.submit_and_run.Goals as goal

pub continue_job-requires : goal.continue_job-requires
continue_job-requires c = record { up = posted_up c.args.world.now c.submit.new.self c.args.worker c.args.job c.in-Ok.field-0 c.in-Ok.ensures.accepted }

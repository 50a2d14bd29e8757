use Rattle.std.proofs.Common.{subst}
use Rattle.rme_service_steps.specs.Parts.{submitted_part}
use Rattle.rme_service_steps.specs.Running.{ChangeIsServiceRun, submit_labels}
use Rattle.rme_table.specs.Admissions.{Admission}
use Rattle.rme_table.proofs.kinds.Ready.post.Goals as goal

pub returns-in-Ok-post-clause-lead : goal.returns-in-Ok-post-clause-lead
returns-in-Ok-post-clause-lead g c _ =
    let Leads : Admission → Type 0 = λ its. ChangeIsServiceRun c.args.service.now.shape its.ready.part (submitted_part its.job) (submit_labels its.ready.part its.job) in
    subst Leads c.in-Ok.ensures.admitted.0 c.in-Ok-post.ensures.lead

pub returns-in-Err-post-clause-lead : goal.returns-in-Err-post-clause-lead
returns-in-Err-post-clause-lead g c _ =
    let Leads : Admission → Type 0 = λ its. ChangeIsServiceRun c.args.service.now.shape its.ready.part (submitted_part its.job) (submit_labels its.ready.part its.job) in
    subst Leads c.in-Ok.ensures.admitted.0 c.in-Err-post.ensures.lead

use Rattle.std.proofs.Common.{subst}
use Rattle.rme_service_steps.specs.Parts.{submitted_part}
use Rattle.rme_service_steps.specs.Running.{ChangeIsServiceRun, submit_labels}
use Rattle.rme_table.specs.Admissions.{Admission}
use Rattle.rme_table.proofs.admitted.Admitted.post.Goals as goal

pub returns-clause-lead : goal.returns-clause-lead
returns-clause-lead g c =
    let P : Admission → Type 0 = λ (a : Admission). ChangeIsServiceRun c.args.service.now.shape a.ready.part (submitted_part a.job) (submit_labels a.ready.part a.job) in
    subst P c.self.view_is c.put.ensures.lead

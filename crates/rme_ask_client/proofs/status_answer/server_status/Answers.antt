use Rattle.std.proofs.Common.{rules}
use Rattle.serde_json.specs.View.{view}
use Rattle.rme_ask_client.specs.Members.{NoneSaidUnless}
use Rattle.rme_ask_client.specs.StatusAnswers as spec
use Rattle.rme_ask_client.proofs.status_answer.server_status.Goals as goal

pub returns-in_err-list_of-clause-unsaid : goal.returns-in_err-list_of-clause-unsaid
returns-in_err-list_of-clause-unsaid c =
    let none : NoneSaidUnless spec.StatusSays (view c.args.value.now) c.in_err-list_of.field-0.0 =
    λ not_memory status says. c.in_err-list_of.ensures.unsaid not_memory status.locks.items says.locks in
    search (rules, none)

pub returns-in_err-list_of-2-clause-unsaid : goal.returns-in_err-list_of-2-clause-unsaid
returns-in_err-list_of-2-clause-unsaid c =
    let none : NoneSaidUnless spec.StatusSays (view c.args.value.now) c.in_err-list_of-2.field-0.0 =
    λ not_memory status says. c.in_err-list_of-2.ensures.unsaid not_memory status.workers.items says.workers in
    search (rules, none)

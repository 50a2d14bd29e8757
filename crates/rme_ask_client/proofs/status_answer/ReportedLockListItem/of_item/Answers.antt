use Rattle.std.proofs.Common.{rules}
use Rattle.serde_json.specs.View.{view}
use Rattle.rme_ask_client.specs.Members.{NoneSaidUnless}
use Rattle.rme_ask_client.specs.StatusAnswers as spec
use Rattle.rme_ask_client.proofs.status_answer.ReportedLockListItem.of_item.Goals as goal

pub returns-in_err-list_of-clause-unsaid : goal.returns-in_err-list_of-clause-unsaid
returns-in_err-list_of-clause-unsaid c =
    let none : NoneSaidUnless spec.LockSays (view c.args.item.now) c.in_err-list_of.field-0.0 =
    λ not_memory lock says. c.in_err-list_of.ensures.unsaid not_memory lock.cells.items says.cells in
    search (rules, none)

use Rattle.std.proofs.Common.{rules}
use Rattle.serde_json.specs.View.{view}
use Rattle.rme_ask_client.specs.Members.{NoneSaidUnless}
use Rattle.rme_ask_client.specs.SpaceAnswers as spec
use Rattle.rme_ask_client.proofs.space_answers.spaces_page.Goals as goal

pub returns-in_err-list_of-clause-unsaid : goal.returns-in_err-list_of-clause-unsaid
returns-in_err-list_of-clause-unsaid c =
    let none : NoneSaidUnless spec.SpacesSay (view c.args.value.now) c.in_err-list_of.field-0.0 =
    λ not_memory told says. c.in_err-list_of.ensures.unsaid not_memory told.spaces.items says.spaces in
    search (rules, none)

use Rattle.std.proofs.Common.{◌≡◌, ◌++◌, ◌∷◌, [], Option, ap, sym, ◌∙◌, rules}
use Rattle.std.specs.Prelude.{unwrap_or}
use Rattle.serde_json.specs.Data.{Items, no_items}
use Rattle.serde_json.specs.View.{view}
use Rattle.rme_ask_client.specs.Members.{NoneSaidUnless}
use Rattle.rme_ask_client.specs.StatusAnswers as spec
use Rattle.rme_ask_client.proofs.Lists.{each_more, none_said_by_list, refused_as}
use Rattle.rme_ask_client.proofs.status_answer.list_of.Goals as goal

pub loop-item-preserved : goal.loop-item-preserved
loop-item-preserved g c =
    let pushed : c.push.new.self.items ≡ c.loop-item.values.items ++ c.in_ok-of_item.field-0 ∷ [] = search rules in
    rw pushed (each_more g.T.ListItem.Says c.in_ok-item-items.item-items.now c.loop-item.item-index c.item-item.result c.loop-item.values.items
    c.in_ok-of_item.field-0 c.loop-item-test.true c.item-item.is c.loop-item.invariant c.in_ok-of_item.ensures.said)

pub returns-in_err-of_item-clause-unsaid : goal.returns-in_err-of_item-clause-unsaid
returns-in_err-of_item-clause-unsaid g c =
    let none : NoneSaidUnless (spec.ListSays c.args.name.now g.T.ListItem.Says) (view c.args.value.now) c.in_err-of_item.field-0.0 =
    λ not_memory values says.
    let same : spec.list_view says.0 ≡ spec.list_view c.in_ok-item-items.item-items.now =
    ap (λ (found : Option Items). unwrap_or found no_items) (sym says.1 ∙ c.in_ok-item-items.ensures.found) in
    none_said_by_list g.T.ListItem.Says c.in_ok-item-items.item-items.now says.0 c.loop-item.item-index c.item-item.result values
    c.loop-item-test.true c.item-item.is (c.in_err-of_item.ensures.unsaid not_memory) same says.2 in
    refused_as c.from_residual-in_err-of_item.result _ c.in_err-of_item.field-0.0 c.from_residual-in_err-of_item.ensures.1 none

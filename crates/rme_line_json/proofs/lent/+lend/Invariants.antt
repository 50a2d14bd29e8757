use Rattle.std.proofs.Common.{◌≡◌, List, ◌++◌, take, map}
use Rattle.serde_json.proofs.Views.{Entry}
use Rattle.serde_json.specs.View as kit
use Rattle.rme_line_json.specs.View.{value_view, members_view}
use Rattle.rme_line_json.proofs.lent.+lend.Given as goal

abbrev pub invariant-lend_items-loop-item : goal.invariant-lend_items-loop-item
invariant-lend_items-loop-item l = map value_view l.lent.items ≡ map kit.view (take l.item-index l.item-items)

abbrev pub invariant-lend_members-loop-key : goal.invariant-lend_members-loop-key
invariant-lend_members-loop-key l =
    (done : List Entry) × (l.members.entries ≡ done ++ l.key-iterator) × (members_view l.lent.items ≡ kit.members_view done)

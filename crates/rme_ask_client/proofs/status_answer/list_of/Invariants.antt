use Rattle.std.proofs.Common.{take}
use Rattle.rme_ask_client.specs.StatusAnswers as spec
use Rattle.rme_ask_client.proofs.status_answer.list_of.Given as goal

abbrev pub invariant-loop-item : goal.invariant-loop-item
invariant-loop-item g l = spec.EachSays g.T.ListItem.Says (take l.item-index l.item-items) l.values.items

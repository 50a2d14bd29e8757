use Rattle.std.proofs.Common.{arith}
use Rattle.rme_line_json.proofs.Viewing.{items_as_many, view-Array}
use Rattle.rme_line_json.proofs.value.Value.item_count.Goals as goal

pub returns-in-Array : goal.returns-in-Array
returns-in-Array c = rw (c.in-Array.is, view-Array c.in-Array.items, items_as_many c.in-Array.items.items) (grind arith)

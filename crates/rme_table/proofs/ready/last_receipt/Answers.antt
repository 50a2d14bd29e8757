use Rattle.std.proofs.Common.{ap}
use Rattle.rme_table.specs.Calls.{receipt_of_entry}
use Rattle.rme_table.proofs.ready.last_receipt.Goals as goal

pub returns-in-Some : goal.returns-in-Some
returns-in-Some c = ap receipt_of_entry c.in-Some.ensures

use Rattle.rme_machine.proofs.Books.{books}
use Rattle.rme_machine.proofs.laws.worker_entries_law.Goals as goal

pub returns : goal.returns
returns c = books

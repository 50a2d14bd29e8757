use Rattle.rme_machine.proofs.Books.{drafting}
use Rattle.rme_machine.proofs.laws.draft_law.Goals as goal

pub returns : goal.returns
returns c = drafting

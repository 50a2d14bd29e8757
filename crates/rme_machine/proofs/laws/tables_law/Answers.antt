use Rattle.rme_machine.proofs.Tables.{tables}
use Rattle.rme_machine.proofs.laws.tables_law.Goals as goal

pub returns : goal.returns
returns c = tables

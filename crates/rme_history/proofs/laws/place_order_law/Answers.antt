use Rattle.rme_history.proofs.Returning.{returning}
use Rattle.rme_history.proofs.laws.place_order_law.Goals as goal

pub returns : goal.returns
returns c = returning

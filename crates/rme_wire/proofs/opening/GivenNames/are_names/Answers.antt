use Rattle.std.proofs.Common.{sym, ◌∙◌}
use Rattle.rme_wire.proofs.OpeningLemmas.{are_few}
use Rattle.rme_wire.proofs.opening.GivenNames.are_names.Goals as goal

pub returns-clause-few : goal.returns-clause-few
returns-clause-few c e =
    let named = let given = sym c.are_lock_names.ensures ∙ e in rw c.deref.ensures.value at given in rw (← c.self.view_is) ((are_few _ named).0)

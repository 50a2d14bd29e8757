use Rattle.std.proofs.Common.{refl, sym, ◌∙◌}
use Rattle.rme_wire.proofs.shaped.names_and_shape.Goals as goal

pub returns-in-Ok-names-clause-ok : goal.returns-in-Ok-names-clause-ok
returns-in-Ok-names-clause-ok c =
    let numbers = c.in-Ok.ensures.numbers in
    let limits = rw c.len-locks.ensures at c.in-Ok.ensures.accepted.0 refl in
    ((sym c.if-not-are_names.ensures.result, limits), c.in-Ok-names.ensures, (numbers.0, numbers.1 ∙ c.len-locks.ensures, numbers.2, numbers.3))

use Rattle.std.proofs.Common.{rules, sym}
use Rattle.rme_tree.proofs.Holding.{held_from, held_at, greatest_held}
use Rattle.rme_tree.proofs.owners.held.Goals as goal

pub returns-then-load-side-clause-held : goal.returns-then-load-side-clause-held
returns-then-load-side-clause-held c = sym (held_from _ _ _ _ _ (search rules))

pub returns-clause-held : goal.returns-clause-held
returns-clause-held c = sym (held_from _ _ _ _ _ (search rules))

pub returns-then-load-side-clause-greatest : goal.returns-then-load-side-clause-greatest
returns-then-load-side-clause-greatest c = greatest_held _ _ _ _ _ (held_at _ _ _ _ _ (sym (returns-then-load-side-clause-held c)))

pub returns-clause-greatest : goal.returns-clause-greatest
returns-clause-greatest c = greatest_held _ _ _ _ _ (held_at _ _ _ _ _ (sym (returns-clause-held c)))

use Rattle.rme_history.proofs.Folds.{fold_none}
use Rattle.rme_history.proofs.fold.Fold.new.Goals as goal

pub returns-clause-start : goal.returns-clause-start
returns-clause-start c =
    rw (c.in-Ok.ensures.items_if_clones_equal (λ y e. e), c.in-Ok-vec.ensures.items_if_clones_equal (λ y e. e), c.zeros.ensures) (fold_none c.args.shape)

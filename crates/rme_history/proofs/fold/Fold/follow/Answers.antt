use Rattle.std.proofs.Common.{refl, sym, ◌∙◌, arith}
use Rattle.rme_history.proofs.Following.{not_followed, followed, fold_followed, rows_reach, places_reach, misplaced, script_fits, misanswered, goes_on, fold_goes_on}
use Rattle.rme_history.proofs.fold.Fold.follow.Goals as goal

pub returns-then-not-is_of_shape-clause-follows : goal.returns-then-not-is_of_shape-clause-follows
returns-then-not-is_of_shape-clause-follows c =
    not_followed _ _ c.args.i _ (sym c.get.ensures ∙ c.in-Some.is) (λ follows. let no_job = c.if-not-is_of_shape.ensures.1 follows.job in cc)

pub index-count-requires : goal.index-count-requires
index-count-requires c =
    let counted = c.args.self.now.counts.ok.0 in
    let reach = places_reach _ _ c.in-Some.entry _ _ c.requires.fold (c.if-not-is_of_shape.ensures.0 refl) in
    omega (arith, counted, reach)

pub returns-then-entry-count-clause-follows : goal.returns-then-entry-count-clause-follows
returns-then-entry-count-clause-follows c =
    not_followed _ _ c.args.i _ (sym c.get.ensures ∙ c.in-Some.is)
    (misplaced _ _ _ _ _ c.requires.fold (c.if-not-is_of_shape.ensures.0 refl) _ c.index-count.ensures c.if-entry-count.true)

pub index-requires : goal.index-requires
index-requires c =
    let counted = c.args.self.now.rows.ok.0 in
    let reach = rows_reach _ _ c.in-Some.entry _ _ c.requires.fold (c.if-not-is_of_shape.ensures.0 refl) in
    omega (arith, counted, reach)

pub eval-requires : goal.eval-requires
eval-requires c =
    script_fits _ _ c.in-Some.entry _ _ c.requires.fold (c.if-not-is_of_shape.ensures.0 refl) _ c.index-count.ensures _ c.index.ensures

pub returns-then-eval-entry-clause-follows : goal.returns-then-eval-entry-clause-follows
returns-then-eval-entry-clause-follows c =
    not_followed _ _ c.args.i _ (sym c.get.ensures ∙ c.in-Some.is)
    (misanswered _ _ _ _ _ c.requires.fold (c.if-not-is_of_shape.ensures.0 refl) _ c.index-count.ensures _ c.index.ensures _ _ c.eval.ensures.fold c.if-eval-entry.true)

pub index_mut-requires : goal.index_mut-requires
index_mut-requires c =
    let counted = c.args.self.now.rows.ok.0 in
    let reach = rows_reach _ _ c.in-Some.entry _ _ c.requires.fold (c.if-not-is_of_shape.ensures.0 refl) in
    omega (arith, counted, reach)

pub index_mut-requires-2 : goal.index_mut-requires-2
index_mut-requires-2 c =
    let counted = c.args.self.now.counts.ok.0 in
    let reach = places_reach _ _ c.in-Some.entry _ _ c.requires.fold (c.if-not-is_of_shape.ensures.0 refl) in
    omega (arith, counted, reach)

pub returns-clause-follows : goal.returns-clause-follows
returns-clause-follows c =
    followed _ _ c.args.i _ (sym c.get.ensures ∙ c.in-Some.is)
    (goes_on _ _ _ _ _ c.requires.fold (c.if-not-is_of_shape.ensures.0 refl) _ c.index-count.ensures _ c.index.ensures _ _ c.eval.ensures.fold c.if-entry-count.false c.if-eval-entry.false)

pub returns-clause-fold : goal.returns-clause-fold
returns-clause-fold c =
    fold_followed _ _ c.args.i _ (sym c.get.ensures ∙ c.in-Some.is) _ _
    (fold_goes_on _ _ _ _ _ c.requires.fold (c.if-not-is_of_shape.ensures.0 refl) _ c.index-count.ensures _ c.index.ensures _ _ c.eval.ensures.fold)

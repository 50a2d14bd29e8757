use Rattle.std.proofs.Common.{sym, ◌∙◌, arith}
use Rattle.rme_core_image_check.proofs.LastEntries.{not_followed, not_above, worker_reach, lock_reach, followed, lasts_followed}
use Rattle.rme_core_image_check.proofs.last_entry_lists.LastEntries.follow.Goals as goal

pub returns-then-receipt-shape-clause-follows : goal.returns-then-receipt-shape-clause-follows
returns-then-receipt-shape-clause-follows c =
    not_followed c.args.shape c.args.entries.now.entries c.args.i c.in-Some.entry _ _ (sym c.get-found.ensures ∙ c.in-Some.is) c.requires.lasts
    (λ follows. let below = follows.worker in omega (arith, below, c.if-receipt-shape.true))

pub returns-then-receipt-shape-2-clause-follows : goal.returns-then-receipt-shape-2-clause-follows
returns-then-receipt-shape-2-clause-follows c =
    not_followed c.args.shape c.args.entries.now.entries c.args.i c.in-Some.entry _ _ (sym c.get-found.ensures ∙ c.in-Some.is) c.requires.lasts
    (λ follows. let below = follows.lock in omega (arith, below, c.if-receipt-shape-2.true))

pub index-requires : goal.index-requires
index-requires c =
    let counted = c.args.self.now.by_worker.ok.0 in
    let reach = worker_reach c.args.shape c.args.entries.now.entries c.args.i c.in-Some.entry _ _ (sym c.get-found.ensures ∙ c.in-Some.is) c.requires.lasts c.if-receipt-shape.false in
    omega (arith, counted, reach)

pub returns-then-receipt-last_number-clause-follows : goal.returns-then-receipt-last_number-clause-follows
returns-then-receipt-last_number-clause-follows c =
    let few = c.if-receipt-last_number.true in
    let is = c.last_number.ensures in
    not_above c.args.shape c.args.entries.now.entries c.args.i c.in-Some.entry _ _ (sym c.get-found.ensures ∙ c.in-Some.is) c.requires.lasts
    c.index.result.now c.if-receipt-shape.false c.index.ensures (omega (arith, few, is))

pub index_mut-requires : goal.index_mut-requires
index_mut-requires c =
    let counted = c.args.self.now.by_worker.ok.0 in
    let reach = worker_reach c.args.shape c.args.entries.now.entries c.args.i c.in-Some.entry _ _ (sym c.get-found.ensures ∙ c.in-Some.is) c.requires.lasts c.if-receipt-shape.false in
    omega (arith, counted, reach)

pub index_mut-requires-2 : goal.index_mut-requires-2
index_mut-requires-2 c =
    let counted = c.args.self.now.at_lock.ok.0 in
    let reach = lock_reach c.args.shape c.args.entries.now.entries c.args.i c.in-Some.entry _ _ (sym c.get-found.ensures ∙ c.in-Some.is) c.requires.lasts c.if-receipt-shape-2.false in
    omega (arith, counted, reach)

pub returns-clause-follows : goal.returns-clause-follows
returns-clause-follows c =
    let above = c.if-receipt-last_number.false in
    let is = c.last_number.ensures in
    followed c.args.shape c.args.entries.now.entries c.args.i c.in-Some.entry _ _ (sym c.get-found.ensures ∙ c.in-Some.is) c.requires.lasts
    c.index.result.now c.if-receipt-shape.false c.if-receipt-shape-2.false c.index.ensures (omega (arith, above, is))

pub returns-clause-lasts : goal.returns-clause-lasts
returns-clause-lasts c =
    lasts_followed c.args.shape c.args.entries.now.entries c.args.i c.in-Some.entry _ _ (sym c.get-found.ensures ∙ c.in-Some.is) c.requires.lasts c.if-receipt-shape.false c.if-receipt-shape-2.false

use Rattle.std.proofs.Common.{◌≡◌, ◌+◌, suc, ◌∙◌, ap, arith}
use Rattle.rme_words.specs.declared.shape.Shape.{Shape}
use Rattle.rme_tree.specs.Paths.{node}
use Rattle.rme_tree.proofs.Holders.{shown_blocker, other_blocker}
use Rattle.rme_tree.proofs.owners.blocker.Goals as goal

pub returns-then-levels-shape-clause-shown : goal.returns-then-levels-shape-clause-shown
returns-then-levels-shape-clause-shown c =
    let height : c.shape-shape.result.height ≡ c.args.bank.now.shape.height = ap (λ (s : Shape). s.height) c.shape-shape.ensures in
    let up : c.held-levels.result + 1 ≡ suc c.held-levels.result = omega arith in
    shown_blocker _ _ _ _ _ _ _ _ c.held-levels.ensures.held (omega arith)
    (c.node.ensures.node
    ∙ ap (λ (s : Shape). node s.leaves c.args.w (c.held-levels.result + 1)) c.shape-shape.ensures
    ∙ ap (node c.args.bank.now.shape.leaves c.args.w) up)
    c.holder.ensures.shown

pub returns-then-levels-shape-clause-other : goal.returns-then-levels-shape-clause-other
returns-then-levels-shape-clause-other c =
    let tree = c.args.bank.now.shape.counted.tree in
    other_blocker _ _ _ _ _ _ tree.is_power tree.enough c.requires.worker c.holder.ensures.worker (returns-then-levels-shape-clause-shown c)

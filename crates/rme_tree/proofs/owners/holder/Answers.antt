use Rattle.std.proofs.Common.{◌≡◌, ap, refl, arith}
use Rattle.rme_words.specs.declared.shape.Shape.{Shape}
use Rattle.rme_tree.proofs.Descent.{came_start, came_down, shown_none, shown_leaf, shown_other}
use Rattle.rme_tree.proofs.owners.holder.Goals as goal

pub loop-below-init : goal.loop-below-init
loop-below-init c = came_start _ _ _ _ c.args.bank.now.shape.counted.tree.is_power c.requires.node c.requires.inside

pub loop-below-preserved : goal.loop-below-preserved
loop-below-preserved c =
    let leaves : c.shape-shape.result.leaves ≡ c.args.bank.now.shape.leaves = ap (λ (s : Shape). s.leaves) c.shape-shape.ensures in
    let named = c.in_ok-below.ensures in
    came_down _ _ _ _ _ _ c.args.bank.now.shape.counted.tree.is_power c.loop-below.invariant (omega arith) named.0 named.1 named.2

pub returns-in_err-below-clause-shown : goal.returns-in_err-below-clause-shown
returns-in_err-below-clause-shown c =
    let tree = c.args.bank.now.shape.counted.tree in
    let leaves : c.shape-shape.result.leaves ≡ c.args.bank.now.shape.leaves = ap (λ (s : Shape). s.leaves) c.shape-shape.ensures in
    let unnamed = c.in_err-below.ensures in
    shown_none _ _ _ _ _ _ _ tree.is_power tree.enough c.loop-below.invariant (omega arith) unnamed.0 unnamed.1 c.from_residual.ensures

pub returns-then-w-shape-clause-shown : goal.returns-then-w-shape-clause-shown
returns-then-w-shape-clause-shown c =
    let tree = c.args.bank.now.shape.counted.tree in
    let leaves : c.shape-shape.result.leaves ≡ c.args.bank.now.shape.leaves = ap (λ (s : Shape). s.leaves) c.shape-shape.ensures in
    let workers : c.shape-shape.result.workers ≡ c.args.bank.now.shape.workers = ap (λ (s : Shape). s.workers) c.shape-shape.ensures in
    shown_leaf _ _ _ _ _ _ _ tree.is_power tree.enough c.loop-below.invariant (omega arith) (omega arith) (omega arith)

pub returns-else-w-shape-clause-shown : goal.returns-else-w-shape-clause-shown
returns-else-w-shape-clause-shown c =
    let tree = c.args.bank.now.shape.counted.tree in
    let leaves : c.shape-shape.result.leaves ≡ c.args.bank.now.shape.leaves = ap (λ (s : Shape). s.leaves) c.shape-shape.ensures in
    let workers : c.shape-shape.result.workers ≡ c.args.bank.now.shape.workers = ap (λ (s : Shape). s.workers) c.shape-shape.ensures in
    shown_other _ _ _ _ _ _ _ tree.is_power tree.enough c.loop-below.invariant (omega arith) (omega arith) refl

use Rattle.std.proofs.Common.{refl, arith}
use Rattle.rme_tree.specs.Paths.{node}
use Rattle.rme_tree.proofs.Steps.{node_within}
use Rattle.rme_tree.proofs.paths.node.Goals as goal

pub returns-clause-node : goal.returns-clause-node
unfolding node
returns-clause-node c = refl

pub returns-clause-is_node : goal.returns-clause-is_node
unfolding node
returns-clause-is_node c =
    (node_within c.args.shape.leaves c.args.shape.height c.args.w c.args.level c.args.shape.counted.tree.is_power (omega arith) c.requires.from_leaf c.requires.to_root).0

pub returns-clause-below_leaves : goal.returns-clause-below_leaves
unfolding node
returns-clause-below_leaves c =
    (node_within c.args.shape.leaves c.args.shape.height c.args.w c.args.level c.args.shape.counted.tree.is_power (omega arith) c.requires.from_leaf c.requires.to_root).1

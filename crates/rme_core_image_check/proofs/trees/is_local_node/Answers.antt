use Rattle.std.proofs.Common.{ap}
use Rattle.rme_words.specs.declared.shape.Shape.{Shape}
use Rattle.rme_words.specs.Words.{memory_of}
use Rattle.rme_tree.specs.Nodes.{lock_nodes}
use Rattle.rme_core_image_check.proofs.Holders.{leaf_local}
use Rattle.rme_core_image_check.proofs.trees.is_local_node.Goals as goal

pub returns : goal.returns
returns c =
    leaf_local (lock_nodes (memory_of c.args.bank.now) c.args.lock) c.args.bank.now.shape.leaves c.args.bank.now.shape.workers _ _ c.args.node c.load-word.result
    (ap (λ (s : Shape). s.leaves) c.shape-shape.ensures) (ap (λ (s : Shape). s.workers) c.shape-shape.ensures) c.load-word.ensures c.if-word-eq0.false c.if-word-gt2.false c.if-child-shape.false

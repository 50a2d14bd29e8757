use Rattle.std.proofs.Common.{ℕ, refl}
use Rattle.rme_words.specs.Words.{memory_of}
use Rattle.rme_tree.specs.HeldTrees.{IsLocalTree}
use Rattle.rme_tree.specs.Nodes.{lock_nodes}
use Rattle.rme_core_image_check.proofs.Rising.{up_to}
use Rattle.rme_core_image_check.proofs.trees.has_nodes.Goals as goal

pub loop-lock-preserved : goal.loop-lock-preserved
loop-lock-preserved c =
    up_to (λ (lock : ℕ). IsLocalTree (lock_nodes (memory_of c.args.bank.now) lock) c.args.bank.now.shape.leaves c.args.bank.now.shape.workers) c.loop-lock.lock c.loop-lock.invariant (c.if-not-is_local_tree.ensures.0 refl)

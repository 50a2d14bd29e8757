use Rattle.rme_words.proofs.Growth.{grown, tree_is}
use Rattle.rme_words.proofs.shape.tree_over.Goals as goal

pub loop-leaves-preserved : goal.loop-leaves-preserved
loop-leaves-preserved c = grown _ _ _ c.loop-leaves.invariant c.loop-leaves-test.true c.requires.1

pub returns : goal.returns
returns c = tree_is _ _ _ c.loop-leaves.invariant c.loop-leaves-test.false

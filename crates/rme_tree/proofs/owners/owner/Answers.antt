use Rattle.std.proofs.Common.{arith}
use Rattle.std.proofs.Math.Pow.{pow_mono}
use Rattle.rme_tree.proofs.Holders.{owner_found, shown_owner}
use Rattle.rme_tree.proofs.owners.owner.Goals as goal

pub holder-requires-clause-inside : goal.holder-requires-clause-inside
holder-requires-clause-inside c =
    let tree = c.args.bank.now.shape.counted.tree in
    omega (arith, tree.is_power, pow_mono {i = 1} {j = c.args.bank.now.shape.height} tree.some_level)

pub returns-clause-owner : goal.returns-clause-owner
returns-clause-owner c =
    let tree = c.args.bank.now.shape.counted.tree in
    owner_found _ _ _ _ tree.is_power tree.enough tree.some_level c.holder.result c.holder.ensures.worker c.holder.ensures.shown

pub returns-clause-shown : goal.returns-clause-shown
returns-clause-shown c =
    let tree = c.args.bank.now.shape.counted.tree in
    shown_owner _ _ _ _ tree.is_power tree.enough tree.some_level _ (returns-clause-owner c)

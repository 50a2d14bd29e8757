use Rattle.std.proofs.Common.{◌∙◌}
use Rattle.rme_words.specs.declared.address.Address.TheVariants.{Node}
use Rattle.rme_service_steps.proofs.Positions.{lies_there, node_block, numbered}
use Rattle.rme_service_steps.proofs.layout.node_at.Goals as goal

pub position_in_block-requires-clause-number : goal.position_in_block-requires-clause-number
position_in_block-requires-clause-number c = numbered c.args.shape (Node c.args.lock c.args.node) _ c.node_at.ensures (c.requires.lock, c.requires.node, c.requires.below)

pub returns : goal.returns
returns c = lies_there c.args.shape (Node c.args.lock c.args.node) _ _ _ (c.requires.lock, c.requires.node, c.requires.below) c.node_at.ensures (c.block_of_nodes.ensures ∙ node_block c.args.shape c.args.lock c.args.node c.requires.node c.requires.below) c.position_in_block.ensures

use Rattle.std.proofs.Common.{◌∙◌, ◌-◌, arith}
use Rattle.rme_words.specs.declared.address.Address.TheVariants.{Turn}
use Rattle.rme_service_steps.proofs.Positions.{lies_there, rest_block, numbered}
use Rattle.rme_service_steps.proofs.layout.turn_at.Goals as goal

pub position_in_block-requires-clause-number : goal.position_in_block-requires-clause-number
position_in_block-requires-clause-number c = numbered c.args.shape (Turn c.args.lock) _ c.turn_at.ensures c.requires

pub returns : goal.returns
returns c = lies_there c.args.shape (Turn c.args.lock) _ _ _ c.requires c.turn_at.ensures (c.block_of_lock_words.ensures ∙ rest_block c.args.shape c.args.lock (c.args.shape.leaves - 1) (omega arith)) c.position_in_block.ensures

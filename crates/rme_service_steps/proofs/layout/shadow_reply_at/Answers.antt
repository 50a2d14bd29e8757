use Rattle.std.proofs.Common.{◌∙◌, ◌+◌, ◌*◌, arith}
use Rattle.rme_words.specs.declared.address.Address.TheVariants.{ShadowReply}
use Rattle.rme_service_steps.proofs.Positions.{lies_there, rest_block, numbered}
use Rattle.rme_service_steps.proofs.layout.shadow_reply_at.Goals as goal

pub position_in_block-requires-clause-number : goal.position_in_block-requires-clause-number
position_in_block-requires-clause-number c = numbered c.args.shape (ShadowReply c.args.lock) _ c.shadow_reply_at.ensures c.requires

pub returns : goal.returns
returns c = lies_there c.args.shape (ShadowReply c.args.lock) _ _ _ c.requires c.shadow_reply_at.ensures (c.block_of_lock_words.ensures ∙ rest_block c.args.shape c.args.lock (c.args.shape.leaves + 2 * c.args.shape.cells) (omega arith)) c.position_in_block.ensures

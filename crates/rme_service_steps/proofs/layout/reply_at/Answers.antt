use Rattle.std.proofs.Common.{refl}
use Rattle.rme_words.specs.declared.address.Address.TheVariants.{Reply}
use Rattle.rme_service_steps.proofs.Positions.{lies_there, numbered}
use Rattle.rme_service_steps.proofs.layout.reply_at.Goals as goal

pub position_in_block-requires-clause-number : goal.position_in_block-requires-clause-number
position_in_block-requires-clause-number c = numbered c.args.shape (Reply c.args.worker) _ c.reply_at.ensures c.requires

pub returns : goal.returns
returns c = lies_there c.args.shape (Reply c.args.worker) _ _ _ c.requires c.reply_at.ensures refl c.position_in_block.ensures

use Rattle.std.proofs.Common.{refl}
use Rattle.rme_words.specs.declared.address.Address.TheVariants.{Done}
use Rattle.rme_service_steps.proofs.Positions.{lies_there, numbered}
use Rattle.rme_service_steps.proofs.layout.done_at.Goals as goal

pub position_in_block-requires-clause-number : goal.position_in_block-requires-clause-number
position_in_block-requires-clause-number c = numbered c.args.shape (Done c.args.worker) _ c.done_at.ensures c.requires

pub returns : goal.returns
returns c = lies_there c.args.shape (Done c.args.worker) _ _ _ c.requires c.done_at.ensures refl c.position_in_block.ensures

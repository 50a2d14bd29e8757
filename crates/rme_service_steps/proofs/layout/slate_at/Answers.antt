use Rattle.std.proofs.Common.{refl}
use Rattle.rme_words.specs.declared.address.Address.TheVariants.{SlateWord}
use Rattle.rme_service_steps.proofs.Positions.{lies_there, numbered}
use Rattle.rme_service_steps.proofs.layout.slate_at.Goals as goal

pub position_in_block-requires-clause-number : goal.position_in_block-requires-clause-number
position_in_block-requires-clause-number c = numbered c.args.shape (SlateWord c.args.worker c.args.operation c.args.part) _ c.slate_at.ensures (c.requires.worker, c.requires.operation, c.requires.part)

pub returns : goal.returns
returns c = lies_there c.args.shape (SlateWord c.args.worker c.args.operation c.args.part) _ _ _ (c.requires.worker, c.requires.operation, c.requires.part) c.slate_at.ensures refl c.position_in_block.ensures

use Rattle.std.proofs.Common.{◌∙◌, ◌+◌, arith}
use Rattle.rme_words.specs.declared.address.Address.TheVariants.{Shadow}
use Rattle.rme_service_steps.proofs.Positions.{lies_there, rest_block, numbered}
use Rattle.rme_service_steps.proofs.layout.shadow_at.Goals as goal

pub position_in_block-requires-clause-number : goal.position_in_block-requires-clause-number
position_in_block-requires-clause-number c = numbered c.args.shape (Shadow c.args.lock c.args.cell) _ c.shadow_at.ensures (c.requires.lock, c.requires.cell)

pub returns : goal.returns
returns c = lies_there c.args.shape (Shadow c.args.lock c.args.cell) _ _ _ (c.requires.lock, c.requires.cell) c.shadow_at.ensures (c.block_of_lock_words.ensures ∙ rest_block c.args.shape c.args.lock (c.args.shape.leaves + c.args.shape.cells + c.args.cell) (omega arith)) c.position_in_block.ensures

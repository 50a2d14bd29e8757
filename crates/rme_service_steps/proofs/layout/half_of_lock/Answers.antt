use Rattle.std.proofs.Common.{sym}
use Rattle.rme_service_steps.proofs.Positions.{first_half, other_half}
use Rattle.rme_service_steps.proofs.layout.half_of_lock.Goals as goal

pub returns-then-offset-shape-clause-half : goal.returns-then-offset-shape-clause-half
returns-then-offset-shape-clause-half c = sym (first_half c.args.shape c.args.offset c.if-offset-shape.true)

pub returns-else-offset-shape-clause-half : goal.returns-else-offset-shape-clause-half
returns-else-offset-shape-clause-half c = sym (other_half c.args.shape c.args.offset c.if-offset-shape.false)

use Rattle.std.specs.Prelude.{false}
use Rattle.rme_supervisor.proofs.Fallen.{fared_driven}
use Rattle.rme_supervisor.proofs.life.drive_climb.Goals as goal

pub returns-clause-falls : goal.returns-clause-falls
returns-clause-falls g c = rw c.drive_result.ensures (fared_driven c.args.orders.now.service.now.shape false c.args.trail.now.falls c.drive_waiting.new.chance c.args.climb c.drive_waiting.result c.drive_waiting.ensures.drives)

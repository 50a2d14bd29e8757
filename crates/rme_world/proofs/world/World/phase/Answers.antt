use Rattle.rme_world.proofs.Looking.{owns_by_phase}
use Rattle.rme_world.proofs.world.World.phase.Goals as goal

pub returns-clause-owns : goal.returns-clause-owns
returns-clause-owns c = owns_by_phase c.args.self.now c.args.worker _ c.phase_at.ensures.kept c.phase_at.ensures.phase

use Rattle.rme_laws.proofs.Runs.{one_world_law}
use Rattle.rme_laws.proofs.process_laws.run_is_of_one_world.Goals as goal

pub returns : goal.returns
returns c = one_world_law

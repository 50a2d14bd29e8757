use Rattle.rme_process_file.proofs.Sounding.{settled_world}
use Rattle.rme_process_file.proofs.laws.settled_cells_agree.Goals as goal

pub returns : goal.returns
returns c = settled_world

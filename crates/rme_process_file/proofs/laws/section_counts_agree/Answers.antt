use Rattle.rme_process_file.proofs.Sounding.{sections_world}
use Rattle.rme_process_file.proofs.laws.section_counts_agree.Goals as goal

pub returns : goal.returns
returns c = sections_world

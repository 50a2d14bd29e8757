use Rattle.rme_laws.proofs.Runs.{no_damage_law}
use Rattle.rme_laws.proofs.process_laws.no_value_is_damaged.Goals as goal

pub returns : goal.returns
returns c = no_damage_law

use Rattle.rme_durable_format.proofs.Running.{starts_run}
use Rattle.rme_durable_format.proofs.laws.files.Goals as goal

pub returns : goal.returns
returns c bytes names world starts = starts_run bytes names world starts

use Rattle.rme_laws.proofs.Headers.{epochs_counted}
use Rattle.rme_laws.proofs.server_laws.epoch_counts_checkpoints.Goals as goal

pub returns : goal.returns
returns c names log old new lead = epochs_counted names log old new lead

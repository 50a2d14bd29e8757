use Rattle.rme_durable_format.proofs.Asking.{batch_asks}
use Rattle.rme_durable_format.proofs.laws.event_batches.Goals as goal

pub returns : goal.returns
returns c batch = batch_asks batch

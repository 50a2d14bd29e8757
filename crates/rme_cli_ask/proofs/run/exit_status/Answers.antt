use Rattle.rme_cli_ask.proofs.Ends.{zero_if_done}
use Rattle.rme_cli_ask.proofs.run.exit_status.Goals as goal

pub returns : goal.returns
returns c = rw c.status.ensures (zero_if_done c.args.end)

use Rattle.rme_laws.proofs.Headers.{prefix_header}
use Rattle.rme_laws.proofs.server_laws.header_follows_history.Goals as goal

pub returns : goal.returns
returns c names first log start state whole from lead = prefix_header names first log start state whole from lead

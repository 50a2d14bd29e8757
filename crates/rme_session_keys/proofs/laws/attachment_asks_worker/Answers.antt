use Rattle.rme_session_keys.proofs.Attachments.{attachment_asks_worker}
use Rattle.rme_session_keys.proofs.laws.attachment_asks_worker.Goals as goal

pub returns : goal.returns
returns c = attachment_asks_worker

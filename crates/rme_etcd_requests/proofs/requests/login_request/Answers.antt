use Rattle.std.proofs.Common.{lit≤}
use Rattle.rme_etcd_requests.proofs.Reading.{reads_as}
use Rattle.rme_etcd_requests.proofs.requests.login_request.Goals as goal

pub returns : goal.returns
returns c = reads_as _ _ _ c.in_ok-whole.ensures (lit≤ tt) c.in_ok-text.ensures.reads_back

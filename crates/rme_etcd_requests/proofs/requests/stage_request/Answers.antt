use Rattle.std.proofs.Common.{lit≤}
use Rattle.rme_etcd_requests.proofs.Reading.{reads_as, same_one, same_transaction}
use Rattle.rme_etcd_requests.proofs.requests.stage_request.Goals as goal

pub returns : goal.returns
returns c = reads_as _ _ _
    (same_transaction _ _ _ _ _ _ _ c.in_ok-whole.ensures c.in_ok-condition.ensures
    (same_one _ _ _ c.in_ok-operations.ensures c.in_ok-put.ensures) c.in_ok-otherwise.ensures)
    (lit≤ tt) c.in_ok-text.ensures.reads_back

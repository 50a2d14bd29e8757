use Rattle.std.proofs.Common.{lit≤}
use Rattle.rme_etcd_requests.proofs.Reading.{reads_as, same_transaction, same_two}
use Rattle.rme_etcd_requests.proofs.requests.beat_request.Goals as goal

pub returns : goal.returns
returns c = reads_as _ _ _
    (same_transaction _ _ _ _ _ _ _ c.in_ok-whole.ensures c.in_ok-condition.ensures
    (same_two _ _ _ _ _ c.in_ok-operations.ensures c.in_ok-put_beat.ensures c.in_ok-look.ensures) c.in_ok-otherwise.ensures)
    (lit≤ tt) c.in_ok-text.ensures.reads_back

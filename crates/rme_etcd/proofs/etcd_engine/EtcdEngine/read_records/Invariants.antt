use Rattle.std.proofs.Common.{◌-◌}
use Rattle.rme_etcd.proofs.etcd_engine.EtcdEngine.read_records.Given as goal

abbrev pub decreases-loop-next : goal.decreases-loop-next
decreases-loop-next l = l.head.sequence - l.next

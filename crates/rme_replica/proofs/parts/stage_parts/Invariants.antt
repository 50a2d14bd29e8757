use Rattle.std.proofs.Common.{◌*◌, take}
use Rattle.rme_replica.specs.ReplicaStores.{HasStaged}
use Rattle.rme_replica.proofs.parts.stage_parts.Given as goal

abbrev pub invariant-loop-part : goal.invariant-loop-part
invariant-loop-part g l =
    HasStaged l.part (take (l.part * 262144) l.bytes) (g.E.LogEngine.log l.fn.engine) (g.E.LogEngine.log l.engine)

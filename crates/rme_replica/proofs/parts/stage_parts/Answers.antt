use Rattle.std.proofs.Common.{ℕ, ◌+◌, ◌*◌, List, take, subst, arith, refl}
use Rattle.rme_replica.specs.ReplicaStores.{HasStaged}
use Rattle.rme_replica.proofs.Staging.{next_part, none_staged, one_more}
use Rattle.rme_replica.proofs.parts.stage_parts.Goals as goal

pub loop-part-init : goal.loop-part-init
loop-part-init g c = none_staged (g.E.LogEngine.log c.args.engine.now)

pub loop-part-preserved : goal.loop-part-preserved
loop-part-preserved g c =
    let part : ℕ = c.loop-part.part in
    let bytes : List ℕ = c.args.bytes.now in
    subst (λ (all : List ℕ). HasStaged (part + 1) all (g.E.LogEngine.log c.args.engine.now) (g.E.LogEngine.log c.stage_repeatedly.new.engine))
    (next_part (part * 262144) (part * 262144 + 262144) ((part + 1) * 262144) 262144 bytes refl (omega arith))
    (one_more _ part (take (part * 262144) bytes) _ _ _ _ c.loop-part.invariant c.in-Ok.ensures.made)

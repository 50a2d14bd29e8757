use Rattle.std.proofs.Common.{◌∙◌, inl, subst}
use Rattle.rme_replica.specs.EngineLogs.{EngineLog}
use Rattle.rme_replica.specs.KnownLogs.{log_of}
use Rattle.rme_replica.specs.MemoryLogs.{RivalMayCome}
use Rattle.rme_replica.proofs.Memory.{was_put_over}
use Rattle.rme_replica.proofs.memory_engine.MemoryEngine.meet_rival.Goals as goal

pub returns-in_err-put_head : goal.returns-in_err-put_head
returns-in_err-put_head c = inl (c.in_err-put_head.ensures.same ∙ c.next_rival.ensures)

pub returns : goal.returns
returns c =
    let P : EngineLog → Type 0 = λ log. RivalMayCome c.args.seen.now c.args.next.now log (log_of c.put_head.new.self) in
    subst P c.next_rival.ensures (was_put_over _ _ _ _ _ _ c.if-is_same.ensures c.if-is_same-2.ensures c.in_ok-put_head.ensures.put)

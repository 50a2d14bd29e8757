use Rattle.std.proofs.Common.{refl}
use Rattle.rme_replica.proofs.Memory.{keeps_after}
use Rattle.rme_replica.proofs.memory_engine.MemoryEngineLogEngine.is.Goals as goal

pub returns-then-loses_call-clause-kept : goal.returns-then-loses_call-clause-kept
returns-then-loses_call-clause-kept c = refl

pub returns-in_default-clause-kept : goal.returns-in_default-clause-kept
returns-in_default-clause-kept c = keeps_after _ _ _ _ _ c.meet_rival.ensures refl

pub returns-then-loses_answer-clause-kept : goal.returns-then-loses_answer-clause-kept
returns-then-loses_answer-clause-kept c = keeps_after _ _ _ _ _ c.meet_rival.ensures refl

pub returns-clause-kept : goal.returns-clause-kept
returns-clause-kept c = keeps_after _ _ _ _ _ c.meet_rival.ensures refl

use Rattle.std.proofs.Common.{◌∙◌, inl, inr, refl, sym}
use Rattle.rme_replica.proofs.Memory.{adds, finds, loses_after}
use Rattle.rme_replica.proofs.memory_engine.MemoryEngineLogEngine.add.Goals as goal

pub returns-then-loses_call-clause-lost : goal.returns-then-loses_call-clause-lost
returns-then-loses_call-clause-lost c = inl refl

pub returns-in_default-clause-lost : goal.returns-in_default-clause-lost
returns-in_default-clause-lost c = loses_after _ _ _ _ _ _ c.meet_rival.ensures refl

pub returns-then-not-is_same-clause-answered : goal.returns-then-not-is_same-clause-answered
returns-then-not-is_same-clause-answered c = finds _ _ _ _ _ _ _ c.meet_rival.ensures
    (λ e. c.if-not-is_same.ensures (c.head.ensures ∙ e)) c.in-Ok-found_head.ensures.same c.in-Ok-found_head.ensures.found

pub returns-in_default-found_head-clause-lost : goal.returns-in_default-found_head-clause-lost
returns-in_default-found_head-clause-lost c = loses_after _ _ _ _ _ _ c.meet_rival.ensures c.in_default-found_head.ensures.same

pub returns-in_default-put_lines-clause-lost : goal.returns-in_default-put_lines-clause-lost
returns-in_default-put_lines-clause-lost c = loses_after _ _ _ _ _ _ c.meet_rival.ensures c.in_default-put_lines.ensures.same

pub returns-then-loses_answer-clause-lost : goal.returns-then-loses_answer-clause-lost
returns-then-loses_answer-clause-lost c = inr (inl (adds _ _ _ _ _ _ c.meet_rival.ensures
    (sym c.head.ensures ∙ c.if-not-is_same.ensures) c.in-Ok-put_lines.ensures.put))

pub returns-clause-answered : goal.returns-clause-answered
returns-clause-answered c = adds _ _ _ _ _ _ c.meet_rival.ensures
    (sym c.head.ensures ∙ c.if-not-is_same.ensures) c.in-Ok-put_lines.ensures.put

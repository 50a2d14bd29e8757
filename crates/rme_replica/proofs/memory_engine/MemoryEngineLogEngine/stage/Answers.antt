use Rattle.std.proofs.Common.{◌∙◌, inl, inr, refl, sym}
use Rattle.rme_replica.proofs.Memory.{keeps_after, loses_part_after, parts_before, stages}
use Rattle.rme_replica.proofs.memory_engine.MemoryEngineLogEngine.stage.Goals as goal

pub returns-then-loses_call-clause-lost : goal.returns-then-loses_call-clause-lost
returns-then-loses_call-clause-lost c = inl refl

pub returns-in_default-clause-lost : goal.returns-in_default-clause-lost
returns-in_default-clause-lost c = loses_part_after _ _ _ _ _ _ _ c.meet_rival.ensures refl

pub returns-then-not-is_same-clause-answered : goal.returns-then-not-is_same-clause-answered
returns-then-not-is_same-clause-answered c = keeps_after _ _ _ _ _ c.meet_rival.ensures c.in-Ok-found_head.ensures.same

pub returns-in_default-found_head-clause-lost : goal.returns-in_default-found_head-clause-lost
returns-in_default-found_head-clause-lost c = loses_part_after _ _ _ _ _ _ _ c.meet_rival.ensures c.in_default-found_head.ensures.same

pub put_part-requires : goal.put_part-requires
put_part-requires c = record { before = parts_before c.args.seen.now c.args.seen.now c.args.part _ _ c.requires.before c.meet_rival.ensures (sym c.head.ensures ∙ c.if-not-is_same.ensures) }

pub returns-in_default-put_part-clause-lost : goal.returns-in_default-put_part-clause-lost
returns-in_default-put_part-clause-lost c = loses_part_after _ _ _ _ _ _ _ c.meet_rival.ensures c.in_default-put_part.ensures.same

pub returns-then-loses_answer-clause-lost : goal.returns-then-loses_answer-clause-lost
returns-then-loses_answer-clause-lost c = inr (inl (stages _ _ _ _ _ _ _ c.meet_rival.ensures
    (sym c.head.ensures ∙ c.if-not-is_same.ensures) c.in-Ok-put_part.ensures.put))

pub returns-clause-answered : goal.returns-clause-answered
returns-clause-answered c = stages _ _ _ _ _ _ _ c.meet_rival.ensures
    (sym c.head.ensures ∙ c.if-not-is_same.ensures) c.in-Ok-put_part.ensures.put

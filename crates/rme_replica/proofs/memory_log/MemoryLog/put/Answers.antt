use Rattle.std.proofs.Common.{◌∙◌, refl}
use Rattle.rme_replica.specs.KnownLogs.{log_of}
use Rattle.rme_replica.proofs.Memory.{was_put}
use Rattle.rme_replica.proofs.memory_log.MemoryLog.put.Goals as goal

pub returns-clause-put : goal.returns-clause-put
unfolding log_of
returns-clause-put c = was_put _ _ _ _ _ _ (record { head = c.in_ok-copy.field-0; bytes = c.in_ok-to_vec.field-0 }) _ _
    c.in_ok-copy.ensures
    (c.in_ok-to_vec.ensures.items_if_clones_equal (λ x y e. e) ∙ c.as_slice.ensures.value)
    c.in_ok-push_front.ensures.items
    (rw c.clear.ensures.items refl)

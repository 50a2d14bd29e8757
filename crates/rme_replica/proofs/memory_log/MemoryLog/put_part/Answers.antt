use Rattle.std.proofs.Common.{refl, ap, ◌∙◌, take}
use Rattle.rme_replica.specs.KnownLogs.{log_of}
use Rattle.rme_replica.proofs.Memory.{put_parts}
use Rattle.rme_replica.proofs.memory_log.MemoryLog.put_part.Goals as goal

pub returns-clause-put : goal.returns-clause-put
unfolding log_of
returns-clause-put c = record {
  saw = refl;
  head = refl;
  past = refl;
  parts = put_parts _ c.args.part c.args.self.now.parts.items c.truncate.new.self.items c.push.new.self.items c.in_ok-bytes.bytes c.args.bytes.now
      (c.truncate.ensures.items ∙ ap (λ l. take c.args.part l) c.in_ok-reserve.ensures.items)
      c.in_ok-push.ensures.items
      (c.in_ok-bytes.ensures.items_if_clones_equal (λ x y e. e));
}

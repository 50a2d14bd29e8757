use Rattle.std.proofs.Common.{◌∙◌, ap}
use Rattle.std.specs.Prelude.{None, replicate}
use Rattle.rme_words.specs.declared.shape.Shape.{Shape}
use Rattle.rme_session_world.proofs.Falling.{opens_tended}
use Rattle.rme_session_world.proofs.executor.Executor.new.Goals as goal

pub invariant_of-result : goal.invariant_of-result
invariant_of-result c =
    opens_tended c.args.world c.crash_all_workers.new.world c.in-Ok.holders.items c.crash_all_workers.ensures.fallen (c.in-Ok.ensures ∙ ap (λ (s : Shape). replicate s.workers None) c.shape.ensures)

use Rattle.std.proofs.Common.{refl, ◌∙◌, ap}
use Rattle.rme_world.specs.declared.counts.Counts.{Counts}
use Rattle.rme_world.specs.Counting.{phase_count}
use Rattle.rme_world.proofs.Looking.{steps_most, steps_stay}
use Rattle.rme_world.proofs.world.World.steps.Goals as goal

pub returns : goal.returns
returns c =
    let within = rw c.shape.ensures at c.if-worker-shape.false in
    record {
      accepted = ((λ _. within), (λ _. refl));
      steps = c.of.ensures ∙ ap (λ (k : Counts). phase_count k c.args.phase) c.counts_at.ensures.counts;
      most = steps_most _ c.args.worker c.args.phase _ _ c.counts_at.ensures.kept within c.of.ensures c.counts_at.ensures.counts;
      stay = steps_stay _ c.args.worker c.args.phase _ _ c.counts_at.ensures.kept within c.of.ensures c.counts_at.ensures.counts;
      refused = tt;
    }

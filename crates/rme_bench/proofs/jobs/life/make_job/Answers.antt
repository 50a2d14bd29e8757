use Rattle.std.proofs.Common.{◌∙◌}
use Rattle.std.proofs.lemmas.Result.{MatchResult-weaker}
use Rattle.rme_table.proofs.GoingOn.{performed}
use Rattle.rme_bench.proofs.jobs.life.make_job.Goals as goal

pub exit-requires : goal.exit-requires
exit-requires c = record { ours = (performed _ _ _ _ _ _ _ c.in_ok-leave.ensures).ident ∙ c.in_ok-held.ensures.ours }

pub returns : goal.returns
returns c =
    let left = (performed _ _ _ _ _ _ _ c.in_ok-leave.ensures).ident ∙ c.in_ok-held.ensures.ours in
    record { ours = MatchResult-weaker c.exit.result c.exit.ensures.made (λ ready made. made.stays.ident ∙ left) (λ down fell. fell.ident ∙ left) }

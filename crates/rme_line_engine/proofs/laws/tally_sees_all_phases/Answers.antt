use Rattle.rme_line_engine.proofs.Tallying.{answers_kept, sees_phases}
use Rattle.rme_line_engine.proofs.laws.tally_sees_all_phases.Goals as goal

pub returns : goal.returns
returns c = record { kept = answers_kept; fed = sees_phases }

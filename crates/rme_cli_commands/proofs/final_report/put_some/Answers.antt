use Rattle.rme_cli_lines.proofs.Fronts.{some_front}
use Rattle.rme_cli_commands.proofs.final_report.put_some.Goals as goal

pub returns : goal.returns
returns g c = some_front c.put_all.result _ _ _ c.put_all.ensures.whole c.put_all.ensures.front

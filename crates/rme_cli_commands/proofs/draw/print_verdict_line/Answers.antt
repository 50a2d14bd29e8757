use Rattle.rme_cli_lines.proofs.Fronts.{some_front}
use Rattle.rme_cli_commands.proofs.draw.print_verdict_line.Goals as goal

pub returns : goal.returns
returns g c = some_front c.print_verdict.result _ _ _ c.print_verdict.ensures.told c.print_verdict.ensures.front

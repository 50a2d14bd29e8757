use Rattle.rme_cli_lines.proofs.Fronts.{some_front}
use Rattle.rme_cli_commands.proofs.draw.print_last_lines.Goals as goal

pub returns : goal.returns
returns g c = some_front c.write_last_lines.result _ _ _ c.write_last_lines.ensures.whole c.write_last_lines.ensures.front

use Rattle.rme_cli_lines.proofs.Fronts.{some_front}
use Rattle.rme_cli_commands.proofs.draw.print_no_such_lines.Goals as goal

pub returns : goal.returns
returns g c = some_front c.write_no_such_lines.result _ _ _ c.write_no_such_lines.ensures.whole c.write_no_such_lines.ensures.front

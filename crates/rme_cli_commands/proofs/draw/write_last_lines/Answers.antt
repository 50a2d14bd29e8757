use Rattle.rme_cli_lines.proofs.Fronts.{no_front}
use Rattle.rme_cli_commands.proofs.draw.write_last_lines.Goals as goal

pub returns-in_err-text-clause-front : goal.returns-in_err-text-clause-front
returns-in_err-text-clause-front g c = no_front c.from_residual.result _ _

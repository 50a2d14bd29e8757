use Rattle.rme_line_io.specs.Readers.{most_lines}
use Rattle.rme_cli_ask.proofs.dialogue.Dialogue.relay_lines.Given as goal

abbrev pub decreases-loop-line : goal.decreases-loop-line
decreases-loop-line g l = most_lines l.lines

use Rattle.rme_durable_format.proofs.Newlines.{whole_none, whole_to}
use Rattle.rme_durable_format.proofs.file_lines.whole_lines.Goals as goal

pub returns-in-Some : goal.returns-in-Some
returns-in-Some c = whole_to c.args.bytes.now c.in-Some.at c.in-Some.ensures.0.high c.in-Some.ensures.1 c.in-Some.ensures.0.after

pub returns-in-None : goal.returns-in-None
returns-in-None c = whole_none c.args.bytes.now c.in-None.ensures

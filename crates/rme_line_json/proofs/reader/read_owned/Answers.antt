use Rattle.std.proofs.Common.{sym}
use Rattle.std.proofs.lemmas.Bool.{iff_false}
use Rattle.serde_json.specs.View.{view}
use Rattle.rme_line_json.proofs.ValueLemmas.{value_read, value_none}
use Rattle.rme_line_json.proofs.reader.read_owned.Goals as goal

pub returns-in-Ok : goal.returns-in-Ok
returns-in-Ok c = sym (value_read c.args.line.now (view c.in-Ok.value) c.in-Ok.ensures.ok.0 c.in-Ok.ensures.ok.1)

pub returns-else-is_memory : goal.returns-else-is_memory
returns-else-is_memory c = sym (value_none c.args.line.now (c.in-Err.ensures.err (iff_false c.is_memory.ensures c.if-is_memory.false)))

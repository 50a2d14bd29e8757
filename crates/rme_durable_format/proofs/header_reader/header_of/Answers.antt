use Rattle.std.proofs.Common.{subst, IsTrue, false}
use Rattle.rme_line_json.specs.View.{value_view}
use Rattle.rme_durable_format.specs.Headers.{HeaderValues, IsPossibleHeader, header_values}
use Rattle.rme_durable_format.proofs.OnePast.{same_past}
use Rattle.rme_durable_format.proofs.header_reader.header_of.Goals as goal

pub returns-then-not-is_possible_header : goal.returns-then-not-is_possible_header
returns-then-not-is_possible_header c =
    let told = rw c.in-Some.is at c.in_ok-header.ensures in
    let header = c.in-Some.header in
    let Fits : HeaderValues → Type 0 = λ (past : HeaderValues). IsPossibleHeader c.args.shape past in
    λ past both. let no : IsTrue false = c.if-not-is_possible_header.ensures.1 (subst Fits (same_past c.args.names.now (value_view c.args.value.now) past (header_values header) both.0 told) both.1) in cc

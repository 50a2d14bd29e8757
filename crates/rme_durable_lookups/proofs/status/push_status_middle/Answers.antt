use Rattle.std.proofs.Common.{string_bytes, codes}
use Rattle.rme_durable_lookups.specs.StatusTexts.{term_text}
use Rattle.rme_line_text.proofs.TextLemmas.{append_three}
use Rattle.rme_durable_lookups.proofs.status.push_status_middle.Goals as goal

pub returns : goal.returns
returns c =
    append_three (string_bytes c.args.out.now) _ _ _ (codes "],\"ok\":\"status\"") (term_text c.args.leader.now) (codes ",\"workers\":[")
    c.in_ok-push_str.ensures.bytes c.in_ok-push_term.ensures c.in_ok-push_str-2.ensures.bytes

use Rattle.std.proofs.Common.{string_bytes}
use Rattle.rme_line_text.specs.Texts.{entries_text}
use Rattle.rme_line_text.proofs.TextLemmas.{append_three}
use Rattle.rme_line_text.proofs.answer.push_history.Goals as goal

pub returns : goal.returns
returns c =
    append_three (string_bytes c.args.out.now) _ _ _ _ (entries_text c.args.names.now c.args.entries.now.entries) _ c.in_ok-push_str.ensures.bytes c.in_ok-push_entries.ensures c.in_ok-push_str-2.ensures.bytes

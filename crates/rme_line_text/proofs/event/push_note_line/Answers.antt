use Rattle.std.proofs.Common.{string_bytes}
use Rattle.rme_line_text.specs.Texts.{note_text}
use Rattle.rme_line_text.specs.Events.{worker_end}
use Rattle.rme_line_text.proofs.TextLemmas.{append_three}
use Rattle.rme_line_text.proofs.event.push_note_line.Goals as goal

pub returns : goal.returns
returns c =
    append_three (string_bytes c.args.out.now) _ _ _ _ (note_text c.args.names.now c.args.note) (worker_end c.args.worker) c.in_ok-push_str.ensures.bytes c.in_ok-push_note.ensures c.in_ok-push_worker_end.ensures

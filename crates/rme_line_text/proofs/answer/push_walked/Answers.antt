use Rattle.std.proofs.Common.{string_bytes}
use Rattle.rme_line_text.specs.Texts.{notes_text}
use Rattle.rme_line_text.specs.Replies.{end_word, walk_front}
use Rattle.rme_line_text.proofs.TextLemmas.{append_three}
use Rattle.rme_line_text.proofs.answer.push_walked.Goals as goal

pub returns : goal.returns
returns c =
    let walked = c.args.walked.now in
    let front = rw c.word.ensures at c.in_ok-push_walk_front.ensures in
    let notes = rw c.as_slice.ensures at c.in_ok-push_notes.ensures in
    append_three (string_bytes c.args.out.now) _ _ _ (walk_front (end_word walked.end)) (notes_text c.args.names.now walked.notes) _ front notes c.in_ok-push_str.ensures.bytes

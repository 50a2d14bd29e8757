use Rattle.std.proofs.Common.{string_bytes}
use Rattle.rme_line_text.specs.Texts.{lock_name, ops_text}
use Rattle.rme_line_text.proofs.TextLemmas.{append_three}
use Rattle.rme_session_protocol.specs.ReplyTexts.{pending_end, pending_front, stance_word}
use Rattle.rme_session_protocol.proofs.reply.push_pending.Goals as goal

pub returns : goal.returns
returns c =
    let pending = c.args.pending.now in
    let front = rw c.lock_name.ensures at c.in_ok-push_pending_front.ensures in
    let end = rw c.word.ensures at c.in_ok-push_pending_end.ensures in
    append_three (string_bytes c.args.out.now) _ _ _ (pending_front (lock_name c.args.names.now pending.job.lock) pending.number) (ops_text pending.job.script.ops) (pending_end (stance_word pending.stance))
    front c.in_ok-push_ops.ensures end

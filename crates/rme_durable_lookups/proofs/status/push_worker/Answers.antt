use Rattle.std.proofs.Common.{string_bytes}
use Rattle.rme_durable_lookups.specs.StatusTexts.{label_text, lock_member_text, note_label, note_seconds, number_member_text, worker_front, worker_stance_lock, worker_stance_word, worker_status_end}
use Rattle.rme_line_text.proofs.TextLemmas.{append_five}
use Rattle.rme_durable_lookups.proofs.status.push_worker.Goals as goal

pub returns : goal.returns
returns c =
    let status = c.args.status in
    let note = c.args.note in
    let label = rw c.note_members-label.ensures.label at c.in_ok-push_label.ensures in
    let member = rw c.lock.ensures at c.in_ok-push_lock_member.ensures in
    let seconds = rw c.note_members-label.ensures.seconds at c.in_ok-push_worker_status_end.ensures in
    let end = rw c.word.ensures at seconds in
    append_five (string_bytes c.args.out.now) _ _ _ _ _ (label_text (note_label note)) (worker_front status.attached status.blocked_by) (lock_member_text c.args.names.now (worker_stance_lock status.stance)) (number_member_text status.number) (worker_status_end (note_seconds note) (worker_stance_word status.stance))
    label c.in_ok-push_worker_front.ensures member c.in_ok-push_number.ensures end

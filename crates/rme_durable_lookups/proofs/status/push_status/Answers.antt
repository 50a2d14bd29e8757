use Rattle.std.proofs.Common.{string_bytes, codes}
use Rattle.rme_durable_lookups.specs.StatusTexts.{locks_text, source_state, status_front, status_middle, workers_text}
use Rattle.rme_line_text.proofs.TextLemmas.{append_five}
use Rattle.rme_durable_lookups.proofs.status.push_status.Goals as goal

pub returns : goal.returns
returns c =
    let told = c.args.told.now in
    let state = source_state told in
    let leader = c.args.notes.now.leader.now in
    append_five (string_bytes c.args.out.now) _ _ _ _ _ (status_front told.epoch leader) (locks_text c.args.names.now state) (status_middle leader) (workers_text c.args.names.now state c.args.notes.now.workers.now) (codes "]}")
    c.in_ok-push_status_front.ensures c.in_ok-push_locks.ensures c.in_ok-push_status_middle.ensures c.in_ok-push_workers.ensures c.in_ok-push_str.ensures.bytes

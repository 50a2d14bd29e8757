use Rattle.std.proofs.Common.{◌++◌, ◌-◌, ◌<◌, ℕ, List, Option, string_bytes, ap, ◌∙◌, arith}
use Rattle.rme_durable_lookups.specs.StatusTexts.{numbered_worker_text, source_state, worker_status, worker_status_text}
use Rattle.rme_durable_lookups.specs.declared.status.WorkerStatus.{WorkerStatus}
use Rattle.rme_durable_lookups.specs.declared.worker_notes.WorkerNote.{WorkerNote}
use Rattle.rme_durable_lookups.proofs.Listing.{numbers_next}
use Rattle.rme_durable_lookups.proofs.status.push_workers.Goals as goal

pub loop-worker-preserved : goal.loop-worker-preserved
loop-worker-preserved c =
    let told = c.args.told.now in
    let names = c.args.names.now in
    let worker = c.loop-worker.worker in
    let clients = told.world.now.shape.workers - 1 in
    let notes = c.args.notes.now in
    let text = numbered_worker_text names (source_state told) notes in
    let below : worker < clients = omega (arith, c.loop-worker-test.true, c.clients_of-worker-end.ensures) in
    let told_of = ap (λ (s : WorkerStatus). worker_status_text names s c.note_on.result) c.in-Some.ensures in
    let noted_of = ap (λ (n : Option WorkerNote). worker_status_text names (worker_status (source_state told) worker) n) c.note_on.ensures in
    let written = c.in_ok-push_worker.ensures ∙ ap (λ (t : List ℕ). string_bytes c.push_comma.new.out ++ t) (told_of ∙ noted_of) in
    numbers_next text (string_bytes c.args.out.now) clients (string_bytes c.loop-worker.out) c.loop-worker.later worker (string_bytes c.push_comma.new.out) (string_bytes c.push_worker.new.out) below c.loop-worker.invariant c.in_ok-push_comma.ensures written

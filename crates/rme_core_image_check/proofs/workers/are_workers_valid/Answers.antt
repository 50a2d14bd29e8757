use Rattle.std.proofs.Common.{◌≡◌, ◌<◌, ℕ, refl, sym, ◌∙◌, ap, subst, arith}
use Rattle.std.specs.Prelude.{slice_get, Option, Some}
use Rattle.std.proofs.lemmas.Option.{slice_get_read, same_Some}
use Rattle.rme_words.specs.declared.shape.Shape.{Shape}
use Rattle.rme_words.specs.Words.{memory_of}
use Rattle.rme_tree.specs.Nodes.{held_levels_in}
use Rattle.rme_program.specs.declared.note.Entry.{Entry}
use Rattle.rme_machine.specs.Views.{worker_words}
use Rattle.rme_core_image_check.specs.Workers.{WorkerIsValid}
use Rattle.rme_core_image_check.proofs.Answering.{no_to, yes_to, refuted}
use Rattle.rme_core_image_check.proofs.Rising.{up_to}
use Rattle.rme_core_image_check.proofs.workers.are_workers_valid.Goals as goal

pub returns-then-not-is_worker_valid : goal.returns-then-not-is_worker_valid
returns-then-not-is_worker_valid c =
    let below : c.loop-worker.worker < c.args.bank.now.shape.workers = subst (λ (s : Shape). c.loop-worker.worker < s.workers) c.shape-shape.ensures c.loop-worker-test.true in
    no_to (λ all. refuted c.if-not-is_worker_valid.ensures
    (all c.loop-worker.worker c.index-last_entries-worker.result below (slice_get_read c.args.last_entries.now _ c.loop-worker.worker c.index-last_entries-worker.result (sym c.requires) below c.index-last_entries-worker.is)))

pub loop-worker-preserved : goal.loop-worker-preserved
loop-worker-preserved c worker last less here =
    let below : c.loop-worker.worker < c.args.bank.now.shape.workers = subst (λ (s : Shape). c.loop-worker.worker < s.workers) c.shape-shape.ensures c.loop-worker-test.true in
    let read : slice_get c.args.last_entries.now c.loop-worker.worker ≡ Some c.index-last_entries-worker.result =
    slice_get_read c.args.last_entries.now _ c.loop-worker.worker c.index-last_entries-worker.result (sym c.requires) below c.index-last_entries-worker.is in
    up_to (λ (w : ℕ). (x : Option Entry) → slice_get c.args.last_entries.now w ≡ Some x
    → WorkerIsValid c.args.bank.now.shape (worker_words (memory_of c.args.bank.now) w) (held_levels_in c.args.bank.now.shape (memory_of c.args.bank.now) w) x)
    c.loop-worker.worker (λ w under x. c.loop-worker.invariant w x under)
    (λ x at. subst (λ (y : Option Entry). WorkerIsValid c.args.bank.now.shape (worker_words (memory_of c.args.bank.now) c.loop-worker.worker)
    (held_levels_in c.args.bank.now.shape (memory_of c.args.bank.now) c.loop-worker.worker) y) (same_Some _ _ (sym read ∙ at)) (c.if-not-is_worker_valid.ensures.0 refl))
    worker less last here

pub returns : goal.returns
returns c =
    yes_to (λ worker last below here.
    let all = ap (λ (s : Shape). s.workers) c.shape-shape.ensures in c.loop-worker.invariant worker last (omega (arith, below, all, c.loop-worker-test.false)) here)

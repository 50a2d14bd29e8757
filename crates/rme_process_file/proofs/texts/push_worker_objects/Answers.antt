use Rattle.std.proofs.Common.{◌<◌, ◌≤◌, string_bytes, subst}
use Rattle.std.specs.List.{range_with_len}
use Rattle.rme_words.specs.declared.shape.Shape.{Shape}
use Rattle.rme_line_text.proofs.TextLemmas.{separates_next, separates_all}
use Rattle.rme_process_file.specs.FileTexts.{worker_object}
use Rattle.rme_process_file.proofs.Lines.{next_of, none_left}
use Rattle.rme_process_file.proofs.texts.push_worker_objects.Goals as goal

pub loop-worker-preserved : goal.loop-worker-preserved
loop-worker-preserved c =
    let less = subst (λ (s : Shape). c.loop-worker.worker < s.workers) c.shape-shape.ensures c.loop-worker-test.true in
    let so_far = rw (next_of c.args.mapped.now.shape.workers c.loop-worker.worker less) at c.loop-worker.invariant in
    separates_next (worker_object c.args.mapped.now c.args.living.now) (string_bytes c.args.out.now) (range_with_len 0 c.args.mapped.now.shape.workers) _ _ c.loop-worker.worker _ _ _ so_far c.in_ok-push_comma.ensures c.in_ok-push_worker_object.ensures

pub returns : goal.returns
returns c =
    let past = subst (λ (s : Shape). s.workers ≤ c.loop-worker.worker) c.shape-shape.ensures c.loop-worker-test.false in
    separates_all (worker_object c.args.mapped.now c.args.living.now) (string_bytes c.args.out.now) (range_with_len 0 c.args.mapped.now.shape.workers) (string_bytes c.loop-worker.out) c.loop-worker.later (rw (none_left c.args.mapped.now.shape.workers c.loop-worker.worker past) at c.loop-worker.invariant)

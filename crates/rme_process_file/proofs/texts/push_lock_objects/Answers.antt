use Rattle.std.proofs.Common.{◌<◌, ◌≤◌, string_bytes, subst}
use Rattle.std.specs.List.{range_with_len}
use Rattle.rme_words.specs.declared.shape.Shape.{Shape}
use Rattle.rme_line_text.proofs.TextLemmas.{separates_next, separates_all}
use Rattle.rme_process_file.specs.FileTexts.{lock_object}
use Rattle.rme_process_file.proofs.Lines.{next_of, none_left}
use Rattle.rme_process_file.proofs.texts.push_lock_objects.Goals as goal

pub loop-lock-preserved : goal.loop-lock-preserved
loop-lock-preserved c =
    let less = subst (λ (s : Shape). c.loop-lock.lock < s.locks) c.shape-shape.ensures c.loop-lock-test.true in
    let so_far = rw (next_of c.args.mapped.now.shape.locks c.loop-lock.lock less) at c.loop-lock.invariant in
    separates_next (lock_object c.args.mapped.now) (string_bytes c.args.out.now) (range_with_len 0 c.args.mapped.now.shape.locks) _ _ c.loop-lock.lock _ _ _ so_far c.in_ok-push_comma.ensures c.in_ok-push_lock_object.ensures

pub returns : goal.returns
returns c =
    let past = subst (λ (s : Shape). s.locks ≤ c.loop-lock.lock) c.shape-shape.ensures c.loop-lock-test.false in
    separates_all (lock_object c.args.mapped.now) (string_bytes c.args.out.now) (range_with_len 0 c.args.mapped.now.shape.locks) (string_bytes c.loop-lock.out) c.loop-lock.later (rw (none_left c.args.mapped.now.shape.locks c.loop-lock.lock past) at c.loop-lock.invariant)

use Rattle.std.proofs.Common.{◌++◌, ◌<◌, ℕ, List, string_bytes, ap, ◌∙◌, arith}
use Rattle.rme_words.specs.declared.shape.Shape.{Shape}
use Rattle.rme_line_text.specs.Texts.{lock_name}
use Rattle.rme_durable_lookups.specs.StatusTexts.{lock_status_text, lock_text, source_state}
use Rattle.rme_durable_lookups.specs.declared.status.LockStatus.{LockStatus}
use Rattle.rme_durable_lookups.proofs.Listing.{numbers_next}
use Rattle.rme_durable_lookups.proofs.status.push_locks.Goals as goal

pub loop-lock-preserved : goal.loop-lock-preserved
loop-lock-preserved c =
    let told = c.args.told.now in
    let names = c.args.names.now in
    let lock = c.loop-lock.lock in
    let locks = told.world.now.shape.locks in
    let text = lock_text names (source_state told) in
    let below : lock < locks = omega (arith, c.loop-lock-test.true, c.locks-lock-end.ensures, ap (λ (s : Shape). s.locks) c.shape.ensures) in
    let named = ap (λ (n : List ℕ). lock_status_text n c.in-Some.status) c.lock_name.ensures in
    let told_of = ap (λ (s : LockStatus). lock_status_text (lock_name names lock) s) c.in-Some.ensures in
    let written = c.in_ok-push_lock.ensures ∙ ap (λ (t : List ℕ). string_bytes c.push_comma.new.out ++ t) (named ∙ told_of) in
    numbers_next text (string_bytes c.args.out.now) locks (string_bytes c.loop-lock.out) c.loop-lock.later lock (string_bytes c.push_comma.new.out) (string_bytes c.push_lock.new.out) below c.loop-lock.invariant c.in_ok-push_comma.ensures written

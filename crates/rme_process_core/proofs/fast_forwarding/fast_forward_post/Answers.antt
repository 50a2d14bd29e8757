use Rattle.std.proofs.Common.{◌≡◌, ◌≤◌, ◌+◌, ◌-◌, ◌*◌, [], ◌∷◌, ℕ, List, arith}
use Rattle.rme_program.specs.declared.private.Private.{Private}
use Rattle.rme_program.specs.declared.stage.Stage.TheVariants.{Posting, Climbing}
use Rattle.rme_program.specs.declared.note.Note.TheVariants.{Asked, Entered}
use Rattle.rme_program.specs.Conditions.{IsPrivate}
use Rattle.rme_process_core.specs.Runs.{private_at_stage, climbing_private}
use Rattle.rme_process_core.proofs.Led.{jumps_none, takes_run, writes_one, writes_then}
use Rattle.rme_process_core.proofs.Jumping.{post_led, begun_private, led_rest, rest_within, private_at, jumps_at}
use Rattle.rme_process_core.proofs.fast_forwarding.fast_forward_post.Goals as goal

pub returns-in_default : goal.returns-in_default
returns-in_default c = jumps_none c.args.shape.now c.args.private.now c.args.values.now c.args.outcome.now c.requires.private

pub returns-then-values-stores : goal.returns-then-values-stores
returns-then-values-stores c = jumps_none c.args.shape.now c.args.private.now c.args.values.now c.args.outcome.now c.requires.private

pub returns-then-entered-gt0 : goal.returns-then-entered-gt0
returns-then-entered-gt0 c =
    let shape = c.args.shape.now in let private = c.args.private.now in let slate = c.in-Posting.slate in let n = slate.job.script.n in let values : List ℕ = c.args.values.now in
    let worker = private.worker in let begun = private.begun in let lock = slate.job.lock in
    let stores : ℕ = 3 + 3 * c.n.result - slate.stored in let entered = c.enter-entered.result in let stage = c.enter-entered.new.stage in
    let is : IsPrivate shape (private_at_stage worker begun (Posting slate)) = private_at shape private (Posting slate) c.in-Posting.is c.requires.private in
    let few : slate.stored ≤ 2 + 3 * n = is.stage.2 in
    let some : entered ≡ 0 → ⊥ = λ none. omega (arith, none, c.if-entered-gt0.true) in
    let mid : Private = climbing_private worker (begun + 1) lock 0 in let next : Private = private_at_stage worker (begun + 1) stage in
    let before = c.args.outcome.now in let asked = c.put.new.outcome in let after = c.put-then-entered-gt0.new.outcome in
    jumps_at shape private (Posting slate) c.in-Posting.is values (stores + entered) before next after record {
      within = rest_within values stores entered c.if-values-stores.false c.enter-entered.ensures.within;
      notes = Asked (begun + 1) ∷ Entered lock ∷ [];
      takes = takes_run shape (private_at_stage worker begun (Posting slate)) values stores (Asked (begun + 1) ∷ []) mid next
          (post_led shape worker begun slate values stores (omega (arith, few, c.n.ensures.n)) few c.if-values-stores.false)
          entered (Entered lock ∷ []) (led_rest shape mid values stores entered (Entered lock ∷ []) next (c.enter-entered.ensures.enters some worker (begun + 1)));
      few = omega (arith, few, c.n.ensures.n, c.if-entered-gt0.true);
      writes = writes_then before asked after (Asked (begun + 1) ∷ []) (Entered lock ∷ [])
          (writes_one before asked c.flat_number_note.result (Asked (begun + 1)) c.flat_number_note.ensures c.put.ensures.told c.put.ensures.count)
          (writes_one asked after c.flat_lock_note.result (Entered lock) c.flat_lock_note.ensures c.put-then-entered-gt0.ensures.told c.put-then-entered-gt0.ensures.count);
      private = begun_private shape worker begun slate stage is (c.enter-entered.ensures.stage some (begun + 1));
    }

pub returns : goal.returns
returns c =
    let shape = c.args.shape.now in let private = c.args.private.now in let slate = c.in-Posting.slate in let n = slate.job.script.n in let values : List ℕ = c.args.values.now in
    let worker = private.worker in let begun = private.begun in let lock = slate.job.lock in
    let stores : ℕ = 3 + 3 * c.n.result - slate.stored in
    let is : IsPrivate shape (private_at_stage worker begun (Posting slate)) = private_at shape private (Posting slate) c.in-Posting.is c.requires.private in
    let few : slate.stored ≤ 2 + 3 * n = is.stage.2 in
    jumps_at shape private (Posting slate) c.in-Posting.is values stores c.args.outcome.now (climbing_private worker (begun + 1) lock 0) c.put-2.new.outcome record {
      within = c.if-values-stores.false;
      notes = Asked (begun + 1) ∷ [];
      takes = post_led shape worker begun slate values stores (omega (arith, few, c.n.ensures.n)) few c.if-values-stores.false;
      few = omega (arith, few, c.n.ensures.n);
      writes = writes_one c.args.outcome.now c.put-2.new.outcome c.flat_number_note-2.result (Asked (begun + 1)) c.flat_number_note-2.ensures c.put-2.ensures.told c.put-2.ensures.count;
      private = begun_private shape worker begun slate (Climbing record { lock = lock; held = 0 }) is (is.stage.1.lock, omega (arith, shape.counted));
    }

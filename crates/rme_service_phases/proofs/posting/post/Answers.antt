use Rattle.std.proofs.Common.{arith}
use Rattle.rme_words.specs.declared.address.Address.TheVariants.{Begun, SlateLock, SlateLen}
use Rattle.rme_service_steps.proofs.Chains.{falls_at, falls_led}
use Rattle.rme_service_phases.proofs.Joins.{is_before}
use Rattle.rme_service_phases.proofs.Outcomes.{passed_on}
use Rattle.rme_service_phases.proofs.Writing.{submit_may, post_one, len_may, post_two, post_words, begun_may, post_last, made_named, fell_named, may_named, at_begun, at_word}
use Rattle.rme_service_phases.proofs.posting.post.Goals as goal

pub submit-requires-clause-may : goal.submit-requires-clause-may
submit-requires-clause-may g c =
    let rests = at_begun _ _ _ c.args.begun c.requires.at c.requires.begun in (
      SlateLock c.args.seat.now.part.worker,
      may_named _ _ c.requires.named (submit_may _ c.args.job.now c.args.seat.now (g.C.Chance.tally c.args.chance.now) _ rests _
          c.requires.few c.requires.good (at_word SlateLock _ _ _ _ _ c.shape-shape.ensures c.worker-worker.ensures.worker c.slate_lock_at-at.ensures)),
    )

pub returns-in_err-submit : goal.returns-in_err-submit
returns-in_err-submit g c = record { posted = passed_on _ _ _ c.from_residual.ensures.0 (falls_at _ _ _ _ _ _ _ (fell_named _ _ c.requires.named c.in_err-submit.ensures) (omega arith)) }

pub store-requires-clause-may : goal.store-requires-clause-may
store-requires-clause-may g c =
    let rests = at_begun _ _ _ c.args.begun c.requires.at c.requires.begun in
    let one = post_one _ c.args.job.now c.args.seat.now (g.C.Chance.tally c.args.chance.now) _ rests _ _ (made_named _ _ c.requires.named c.in_ok-submit.ensures) in
    len_may _ c.args.job.now c.args.seat.now (g.C.Chance.tally c.args.chance.now) _ rests _ (g.C.Chance.tally c.submit.new.chance) _ _ _ c.n.ensures.n one
    (at_word SlateLen _ _ _ _ _ c.shape-shape.ensures c.worker-worker.ensures.worker c.slate_len_at-at.ensures)

pub returns-in_err-store : goal.returns-in_err-store
returns-in_err-store g c =
    let rests = at_begun _ _ _ c.args.begun c.requires.at c.requires.begun in
    let one = post_one _ c.args.job.now c.args.seat.now (g.C.Chance.tally c.args.chance.now) _ rests _ _ (made_named _ _ c.requires.named c.in_ok-submit.ensures) in
    record { posted = passed_on _ _ _ c.from_residual-in_err-store.ensures.0 (falls_led _ _ _ _ _ _ _ (omega arith) one (falls_at _ _ _ _ _ _ 1 c.in_err-store.ensures (omega arith)) (omega arith)) }

pub write_operations-requires-clause-at : goal.write_operations-requires-clause-at
write_operations-requires-clause-at g c =
    let rests = at_begun _ _ _ c.args.begun c.requires.at c.requires.begun in
    let one = post_one _ c.args.job.now c.args.seat.now (g.C.Chance.tally c.args.chance.now) _ rests _ _ (made_named _ _ c.requires.named c.in_ok-submit.ensures) in
    let two = post_two _ c.args.job.now c.args.seat.now (g.C.Chance.tally c.args.chance.now) _ rests _ _ _ _ _ one c.in_ok-store.ensures in
    is_before _ _ _ _ two.at

pub returns-in_err-write_operations : goal.returns-in_err-write_operations
returns-in_err-write_operations g c =
    let rests = at_begun _ _ _ c.args.begun c.requires.at c.requires.begun in
    let one = post_one _ c.args.job.now c.args.seat.now (g.C.Chance.tally c.args.chance.now) _ rests _ _ (made_named _ _ c.requires.named c.in_ok-submit.ensures) in
    let two = post_two _ c.args.job.now c.args.seat.now (g.C.Chance.tally c.args.chance.now) _ rests _ _ _ _ _ one c.in_ok-store.ensures in
    record { posted = passed_on _ _ _ c.from_residual-in_err-write_operations.ensures.0 (falls_led _ _ _ _ _ _ _ (omega arith) two c.in_err-write_operations.ensures (omega arith)) }

pub store-requires-2-clause-may : goal.store-requires-2-clause-may
store-requires-2-clause-may g c =
    let rests = at_begun _ _ _ c.args.begun c.requires.at c.requires.begun in
    let one = post_one _ c.args.job.now c.args.seat.now (g.C.Chance.tally c.args.chance.now) _ rests _ _ (made_named _ _ c.requires.named c.in_ok-submit.ensures) in
    let two = post_two _ c.args.job.now c.args.seat.now (g.C.Chance.tally c.args.chance.now) _ rests _ _ _ _ _ one c.in_ok-store.ensures in
    let words = post_words _ c.args.job.now c.args.seat.now (g.C.Chance.tally c.args.chance.now) _ rests _ _ _ _ two c.in_ok-write_operations.ensures in
    begun_may _ c.args.job.now c.args.seat.now (g.C.Chance.tally c.args.chance.now) _ rests _ _ _ _ words
    (at_word Begun _ _ _ _ _ c.shape-shape.ensures c.worker-worker.ensures.worker c.begun_at-at.ensures)

pub returns-in_err-store-2 : goal.returns-in_err-store-2
returns-in_err-store-2 g c =
    let rests = at_begun _ _ _ c.args.begun c.requires.at c.requires.begun in
    let one = post_one _ c.args.job.now c.args.seat.now (g.C.Chance.tally c.args.chance.now) _ rests _ _ (made_named _ _ c.requires.named c.in_ok-submit.ensures) in
    let two = post_two _ c.args.job.now c.args.seat.now (g.C.Chance.tally c.args.chance.now) _ rests _ _ _ _ _ one c.in_ok-store.ensures in
    let words = post_words _ c.args.job.now c.args.seat.now (g.C.Chance.tally c.args.chance.now) _ rests _ _ _ _ two c.in_ok-write_operations.ensures in
    record { posted = passed_on _ _ _ c.from_residual-in_err-store-2.ensures.0 (falls_led _ _ _ _ _ _ _ (omega arith) words (falls_at _ _ _ _ _ _ 1 c.in_err-store-2.ensures (omega arith)) (omega arith)) }

pub returns : goal.returns
returns g c =
    let rests = at_begun _ _ _ c.args.begun c.requires.at c.requires.begun in
    let one = post_one _ c.args.job.now c.args.seat.now (g.C.Chance.tally c.args.chance.now) _ rests _ _ (made_named _ _ c.requires.named c.in_ok-submit.ensures) in
    let two = post_two _ c.args.job.now c.args.seat.now (g.C.Chance.tally c.args.chance.now) _ rests _ _ _ _ _ one c.in_ok-store.ensures in
    let words = post_words _ c.args.job.now c.args.seat.now (g.C.Chance.tally c.args.chance.now) _ rests _ _ _ _ two c.in_ok-write_operations.ensures in
    record { posted = post_last _ c.args.job.now c.args.seat.now (g.C.Chance.tally c.args.chance.now) _ rests _ _ _ _ words c.in_ok-store-2.ensures }

use Rattle.std.proofs.Common.{◌∙◌, arith}
use Rattle.std.specs.Slots.{slots_items}
use Rattle.rme_service_steps.proofs.Positions.{front_long, word_next}
use Rattle.rme_service_steps.proofs.closing.with_bank.Goals as goal

pub loop-number-preserved : goal.loop-number-preserved
loop-number-preserved c =
    (word_next c.args.shape _ _ _ _ c.loop-number.number _ _ c.loop-number.invariant.0 c.position_of_word.ensures.position c.word.ensures c.push_reserved.ensures.items, c.push_reserved.ensures.capacity ∙ c.loop-number.invariant.1)

pub push_reserved-requires : goal.push_reserved-requires
push_reserved-requires c =
    let long = front_long c.args.shape (slots_items c.args.closed.now.words) c.args.words.items c.loop-number.words.items c.loop-number.number c.loop-number.invariant.0 in
    omega (arith, long, c.requires.room, c.loop-number.invariant.1, c.loop-number-test.true, c.words-number-end.ensures)

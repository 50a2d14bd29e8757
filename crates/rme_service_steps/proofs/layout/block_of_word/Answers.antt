use Rattle.std.proofs.Common.{◌∙◌, ◌+◌, ◌*◌, ◌/◌, ◌-◌, ℕ, ap, sym}
use Rattle.rme_words.specs.Words.{lock_block}
use Rattle.rme_service_steps.proofs.Positions.{of_worker_block, of_lock_block}
use Rattle.rme_service_steps.proofs.layout.block_of_word.Goals as goal

pub returns-then-number-own-clause-block : goal.returns-then-number-own-clause-block
returns-then-number-own-clause-block c = sym (of_worker_block c.args.shape c.args.number c.if-number-own.true)

pub returns-clause-block : goal.returns-clause-block
returns-clause-block c =
    ap (λ (half : ℕ). c.args.shape.workers + (2 * ((c.args.number - 31 * c.args.shape.workers) / lock_block c.args.shape) + half)) c.half_of_lock.ensures.half
    ∙ sym (of_lock_block c.args.shape c.args.number c.if-number-own.false)

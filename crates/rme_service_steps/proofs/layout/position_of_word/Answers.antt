use Rattle.std.proofs.Common.{◌∙◌, ◌+◌, ◌*◌, ℕ, ap, sym}
use Rattle.rme_service_steps.proofs.Positions.{is_position}
use Rattle.rme_service_steps.proofs.layout.position_of_word.Goals as goal

pub returns-clause-position : goal.returns-clause-position
returns-clause-position c = ap (λ (block : ℕ). c.args.number + 7 * (1 + block)) c.block_of_word.ensures.block ∙ sym (is_position c.args.shape c.args.number)

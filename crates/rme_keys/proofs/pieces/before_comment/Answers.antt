use Rattle.std.proofs.Common.{◌==◌, ◌∙◌}
use Rattle.rme_keys.proofs.Cuts.{before_nothing, before_place}
use Rattle.rme_keys.proofs.pieces.before_comment.Goals as goal

pub returns-in-Some : goal.returns-in-Some
returns-in-Some c = c.bytes_before.ensures ∙ before_place (λ byte. byte == 35) c.args.line.now c.in-Some.at c.in-Some.ensures.first

pub returns-in-None : goal.returns-in-None
returns-in-None c = before_nothing (λ byte. byte == 35) c.args.line.now c.in-None.ensures.first

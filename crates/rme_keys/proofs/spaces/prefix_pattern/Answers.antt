use Rattle.std.proofs.Common.{sym, ◌∙◌}
use Rattle.rme_keys.proofs.SpaceTexts.{no_prefix}
use Rattle.rme_keys.proofs.spaces.prefix_pattern.Goals as goal

pub returns-then-not-is_space_front : goal.returns-then-not-is_space_front
returns-then-not-is_space_front c = no_prefix c.args.text.now (sym c.is_space_front.ensures ∙ c.if-not-is_space_front.true)

pub returns : goal.returns
returns c = (sym c.is_space_front.ensures ∙ c.if-not-is_space_front.false, c.in_ok-front.ensures.items)

use Rattle.std.proofs.Common.{sym, ◌∙◌}
use Rattle.rme_keys.proofs.SpaceTexts.{no_name}
use Rattle.rme_keys.proofs.spaces.name_pattern.Goals as goal

pub returns-then-not-is_space_name : goal.returns-then-not-is_space_name
returns-then-not-is_space_name c = no_name c.args.text.now (sym c.is_space_name.ensures ∙ c.if-not-is_space_name.true)

pub returns : goal.returns
returns c = (sym c.is_space_name.ensures ∙ c.if-not-is_space_name.false, c.in_ok-only.ensures.items)

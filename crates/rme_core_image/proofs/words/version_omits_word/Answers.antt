use Rattle.std.proofs.Common.{◌∙◌}
use Rattle.rme_core_image.proofs.Masks.{skips_old, skips_new}
use Rattle.rme_core_image.proofs.words.version_omits_word.Goals as goal

pub returns-then-version-eq-OLD_VERSION : goal.returns-then-version-eq-OLD_VERSION
returns-then-version-eq-OLD_VERSION c = c.is_end_of_block.ensures ∙ skips_old c.args.version c.args.shape c.args.number c.if-version-eq-OLD_VERSION.true c.requires

pub returns-else-version-eq-OLD_VERSION : goal.returns-else-version-eq-OLD_VERSION
returns-else-version-eq-OLD_VERSION c = skips_new c.args.version c.args.shape c.args.number c.if-version-eq-OLD_VERSION.false

use Rattle.std.proofs.Common.{sym, ◌∙◌}
use Rattle.rme_core_image.proofs.Masks.{mask_room}
use Rattle.rme_core_image.proofs.words.read_word.Goals as goal

pub implied_mask-requires : goal.implied_mask-requires
implied_mask-requires c = mask_room c.args.version c.args.shape _ (sym c.version_omits_word.ensures ∙ c.if-version_omits_word.true)

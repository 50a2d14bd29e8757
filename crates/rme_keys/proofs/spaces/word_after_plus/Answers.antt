use Rattle.std.proofs.Common.{[], ◌∷◌}
use Rattle.std.proofs.lemmas.Bool.Decides.{Decides-eqb}
use Rattle.std.proofs.lemmas.Slice.Eq.{strip_prefix_is}
use Rattle.rme_keys.proofs.spaces.word_after_plus.Goals as goal

pub returns : goal.returns
returns c = strip_prefix_is Decides-eqb c.args.word.now (43 ∷ []) c.strip_prefix.result c.strip_prefix.ensures.cases

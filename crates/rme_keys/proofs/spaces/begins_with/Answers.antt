use Rattle.std.proofs.Common.{drop, length}
use Rattle.std.proofs.lemmas.Bool.Decides.{Decides-eqb}
use Rattle.std.proofs.lemmas.Slice.Eq.{starts_is}
use Rattle.rme_keys.proofs.spaces.begins_with.Goals as goal

pub returns : goal.returns
returns c =
    let is = starts_is Decides-eqb c.args.name.now c.args.front.now c.starts_with.result c.starts_with.ensures.value in (
      λ begins. (drop (length c.args.front.now) c.args.name.now, is.0 begins),
      λ split. is.1 split.0 split.1,
    )

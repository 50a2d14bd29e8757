use Rattle.std.proofs.Common.{◌↔◌, ℕ, List, IsTrue, sym, ap, ◌∙◌, subst}
use Rattle.std.proofs.lemmas.Bool.{false≢true}
use Rattle.rme_keys.specs.Spaces.{CoverName, is_space_name}
use Rattle.rme_keys.specs.declared.spaces.SpacePattern.{SpacePattern}
use Rattle.rme_keys.proofs.key.Key.allows_space.Goals as goal

pub returns-then-not-is_space_name : goal.returns-then-not-is_space_name
returns-then-not-is_space_name c =
    let same = ap is_space_name c.as_bytes-name.ensures.value in (
      λ never. absurd (false≢true never),
      λ allows. absurd (false≢true (sym c.if-not-is_space_name.true ∙ c.is_space_name.ensures ∙ same ∙ allows.0)),
    )

pub returns : goal.returns
returns c =
    let same = ap is_space_name c.as_bytes-name.ensures.value in
    let named = sym same ∙ sym c.is_space_name.ensures ∙ c.if-not-is_space_name.false in
    let yes = c.cover_name.result in
    let own = subst (λ (patterns : List SpacePattern). IsTrue yes ↔ CoverName patterns c.as_bytes-name.result.now) c.as_slice.ensures.value c.cover_name.ensures in
    let covers = subst (λ (name : List ℕ). IsTrue yes ↔ CoverName c.args.self.now.spaces.items name) c.as_bytes-name.ensures.value own in
    (λ is. (named, covers.0 is), λ allows. covers.1 allows.1)

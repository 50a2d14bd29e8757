use Rattle.std.proofs.Common.{ap, ◌∙◌}
use Rattle.rme_keys.specs.Finding.{NameInTurn}
use Rattle.rme_keys.specs.Spaces.{IsPatternText, IsSpacesText}
use Rattle.rme_keys.proofs.InTurn.{bytes_of, found_then}
use Rattle.rme_keys.proofs.SpaceTexts.{same_pieces}
use Rattle.rme_keys.proofs.spaces.spaces_of_text.Goals as goal

pub returns : goal.returns
returns c =
    let text = c.args.text.now in
    let pieces = bytes_of c.as_slice.result.now in
    let cut = ap bytes_of c.as_slice.ensures.value ∙ c.in_ok-pieces.ensures in
    found_then c.patterns_of.result (λ patterns. patterns.items) (NameInTurn IsPatternText pieces) (IsSpacesText text) (λ found. same_pieces text pieces found cut) c.patterns_of.ensures

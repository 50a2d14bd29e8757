use Rattle.std.proofs.Common.{refl}
use Rattle.rme_keys.specs.Spaces.{IsSpacesText}
use Rattle.rme_keys.proofs.InTurn.{nothing_fits, this_fits}
use Rattle.rme_keys.proofs.spaces.spaces_with.Goals as goal

pub returns-in_default : goal.returns-in_default
returns-in_default c = λ said is. nothing_fits c.in_default.is (λ patterns. patterns.items) (IsSpacesText c.args.text.now) c.in_ok-found.ensures said.patterns.items is.1

pub returns : goal.returns
returns c = (refl, this_fits c.in-Some.is (λ patterns. patterns.items) (IsSpacesText c.args.text.now) c.in_ok-found.ensures)

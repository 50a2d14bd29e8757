use Rattle.std.proofs.Common.{rules, tests}
use Rattle.std.proofs.lemmas.Iterator.{cases_from_any, YieldsList-from_slice}
use Rattle.rme_keys.specs.Spaces.{Covers}
use Rattle.rme_keys.specs.declared.spaces.SpacePattern.{SpacePattern}
use Rattle.rme_keys.proofs.Searches.{any_by_cases}
use Rattle.rme_keys.proofs.spaces.cover_name.Goals as goal

pub returns : goal.returns
returns c =
    let P : SpacePattern → Type 0 = λ (pattern : SpacePattern). Covers pattern c.args.name.now in
    any_by_cases P c.args.patterns.now c.any.result
    (cases_from_any _ _ c.any.result P (λ (pattern : SpacePattern). P pattern → ⊥) c.any.ensures.ran (YieldsList-from_slice c.args.patterns.now c.iter.ensures.rest) (λ x q k. search (rules, tests)) (λ x q k. search (rules, tests)))

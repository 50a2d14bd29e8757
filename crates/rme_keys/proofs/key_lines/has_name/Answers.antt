use Rattle.std.proofs.Common.{◌≡◌, rules, tests}
use Rattle.std.proofs.lemmas.Iterator.{cases_from_any, YieldsList-from_slice}
use Rattle.rme_keys.specs.Allowing.{name_of}
use Rattle.rme_keys.specs.declared.key.Key.{Key}
use Rattle.rme_keys.proofs.Searches.{any_by_cases}
use Rattle.rme_keys.proofs.key_lines.has_name.Goals as goal

pub returns : goal.returns
returns c =
    let P : Key → Type 0 = λ (other : Key). name_of other ≡ name_of c.args.key.now in
    any_by_cases P c.args.keys.now c.any.result
    (cases_from_any _ _ c.any.result P (λ (other : Key). P other → ⊥) c.any.ensures.ran (YieldsList-from_slice c.args.keys.now c.iter.ensures.rest) (λ x q k. search (rules, tests)) (λ x q k. search (rules, tests)))

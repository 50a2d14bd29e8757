use Rattle.std.proofs.Common.{ℕ, List, Some, None, take, subst}
use Rattle.rme_keys.specs.Finding.{Finds}
use Rattle.rme_keys.specs.Workers.{AreEndTexts}
use Rattle.rme_keys.proofs.WorkerTexts.{range_by}
use Rattle.rme_keys.proofs.workers.range_of_text.Goals as goal

pub returns-in-Some : goal.returns-in-Some
returns-in-Some c =
    let text = c.args.text.now in
    let dash = c.in-Some.dash in
    let found = c.range_between.result in
    let front = subst (λ (first : List ℕ). Finds (AreEndTexts first c.bytes_after.result.now) found) c.bytes_before.ensures c.range_between.ensures in
    let both = subst (λ (last : List ℕ). Finds (AreEndTexts (take dash text) last) found) c.bytes_after.ensures front in
    range_by text (Some dash) found c.in-Some.ensures.first both

pub returns-in-None : goal.returns-in-None
returns-in-None c = range_by c.args.text.now None c.single_range.result c.in-None.ensures.first c.single_range.ensures

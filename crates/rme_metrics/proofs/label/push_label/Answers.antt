use Rattle.std.proofs.Common.{◌≡◌, ℕ, ◌++◌, List, ap, chars, flat_map, string_bytes, sym, ◌∙◌}
use Rattle.std.proofs.lemmas.Iterator.{YieldsList-from_chars}
use Rattle.std.proofs.lemmas.Iterator.Consumers.{YieldsList-end}
use Rattle.std.proofs.lemmas.List.{map-id}
use Rattle.rme_metrics.specs.Labels.{escaped_letter}
use Rattle.rme_metrics.proofs.label.push_label.Goals as goal

pub returns : goal.returns
returns c =
    let ended = YieldsList-end (YieldsList-from_chars c.args.label.now c.utf8.label cc) c.loop-letter.yielded _ c.loop-letter.yielded_by _ _ c.in-None.is c.next.ensures.steps in
    let all : c.loop-letter.yielded ≡ chars c.args.label.now = sym (map-id c.loop-letter.yielded) ∙ ended.0 in
    c.loop-letter.invariant ∙ ap (λ (letters : List ℕ). string_bytes c.args.out.now ++ flat_map escaped_letter letters) all

use Rattle.std.proofs.Common.{◌≡◌, ◌++◌, List, ℕ, ap, codes, ◌∙◌}
use Rattle.std.proofs.lemmas.List.{append_assoc}
use Rattle.hex.specs.Hex.{encode_lower}
use Rattle.rme_durable_writes.specs.Writes.{sum_digits}
use Rattle.rme_durable_writes.proofs.sum_line.push_end.Goals as goal

pub returns : goal.returns
returns c =
    let text = c.args.text.now.items in
    let digits : c.as_slice-2.result.now ≡ sum_digits c.args.sum = c.as_slice-2.ensures ∙ (c.in-Ok.ensures).written ∙ ap (λ (bytes : List ℕ). encode_lower bytes) (c.as_slice.ensures ∙ c.to_be_bytes.ensures) in
    (c.in_ok-extend_from_slice-2.ensures).items ∙ ap (λ (l : List ℕ). l ++ codes "\"}\n") ((c.in_ok-extend_from_slice.ensures).items ∙ ap (λ (l : List ℕ). text ++ l) digits)
    ∙ append_assoc text (sum_digits c.args.sum) (codes "\"}\n")

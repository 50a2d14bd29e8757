use Rattle.std.proofs.Common.{◌≡◌, ◌^◌, ◌<◌, ℕ, Some, false, sym, ap, subst, ◌∙◌}
use Rattle.std.specs.Prelude.{◌==◌, slice_index}
use Rattle.fast_float.specs.Text.{Parts, IsInteger, scan, digits_of}
use Rattle.serde_json.specs.Data.{unsigned}
use Rattle.serde_json.specs.Read.{number_of}
use Rattle.rme_line_json.proofs.NumberLemmas.{whole_is}
use Rattle.rme_line_json.proofs.number.whole_number.Goals as goal

pub returns : goal.returns
returns c =
    let bytes = c.as_bytes-bytes.result.now in
    let facts = c.in_ok-number.ensures in
    let P : Parts → Type 0 = λ p. IsInteger p × (digits_of p < 2 ^ 64) in
    let whole : P (scan bytes) = subst P c.scan.ensures.parts facts.0 in
    let plain : (slice_index bytes 0 == 45) ≡ false = sym c.has_minus.ensures ∙ c.if-has_minus.false in
    ap number_of (sym c.as_bytes-bytes.ensures.value) ∙ whole_is bytes plain whole.0 whole.1
    ∙ ap (λ (p : Parts). Some (unsigned (digits_of p))) (sym c.scan.ensures.parts) ∙ ap (λ (n : ℕ). Some (unsigned n)) (sym facts.1) ∙ ap Some (sym c.from.ensures)

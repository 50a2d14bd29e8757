use Rattle.std.proofs.Common.{◌≡◌, ℕ, List, length, sym, ap, subst, ◌∙◌, arith}
use Rattle.std.proofs.lemmas.List.{take_at}
use Rattle.std.specs.Str.{IsUtf8}
use Rattle.rme_script.proofs.Fills.{kept_front}
use Rattle.rme_session_protocol.proofs.client_label.ClientLabel.of.Goals as goal

pub invariant_of-result : goal.invariant_of-result
invariant_of-result c =
    let given = c.as_bytes-given.result.now in
    let copied = c.copy_from_slice.new.self in
    let after : copied ≡ given = c.copy_from_slice.ensures.after in
    let same : given ≡ c.args.text.now = c.as_bytes-given.ensures.value in
    let long : length copied ≡ length given = ap (λ (xs : List ℕ). length xs) after in (
      kept_front 0 64 _ _ copied (omega arith) long (omega arith),
      subst IsUtf8 (sym (take_at copied _ (length given) long ∙ after ∙ same)) c.utf8.text,
    )

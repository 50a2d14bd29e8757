use Rattle.std.proofs.Common.{◌≡◌, ◌-◌, ◌++◌, ◌∷◌, [], List, ℕ, length, take, codes, sym, ap, ap₂, ◌∙◌}
use Rattle.std.proofs.lemmas.Bool.Decides.{Decides-eqb}
use Rattle.std.proofs.lemmas.List.{append_assoc}
use Rattle.std.proofs.lemmas.Slice.Eq.{ends_is}
use Rattle.rme_durable_writes.specs.Checksums.{crc32c}
use Rattle.rme_durable_writes.specs.Writes.{sum_digits, sum_front}
use Rattle.rme_durable_writes.proofs.Options.{found_by, not_plain, plain_lines}
use Rattle.rme_durable_writes.proofs.write_sealer.make_write.Goals as goal

pub returns-clause-lines : goal.returns-clause-lines
returns-clause-lines c =
    let lines = c.args.lines.now in
    let ends = ends_is Decides-eqb lines (10 ∷ []) c.ends_with.result c.ends_with.ensures.value in
    record {
      front = take (length lines - 1) lines;
      whole = ends.0 c.if-not-ends_with.false;
      plain = plain_lines lines c.find.result (found_by lines c.args.codec.now.marks c.args.codec.now.marks_are c.find.result c.find.ensures) (sym c.is_some.ensures ∙ c.if-is_some.false);
    }

pub returns-clause-bytes : goal.returns-clause-bytes
returns-clause-bytes c =
    let lines = c.args.lines.now in
    let text = sum_front c.args.front.kept c.args.front.number in
    let copied = (c.in_ok-extend_from_slice.ensures).items ∙ ap (λ (l : List ℕ). l ++ lines) c.clear.ensures.items in
    let front : c.push_front.new.text.items ≡ lines ++ text = (c.in_ok-push_front.ensures) ∙ ap (λ (l : List ℕ). l ++ text) copied in
    let sum : c.of-sum.result ≡ crc32c (lines ++ text) = c.of-sum.ensures ∙ ap (λ (l : List ℕ). crc32c l) (c.as_slice.ensures.value ∙ front) in
    (c.in_ok-push_end.ensures) ∙ ap₂ (λ (l : List ℕ) (n : ℕ). l ++ (sum_digits n ++ codes "\"}\n")) front sum
    ∙ append_assoc lines text (sum_digits (crc32c (lines ++ text)) ++ codes "\"}\n")

pub returns-then-is_some-clause-why : goal.returns-then-is_some-clause-why
returns-then-is_some-clause-why c are = not_plain c.args.lines.now c.find.result (found_by c.args.lines.now c.args.codec.now.marks c.args.codec.now.marks_are c.find.result c.find.ensures) (sym c.is_some.ensures ∙ c.if-is_some.true) are

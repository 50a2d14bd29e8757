use Rattle.std.proofs.Common.{◌++◌, ap, subst, sym, ◌∙◌}
use Rattle.std.specs.Prelude.{ℕ, List, ◌≡◌, ◌≤◌, string_bytes, length, true}
use Rattle.std.specs.List.{list_all}
use Rattle.rme_durable_format.specs.CommandLines.{is_no_newline}
use Rattle.rme_durable_format.specs.CommandTexts.{command_text}
use Rattle.rme_durable_format.proofs.Growing.{no_line, no_request, one_piece, writes_line}
use Rattle.rme_durable_format.proofs.command_writer.CommandWriter.push.Goals as goal

-- The line is the one that was read.
pub returns-clause-written : goal.returns-clause-written
returns-clause-written c =
    let line : List ℕ = c.as_bytes-line.result.now in
    let looked : c.as_bytes.result.now ≡ line = c.as_bytes.ensures.value ∙ sym c.as_bytes-line.ensures.value in
    let whole : (list_all is_no_newline c.as_bytes.result.now ≡ true) × (length c.as_bytes.result.now ≤ 65536) = c.is_line.ensures.0 c.if-not-is_line.false in
    let P : List ℕ → Type 0 = λ (bytes : List ℕ). list_all is_no_newline bytes ≡ true in
    let Q : List ℕ → Type 0 = λ (bytes : List ℕ). length bytes ≤ 65536 in
    writes_line c.push_whole.result c.args.names.now c.args.command (string_bytes c.args.out.now) (string_bytes c.push_whole.new.out) line c.as_str.result.now record {
      asks = sym c.in-Ok.ensures ∙ (c.is_request_for.ensures.0 c.if-not-is_request_for.false).1;
      piece = one_piece line (subst P looked whole.0);
      short = subst Q looked whole.1;
    } (c.as_str.ensures.value ∙ sym c.as_bytes-line.ensures.value) c.push_whole.ensures.grown

pub returns-then-not-is_line-clause-none : goal.returns-then-not-is_line-clause-none
returns-then-not-is_line-clause-none c =
    let text : c.as_bytes.result.now ≡ command_text c.args.names.now c.args.command = c.as_bytes.ensures.value ∙ (c.in_ok-push_text.ensures ∙ ap (λ (l : List ℕ). l ++ command_text c.args.names.now c.args.command) c.clear.ensures.bytes) in
    λ _ has its. no_line c.args.names.now c.args.command c.as_bytes.result.now c.is_line.result text c.is_line.ensures.1 c.if-not-is_line.true has its

pub returns-then-not-is_request_for-clause-none : goal.returns-then-not-is_request_for-clause-none
returns-then-not-is_request_for-clause-none c =
    let line : List ℕ = c.as_bytes-line.result.now in
    let text : line ≡ command_text c.args.names.now c.args.command = c.as_bytes-line.ensures.value ∙ (c.in_ok-push_text.ensures ∙ ap (λ (l : List ℕ). l ++ command_text c.args.names.now c.args.command) c.clear.ensures.bytes) in
    λ _ has its. no_request c.args.names.now c.args.command line c.in-Ok.asked c.is_request_for.result text c.in-Ok.ensures c.is_request_for.ensures.1 c.if-not-is_request_for.true has its

use Rattle.std.proofs.Common.{◌≡◌, ℕ, zero, suc, ◌-◌, ◌^◌, ◌≤◌, ℤ, pos, unsigned_abs, List, [], ◌∷◌, ◌++◌, replicate, slice_get, string_bytes, Some, None, refl, ap, arith, ◌∙◌}
use Rattle.std.proofs.lemmas.List.{length-replicate}
use Rattle.std.proofs.lemmas.List.Elements.{All-replicate}
use Rattle.rme_words.specs.declared.shape.Shape.{Shape}
use Rattle.rme_durable_format.specs.declared.header.LastJob.{LastJob}
use Rattle.rme_durable_format.specs.declared.header.LastJob.TheVariants.{Nothing}
use Rattle.rme_durable_format.specs.Headers.{HeaderValues, IsPossibleHeader, first_header_values, header_values}
use Rattle.rme_durable_format.specs.HeaderTexts.{IsWritableHeader, IsWritableLastJob, header_line, header_text}
use Rattle.rme_test_durable.proofs.log_lines.first_line.Goals as goal

same : {X : Type 0} (count : ℕ) (x y : X) (i : ℕ) → slice_get (replicate count x) i ≡ Some y → y ≡ x
same zero x y i found = absurd (let bad : None ≡ Some y = found in cc)
same (suc count) x y zero found = let is : Some x ≡ Some y = found in cc
same (suc count) x y (suc i) found = same count x y i found

writable : (names : List (List ℕ)) (shape : Shape) → IsWritableHeader names (first_header_values shape)
writable names shape =
    record {
      epoch = omega arith;
      last = All-replicate (IsWritableLastJob names) (shape.workers - 1) Nothing tt;
      lives = All-replicate (λ (n : ℕ). n ≤ 2 ^ 53) (shape.workers - 1) 0 (omega arith);
      numbers = All-replicate (λ (n : ℕ). n ≤ 2 ^ 53) (shape.workers - 1) 0 (omega arith);
      places = All-replicate (λ (place : ℤ). unsigned_abs place ≤ 2 ^ 53) shape.locks (pos 0) (omega arith);
    }

possible : (shape : Shape) → IsPossibleHeader shape (first_header_values shape)
possible shape =
    record {
      words = length-replicate (shape.workers - 1) Nothing;
      lived = length-replicate (shape.workers - 1) 0;
      counts = length-replicate (shape.workers - 1) 0;
      locks = length-replicate shape.locks (pos 0);
      own = (λ worker n word counted told.
          let none : n ≡ 0 = same (shape.workers - 1) 0 n worker counted in
          let nothing : word ≡ Nothing = same (shape.workers - 1) Nothing word worker told in
          rw nothing none);
      beginning = (λ first. (All-replicate (λ (n : ℕ). n ≡ 0) (shape.workers - 1) 0 refl, All-replicate (λ (place : ℤ). place ≡ pos 0) shape.locks (pos 0) refl));
    }

pub returns : goal.returns
returns c are =
    let names = c.args.names.now in
    let shape = c.args.shape in
    let past = first_header_values shape in
    let text : string_bytes c.push_header.new.out ≡ header_text names past ++ 10 ∷ [] =
    c.in_ok-push_header.ensures ∙ (ap (λ (old : List ℕ). old ++ header_line names (header_values c.in_ok-first.field-0)) c.new-line.ensures.bytes ∙ ap (λ (values : HeaderValues). header_line names values) c.in_ok-first.ensures) in
    (header_text names past, text, c.headers.ensures names shape past are (writable names shape) (possible shape))

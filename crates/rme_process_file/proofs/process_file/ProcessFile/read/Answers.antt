use Rattle.std.proofs.Common.{ℕ, ◌+◌, ◌==◌, ap, subst, sym, ◌∙◌, length, List, map}
use Rattle.std.specs.List.{range_with_len}
use Rattle.std.proofs.lemmas.List.FromFn.{length-map-range_with_len}
use Rattle.rme_words.specs.Words.{Memory}
use Rattle.rme_process_file.specs.ProcessFiles.{IsFile, file_u64_at}
use Rattle.rme_process_file.proofs.Reading.{marked, one_file}
use Rattle.rme_process_file.proofs.process_file.ProcessFile.read.Goals as goal

pub of-requires : goal.of-requires
of-requires c =
    ap (λ (xs : List ℕ). length xs) c.in-Ok-words_of.ensures ∙ length-map-range_with_len (λ (i : ℕ). file_u64_at c.args.bytes.now (512 + i)) 0 c.words.result ∙ c.words.ensures

pub returns-clause-only : goal.returns-clause-only
returns-clause-only c = λ file is.
    let bytes = c.args.bytes.now in
    let P : Memory → Type 0 = λ memory. IsFile bytes record { shape = memory.shape; names = c.in-Some.names; moved = c.file_u64_at.result == 1; boot = c.boot_of.result; words = memory.words } in
    let made : P c.of.result = subst P (sym c.of.ensures) record {
      page = c.in-Ok.ensures;
      boot = c.boot_of.ensures;
      moved = sym c.file_u64_at.ensures ∙ marked c.file_u64_at.result (rw c.file_u64_at.ensures c.in-Ok.ensures.mark);
      names = sym c.in-Ok-names_of.ensures ∙ c.in-Some.is;
      words = c.in-Ok-words_of.ensures ∙ ap (λ (n : ℕ). map (λ (i : ℕ). file_u64_at bytes (512 + i)) (range_with_len 0 n)) c.words.ensures;
    } in
    (one_file bytes _ file made is, tt)

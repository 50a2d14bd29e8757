use Rattle.std.proofs.Common.{◌≡◌, ◌+◌, map}
use Rattle.std.specs.List.{range_with_len}
use Rattle.rme_process_file.specs.ProcessFiles.{file_u64_at}
use Rattle.rme_process_file.proofs.process_file.words_of.Given as goal

abbrev pub invariant-loop-at : goal.invariant-loop-at
invariant-loop-at l = l.words.items ≡ map (λ i. file_u64_at l.bytes (512 + i)) (range_with_len 0 l.at)

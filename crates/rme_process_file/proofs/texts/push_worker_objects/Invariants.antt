-- The written text, with that of the rest, is the text of all.
use Rattle.std.proofs.Common.{string_bytes, drop}
use Rattle.std.specs.List.{range_with_len}
use Rattle.rme_line_text.proofs.TextLemmas.{Separates}
use Rattle.rme_process_file.specs.FileTexts.{worker_object}
use Rattle.rme_process_file.proofs.texts.push_worker_objects.Given as goal

abbrev pub invariant-loop-worker : goal.invariant-loop-worker
invariant-loop-worker l = Separates (worker_object l.mapped l.living) (string_bytes l.fn.out) (range_with_len 0 l.mapped.shape.workers) (string_bytes l.out) l.later (drop l.worker (range_with_len 0 l.mapped.shape.workers))

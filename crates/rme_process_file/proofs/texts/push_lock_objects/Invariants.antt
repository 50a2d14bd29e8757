-- The written text, with that of the rest, is the text of all.
use Rattle.std.proofs.Common.{string_bytes, drop}
use Rattle.std.specs.List.{range_with_len}
use Rattle.rme_line_text.proofs.TextLemmas.{Separates}
use Rattle.rme_process_file.specs.FileTexts.{lock_object}
use Rattle.rme_process_file.proofs.texts.push_lock_objects.Given as goal

abbrev pub invariant-loop-lock : goal.invariant-loop-lock
invariant-loop-lock l = Separates (lock_object l.mapped) (string_bytes l.fn.out) (range_with_len 0 l.mapped.shape.locks) (string_bytes l.out) l.later (drop l.lock (range_with_len 0 l.mapped.shape.locks))

-- The letters so far are appended, escaped.
use Rattle.std.proofs.Common.{◌≡◌, ◌++◌, flat_map, string_bytes}
use Rattle.rme_metrics.specs.Labels.{escaped_letter}
use Rattle.rme_metrics.proofs.label.push_label.Given as goal

abbrev pub invariant-loop-letter : goal.invariant-loop-letter
invariant-loop-letter l = string_bytes l.out ≡ string_bytes l.fn.out ++ flat_map escaped_letter l.yielded

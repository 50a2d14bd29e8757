-- The lines so far are appended.
use Rattle.std.proofs.Common.{◌≡◌, ◌++◌, string_bytes, take}
use Rattle.rme_metrics.specs.Samples.{labelled_lines}
use Rattle.rme_metrics.proofs.samples.push_labelled_lines.Given as goal

abbrev pub invariant-loop-counted : goal.invariant-loop-counted
invariant-loop-counted l =
    string_bytes l.out ≡ string_bytes l.fn.out ++ labelled_lines l.name l.label (take l.counted-index l.counts)

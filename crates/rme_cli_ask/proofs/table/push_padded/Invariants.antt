use Rattle.std.proofs.Common.{◌≡◌, ◌++◌, replicate, string_bytes}
use Rattle.rme_cli_ask.proofs.table.push_padded.Given as goal

abbrev pub invariant-loop-spaces : goal.invariant-loop-spaces
invariant-loop-spaces l = string_bytes l.out ≡ (string_bytes l.fn.out ++ l.text) ++ replicate l.spaces 32

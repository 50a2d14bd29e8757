use Rattle.std.proofs.Common.{◌≡◌, ◌++◌, take, string_bytes}
use Rattle.std.specs.List.{flat_map}
use Rattle.rme_cli_ask.specs.StatusRows.{next_number_text}
use Rattle.rme_cli_ask.proofs.status_rows.push_others.Given as goal

abbrev pub invariant-loop-cell : goal.invariant-loop-cell
invariant-loop-cell l = string_bytes l.out ≡ string_bytes l.fn.out ++ flat_map next_number_text (take l.cell-index l.cells)

use Rattle.std.proofs.Common.{◌≡◌, ◌-◌, []}
use Rattle.rme_process_file.specs.ProcessFiles.{with_name_fields}
use Rattle.rme_process_file.proofs.page.names_of.Given as goal

abbrev pub invariant-loop-lock : goal.invariant-loop-lock
invariant-loop-lock l = with_name_fields l.bytes (l.locks - l.lock) l.lock l.names ≡ with_name_fields l.bytes l.locks 0 []

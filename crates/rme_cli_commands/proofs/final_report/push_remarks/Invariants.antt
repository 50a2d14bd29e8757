use Rattle.std.proofs.Common.{string_bytes}
use Rattle.rme_cli_commands.specs.FinalReports.{lock_remark_text}
use Rattle.rme_cli_commands.proofs.InOrder.{LocksSoFar}
use Rattle.rme_cli_commands.proofs.final_report.push_remarks.Given as goal

abbrev pub invariant-loop-number : goal.invariant-loop-number
invariant-loop-number l = LocksSoFar lock_remark_text l.locks (string_bytes l.fn.out) l.names (string_bytes l.out) l.number

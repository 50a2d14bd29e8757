-- The exit status of the program.
use Rattle.std.specs.Prelude.{ℕ, Result, Ok, Err}
use Rattle.rme_cli_messages.specs.FaultStatuses.{fault_status}
use Rattle.rme_cli_messages.specs.declared.fault.CliFault.{CliFault}

-- The exit status after a task: its own, or that of the fault that ended it early.
abbrev pub exit_code_after : Result ℕ CliFault → ℕ
exit_code_after (Ok status) = status
exit_code_after (Err fault) = fault_status fault

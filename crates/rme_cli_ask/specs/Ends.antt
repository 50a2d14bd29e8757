-- The exit status of each end.
use Rattle.std.specs.Prelude.{ℕ}
use Rattle.rme_cli_ask.specs.declared.ask_end.AskEnd.{AskEnd}
use Rattle.rme_cli_ask.specs.declared.ask_end.AskEnd.TheVariants.{Done, Refused, Failed, Waits}

abbrev pub ask_status : AskEnd → ℕ
ask_status Done = 0
ask_status Refused = 1
ask_status Failed = 1
ask_status Waits = 1

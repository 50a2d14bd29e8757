-- How long to wait for a lock, in rounds of at most five seconds.
use Rattle.std.specs.Prelude.{ℕ, ◌-◌, ◌*◌, min, Option, Some, None}
use Rattle.rme_cli_ask.specs.declared.patience.RemainingPatience.{RemainingPatience}

-- the milliseconds of a number of seconds; `None` for a wait without a limit
abbrev pub milliseconds : Option ℕ → Option ℕ
milliseconds None = None
milliseconds (Some seconds) = Some (seconds * 1000)

abbrev pub milliseconds_left : RemainingPatience → Option ℕ
milliseconds_left patience = patience.left

-- the next round, by the milliseconds that are left
abbrev pub round_of : Option ℕ → ℕ
round_of None = 5000
round_of (Some left) = min left 5000

-- the milliseconds that are left after a round
abbrev pub milliseconds_after : ℕ → Option ℕ → Option ℕ
milliseconds_after round None = None
milliseconds_after round (Some left) = Some (left - round)

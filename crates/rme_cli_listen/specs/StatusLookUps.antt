-- WHAT A LOOK-UP OF THE STATUS IS ANSWERED: what a session without a worker is answered to the order `status`.
use Rattle.std.specs.Prelude.{ℕ, List, [], Option, Some, codes}
use Rattle.rme_line_io.specs.Pieces.{InputLine}
use Rattle.rme_session_loop.specs.SessionRuns.{SessionWrites}
use Rattle.rme_session_loop.specs.declared.session_loop.SessionEnd.{SessionEnd}

-- The line of the order.
abbrev pub status_line : List ℕ
status_line = codes "{\"do\":\"status\"}\n"

-- A session of a backend that answers lines so, which begins in this state, wrote this text to that line.
abbrev pub AnswersStatus : {S : Type 0} → (S → InputLine → List ℕ → S → Type 0) → S → List ℕ → Type 0
AnswersStatus {S = S} has nobody text =
    (how : SessionEnd) × (left : Option (List ℕ)) × (last : S)
    × SessionWrites how has nobody (record { left = Some status_line; held = Some [] })
    (record { left = left; held = Some text }) last

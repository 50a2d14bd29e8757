-- The lines of commands: each asks for its command, and is read back as one line.
use Rattle.std.specs.Prelude.{◌≡◌, ◌≤◌, ℕ, ◌==◌, List, [], ◌∷◌, ◌++◌, length, Bool, not, Some}
use Rattle.rme_line_io.specs.Pieces.{IsPiece}
use Rattle.rme_wire.specs.Requests.{request_of_line}
use Rattle.rme_wire.specs.declared.command.Command.{Command}
use Rattle.rme_wire.specs.declared.request.Request.TheVariants.{World}

abbrev pub is_no_newline : ℕ → Bool
is_no_newline byte = not (byte == 10)

-- The line of a command, with these names of the locks: it asks for the command, and is one line.
pub record IsCommandLine (names : List (List ℕ)) (command : Command) (line : List ℕ) : Type 0 where
  pub asks : request_of_line names line ≡ Some (World command)
  pub piece : IsPiece line
  pub short : length line ≤ 65536

-- The line of a command and its newline are appended to a text.
abbrev pub AppendsCommand : List (List ℕ) → List ℕ → Command → List ℕ → Type 0
AppendsCommand names before command after =
    (line : List ℕ) × IsCommandLine names command line × (after ≡ before ++ (line ++ 10 ∷ []))

-- The lines of these commands are appended in order.
abbrev pub AppendsCommands : List (List ℕ) → List ℕ → List Command → List ℕ → Type 0
AppendsCommands names before [] after = after ≡ before
AppendsCommands names before (command ∷ commands) after =
    (mid : List ℕ) × AppendsCommand names before command mid × AppendsCommands names mid commands after

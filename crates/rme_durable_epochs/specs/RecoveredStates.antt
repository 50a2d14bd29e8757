-- Recovery of a state from the bytes of a file: the state that it takes, and the first bad line that it names.
use Rattle.std.specs.Prelude.{◌≡◌, ◌⊎◌, ℕ, ◌≤◌, List, [], ◌∷◌, Some}
use Rattle.rme_words.specs.declared.shape.Shape.{Shape}
use Rattle.rme_line_io.specs.Pieces.{InputLine, lines_of, text, too_long}
use Rattle.rme_world.specs.WorldViews.{WorldView}
use Rattle.rme_line_engine.specs.EngineStates.{nothing_open}
use Rattle.rme_line_engine.specs.Tallies.{tallied_opening}
use Rattle.rme_durable_format.specs.Headers.{HasLogVersion, HeaderValues, IsLogHeader, header_values}
use Rattle.rme_durable_format.specs.Lives.{RecoversLives}
use Rattle.rme_durable_format.specs.Recovery.{AcceptsLine, BeginsWithHeader, IsDamagedAfterHeader, IsDamagedLog, RecoversWorld}
use Rattle.rme_durable_format.specs.declared.fault.BadLog.{BadLog}
use Rattle.rme_durable_format.specs.declared.fault.BadLog.TheVariants as bad
use Rattle.rme_durable_epochs.specs.HeaderBases.{IsHeaderBase, LeavesRoom}
use Rattle.rme_durable_epochs.specs.declared.recovery.RecoveredState.{RecoveredState}

-- The bytes are the state's: all lines after the first lead to its world, and from the lives of the header to its lives;
-- the first is the header of that world, and leaves room for one more epoch; and the base is the header's.
pub record AreState (bytes : List ℕ) (recovered : RecoveredState) : Type 0 where
  pub world : RecoversWorld bytes recovered.log.names recovered.log.world
  pub header : BeginsWithHeader bytes recovered.log.names recovered.log.world.shape (header_values recovered.log.header)
  pub lives : RecoversLives bytes (header_values recovered.log.header).lives recovered.log.lives.items
  pub room : LeavesRoom (header_values recovered.log.header)
  pub base : IsHeaderBase (header_values recovered.log.header) recovered.base

-- ---- the first bad line

-- With no world open, a line is accepted and opens a world of this shape, whose locks have these names.
abbrev pub OpensWorld : InputLine → List (List ℕ) → Shape → Type 0
OpensWorld line names shape =
    AcceptsLine nothing_open line record { names = names; world = Some (tallied_opening shape) }

-- A line is a header of a world of this shape, whose locks have these names, and leaves room for one more epoch.
abbrev pub FitsWorld : List ℕ → List (List ℕ) → Shape → Type 0
FitsWorld line names shape = (past : HeaderValues) × IsLogHeader names shape line past × LeavesRoom past

-- A line fits the world that the next line opens, if that line opens one.
abbrev pub FitsNextLine : List ℕ → List InputLine → Type 0
FitsNextLine line [] = Unit {0}
FitsNextLine line (next ∷ lines) =
    (names : List (List ℕ)) (shape : Shape) → OpensWorld next names shape → FitsWorld line names shape

-- Line 1 is good: it has the value of a header, and fits the world that line 2 opens.
abbrev pub HasGoodHeader : List InputLine → Type 0
HasGoodHeader [] = ⊥
HasGoodHeader (too_long ∷ lines) = ⊥
HasGoodHeader (text line ∷ lines) = HasLogVersion line × FitsNextLine line lines

-- THE FIRST BAD LINE of some bytes, counted from 1: line 1 if it is not good, else the first that is not accepted.
pub record IsFirstBadLine (bytes : List ℕ) (number : ℕ) : Type 0 where
  pub some : 1 ≤ number
  pub header : number ≡ 1 → HasGoodHeader (lines_of bytes) → ⊥
  pub later : 2 ≤ number → HasGoodHeader (lines_of bytes) × IsDamagedAfterHeader bytes number

-- Why bytes are no state's: their first bad line, or refused memory.
abbrev pub IsWhyNoState : List ℕ → BadLog → Type 0
IsWhyNoState bytes bad.NoMemory = Unit {0}
IsWhyNoState bytes (bad.Line number) = IsFirstBadLine bytes number

-- ---- one reading, which judges the header together with the last line

-- The lines lead to a world, of which the first is the header, but it leaves no room for one more epoch.
pub record HasFullHeader (bytes : List ℕ) : Type 0 where
  pub names : List (List ℕ)
  pub world : WorldView
  pub past : HeaderValues
  pub recovers : RecoversWorld bytes names world
  pub begins : BeginsWithHeader bytes names world.shape past
  pub full : LeavesRoom past → ⊥

-- Why one reading finds no state: a bad line, or refused memory.
abbrev pub IsBadState : List ℕ → BadLog → Type 0
IsBadState bytes bad.NoMemory = Unit {0}
IsBadState bytes (bad.Line number) = IsDamagedLog bytes number ⊎ ((number ≡ 1) × HasFullHeader bytes)

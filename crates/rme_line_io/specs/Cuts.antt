-- The effect of cutting a line off some bytes.
use Rattle.std.specs.Prelude.{◌≡◌, ℕ, ◌==◌, List, [], ◌∷◌, nat_lt, length, Option, Some, None, if◌then◌else◌}
use Rattle.rme_line_io.specs.declared.cut.Cut.{Cut}
use Rattle.rme_line_io.specs.declared.cut.Cut.TheVariants.{Line, TooLong, End}
use Rattle.rme_line_io.specs.Pieces.{InputLine, lines_of, text, too_long}

-- the first line was cut off, and copied unless it is too long; at the end there was none
abbrev pub KnownLineCut : List ℕ → List ℕ → Cut → List ℕ → Type 0
KnownLineCut before after Line line = lines_of before ≡ text line ∷ lines_of after
KnownLineCut before after TooLong line = lines_of before ≡ too_long ∷ lines_of after
KnownLineCut before after End line = lines_of before ≡ []

-- the same for a reader whose bytes may be unknown
abbrev pub LineCut : Option (List ℕ) → Option (List ℕ) → Cut → List ℕ → Type 0
LineCut None after cut line = Unit {0}
LineCut (Some before) None cut line = ⊥
LineCut (Some before) (Some after) cut line = KnownLineCut before after cut line

-- a line that was read to its newline
abbrev pub cut_of : List ℕ → Cut
cut_of line = if nat_lt 65536 (length line) then TooLong else Line

-- a line that was read to the end of the input; an empty one is no line
abbrev pub last_cut_of : List ℕ → Cut
last_cut_of line = if length line == 0 then End else cut_of line

-- the line that was cut
abbrev pub input_line_of : Cut → List ℕ → InputLine
input_line_of Line bytes = text bytes
input_line_of TooLong bytes = too_long
input_line_of End bytes = text bytes

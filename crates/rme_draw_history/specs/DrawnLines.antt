-- The lines of a transcript that are drawn.
use Rattle.std.specs.Prelude.{ℕ, ◌-◌, ◌==◌, max, nat_lt, nat_le, Bool, true, false, ◌||◌, Option, Some, None}
use Rattle.rme_draw_history.specs.declared.drawn_lines.DrawRequest.{DrawRequest}
use Rattle.rme_draw_history.specs.declared.drawn_lines.DrawnLines.{DrawnLines}

-- the greatest number of lines that are drawn if no line is named
abbrev pub usual_lines : ℕ
usual_lines = 2000

-- the first line that is named; without one the first line, and if no line is named, that of the last usual lines
abbrev pub first_drawn : Option ℕ → Option ℕ → ℕ → ℕ
first_drawn (Some from) to lines = from
first_drawn None (Some to) lines = 1
first_drawn None None lines = max (lines - (usual_lines - 1)) 1

-- the last line that is named, or the last
abbrev pub last_drawn : Option ℕ → ℕ → ℕ
last_drawn None lines = lines
last_drawn (Some to) lines = to

abbrev pub lines_unless : Bool → ℕ → ℕ → ℕ → Option DrawnLines
lines_unless true first last lines = None
lines_unless false first last lines = Some record { first = first; last = last; lines = lines }

-- these lines, if they are lines of a transcript with this number of lines
abbrev pub lines_between : ℕ → ℕ → ℕ → Option DrawnLines
lines_between first last lines =
    lines_unless ((first == 0) || nat_lt last first || nat_lt lines last) first last lines

-- THE LINES THAT ARE DRAWN of a transcript with this number of lines
abbrev pub drawn_lines : DrawRequest → ℕ → Option DrawnLines
drawn_lines request lines =
    lines_between (first_drawn request.from request.to lines) (last_drawn request.to lines) lines

-- whether a line is none of those after the last line to draw
abbrev pub is_up_to : Option ℕ → ℕ → Bool
is_up_to None line = true
is_up_to (Some to) line = nat_le line to

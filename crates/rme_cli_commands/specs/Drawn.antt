-- The output of `rme draw`, and its exit status.
use Rattle.std.specs.Prelude.{◌≡◌, ℕ, List, [], ◌++◌, Bool, true, false, nat_lt, Option, Some, None, codes, decimal}
use Rattle.rme_line_io.specs.BufferedWrites.{WritesPrefix}
use Rattle.rme_draw_picture.specs.Pictures.{IsSvg}
use Rattle.rme_draw_history.specs.declared.drawn_lines.DrawAnswer.{DrawAnswer}
use Rattle.rme_draw_history.specs.declared.drawn_lines.DrawAnswer.TheVariants.{Drawn, NoSuchLines, Refused}
use Rattle.rme_draw_history.specs.declared.drawn_lines.DrawRequest.{DrawRequest}
use Rattle.rme_draw_history.specs.declared.drawn_lines.DrawnLines.{DrawnLines}
use Rattle.rme_draw_history.specs.PictureBuilding.{DrawAnswered}
use Rattle.rme_cli_lines.specs.VerdictStatuses.{verdict_status, verdict_line_text}

-- which lines were drawn
abbrev pub last_lines_text : DrawnLines → List ℕ
last_lines_text drawn =
    codes "rme: lines " ++ (decimal drawn.first ++ (codes " to " ++ (decimal drawn.last ++ (codes " of "
    ++ (decimal drawn.lines ++ codes " are drawn: --from LINE and --to LINE draw others\n")))))

abbrev pub last_lines_text_if : Bool → DrawnLines → List ℕ
last_lines_text_if true drawn = last_lines_text drawn
last_lines_text_if false drawn = []

-- no line was named, and not all lines were drawn
abbrev pub is_cut_by : Option ℕ → Option ℕ → ℕ → Bool
is_cut_by None None first = nat_lt 1 first
is_cut_by None (Some to) first = false
is_cut_by (Some from) to first = false

abbrev pub is_cut : DrawRequest → DrawnLines → Bool
is_cut request drawn = is_cut_by request.from request.to drawn.first

-- nothing is said if a line was named, or all lines were drawn
abbrev pub cut_text : DrawRequest → DrawnLines → List ℕ
cut_text request drawn = last_lines_text_if (is_cut request drawn) drawn

abbrev pub no_such_lines_text : ℕ → List ℕ
no_such_lines_text lines =
    codes "fault: bad arguments\n  the transcript ends at line "
    ++ (decimal lines ++ codes ", before the LINE of --from or --to\n")

-- the standard error after an answer
abbrev pub told_text : DrawRequest → DrawAnswer → List ℕ
told_text request (Drawn drawn) = cut_text request drawn
told_text request (NoSuchLines lines) = no_such_lines_text lines
told_text request (Refused verdict) = verdict_line_text verdict

-- the exit status after an answer
abbrev pub draw_status : DrawAnswer → ℕ
draw_status (Drawn drawn) = 0
draw_status (NoSuchLines lines) = 2
draw_status (Refused verdict) = verdict_status verdict

-- The input was drawn, or not, with this answer, whose status is the exit status. What is told of the answer, or a
-- prefix of it, was written to the standard error.
pub record DrawCommandOutput (request : DrawRequest)
    (input written_before written_after told_before told_after : Option (List ℕ)) (status : ℕ) : Type 0 where
  pub answer : DrawAnswer
  pub answered : DrawAnswered IsSvg request input written_before written_after answer
  pub told : WritesPrefix told_before told_after (told_text request answer)
  pub ends : status ≡ draw_status answer

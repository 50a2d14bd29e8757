-- THE PICTURE OF A RUN: what each observation of the machine adds to it, in turn; and what is drawn of it.
use Rattle.std.specs.Prelude.{◌≡◌, ℕ, ◌+◌, ◌-◌, ◌^◌, min, max, nat_lt, Bool, true, false, Option, Some, None, List, [], ◌∷◌, ◌++◌, length, map, replicate}
use Rattle.std.specs.List.{range_with_len}
use Rattle.std.specs.Io.KnownBytes.{Appends}
use Rattle.rme_program.specs.declared.note.Note.{Note}
use Rattle.rme_program.specs.declared.note.Note.TheVariants as note
use Rattle.rme_program.specs.declared.note.Receipt.{Receipt}
use Rattle.rme_machine.specs.Histories.{lock_row}
use Rattle.rme_line_text.specs.declared.event.EventLine.{EventLine}
use Rattle.rme_line_text.specs.declared.event.EventLine.TheVariants as line
use Rattle.rme_line_io.specs.Pieces.{InputLine}
use Rattle.rme_line_io.specs.LineRuns.{AreInputLines}
use Rattle.rme_core_checker.specs.Views.{MachineView}
use Rattle.rme_line_check.specs.Observations.{CheckObservation, begins, takes}
use Rattle.rme_line_check.specs.Observing.{TranscriptObservations}
use Rattle.rme_line_check.specs.Verdicts.{InputVerdict}
use Rattle.rme_line_check.specs.declared.check.Verdict.{Verdict}
use Rattle.rme_line_check.specs.declared.check.Verdict.TheVariants.{Yes, No, Bad}
use Rattle.rme_draw_picture.specs.declared.drawing.Finish.{Finish}
use Rattle.rme_draw_picture.specs.declared.drawing.Hold.{Hold}
use Rattle.rme_draw_picture.specs.Pictures.{Picture, empty_picture, picture_of_drawing}
use Rattle.rme_draw_history.specs.declared.drawn_lines.DrawAnswer.{DrawAnswer}
use Rattle.rme_draw_history.specs.declared.drawn_lines.DrawAnswer.TheVariants.{Drawn, NoSuchLines, Refused}
use Rattle.rme_draw_history.specs.declared.drawn_lines.DrawRequest.{DrawRequest}
use Rattle.rme_draw_history.specs.declared.drawn_lines.DrawnLines.{DrawnLines}
use Rattle.rme_draw_history.specs.declared.picture_builder.PictureBuilder.{PictureBuilder}
use Rattle.rme_draw_history.specs.declared.stays.OngoingStay.{OngoingStay}
use Rattle.rme_draw_history.specs.Blockers.{climbing_after, line_blocker}
use Rattle.rme_draw_history.specs.DrawnLines.{drawn_lines, is_up_to}
use Rattle.rme_draw_history.specs.DrawnParts.{picture_from}
use Rattle.rme_draw_history.specs.Holds.{holding_after, holds_after, holds_at_end}
use Rattle.rme_draw_history.specs.Stays.{first_stay, ongoing_stays_after, ended_stays_after, stays_at_end}
use Rattle.rme_draw_history.specs.LineMarks.{marks_at, line_job_number}

-- What is to be drawn, and the observations so far: the number of lines, a picture of what has ended, the present stay
-- of each worker, the present hold of each lock, and the lock in whose tree each worker may hold nodes.
pub record PictureState : Type 0 where
  pub request : DrawRequest
  pub lines : ℕ
  pub picture : Picture
  pub staying : List OngoingStay
  pub holding : List (Option Hold)
  pub climbing : List (Option ℕ)

abbrev pub picture_state_of : PictureBuilder → PictureState
picture_state_of follower =
    record {
      request = follower.request;
      lines = follower.lines;
      picture = picture_of_drawing follower.drawing;
      staying = follower.staying.items;
      holding = follower.holding.items;
      climbing = follower.climbing.items;
    }

abbrev pub empty_picture_state : DrawRequest → PictureState
empty_picture_state request =
    record { request = request; lines = 0; picture = empty_picture; staying = []; holding = []; climbing = [] }

-- lines are counted by numbers of 64 bits
abbrev pub next_line_number : ℕ → ℕ
next_line_number line = min (line + 1) (2 ^ 64 - 1)

-- a section that a line finished, and the cells of its lock after it
abbrev pub finish_if_lock : Bool → Receipt → MachineView → ℕ → List Finish
finish_if_lock true receipt machine at =
    record { line = at; receipt = receipt; cells = lock_row machine.shape machine.state.history receipt.lock } ∷ []
finish_if_lock false receipt machine at = []

abbrev pub finishes_of_note : Note → MachineView → ℕ → List Finish
finishes_of_note note.Quiet machine at = []
finishes_of_note (note.Asked number) machine at = []
finishes_of_note note.Blocked machine at = []
finishes_of_note (note.Entered lock) machine at = []
finishes_of_note (note.Reentered lock) machine at = []
finishes_of_note (note.Finished receipt) machine at =
    finish_if_lock (nat_lt receipt.lock machine.shape.locks) receipt machine at
finishes_of_note (note.Left lock) machine at = []
finishes_of_note note.Ready machine at = []
finishes_of_note (note.Withdrew number) machine at = []

abbrev pub finishes_of_line : EventLine → MachineView → ℕ → List Finish
finishes_of_line (line.Submit handed) machine at = []
finishes_of_line (line.Crash worker) machine at = []
finishes_of_line (line.Restart worker) machine at = []
finishes_of_line (line.Withdraw worker) machine at = []
finishes_of_line (line.Note worker noted) machine at = finishes_of_note noted machine at

-- at line 1 all workers are ready and all locks free
abbrev pub first_picture_state : DrawRequest → List (List ℕ) → MachineView → PictureState
first_picture_state request names machine = record {
  request = request;
  lines = 1;
  picture =
      record {
        workers = machine.shape.workers;
        has_checkpoint_worker = false;
        names = names;
        first = 1;
        last = 1;
        lines = 0;
        number = 0;
        stays = [];
        holds = [];
        marks = [];
        finishes = [];
      };
  staying = map first_stay (range_with_len 0 machine.shape.workers);
  holding = replicate (length names) None;
  climbing = replicate machine.shape.workers None;
}

-- what a line adds, given the machine after it
abbrev pub picture_state_after_line : ℕ → EventLine → MachineView → PictureState → PictureState
picture_state_after_line at event_line machine old = record {
  request = old.request;
  lines = at;
  picture = record {
    workers = old.picture.workers;
    has_checkpoint_worker = old.picture.has_checkpoint_worker;
    names = old.picture.names;
    first = old.picture.first;
    last = at;
    lines = old.picture.lines;
    number = max old.picture.number (line_job_number event_line);
    stays = old.picture.stays ++ ended_stays_after event_line at machine old.staying;
    holds = old.picture.holds ++ holds_after machine at old.holding;
    marks = old.picture.marks ++ marks_at event_line (line_blocker old.climbing event_line machine) at;
    finishes = old.picture.finishes ++ finishes_of_line event_line machine at;
  };
  staying = ongoing_stays_after event_line at machine old.staying;
  holding = holding_after machine at old.holding;
  climbing = climbing_after event_line machine old.climbing;
}

-- a line after the last line to draw is only counted
abbrev pub picture_state_if : Bool → ℕ → EventLine → MachineView → PictureState → PictureState
picture_state_if true at event_line machine old = picture_state_after_line at event_line machine old
picture_state_if false at event_line machine old = record {
  request = old.request;
  lines = at;
  picture = old.picture;
  staying = old.staying;
  holding = old.holding;
  climbing = old.climbing;
}

abbrev pub picture_state_after_step : ℕ → EventLine → MachineView → PictureState → PictureState
picture_state_after_step at event_line machine old =
    picture_state_if (is_up_to old.request.to at) at event_line machine old

abbrev pub picture_state_after : CheckObservation → PictureState → PictureState
picture_state_after (begins names machine) old = first_picture_state old.request names machine
picture_state_after (takes event_line machine) old =
    picture_state_after_step (next_line_number old.lines) event_line machine old

-- all observations in turn
abbrev pub picture_state_after_all : PictureState → List CheckObservation → PictureState
picture_state_after_all old [] = old
picture_state_after_all old (observation ∷ observations) =
    picture_state_after_all (picture_state_after observation old) observations

-- all stays and holds end one line after the last
abbrev pub picture_ended_at : ℕ → PictureState → Picture
picture_ended_at to old = record {
  workers = old.picture.workers;
  has_checkpoint_worker = old.request.has_checkpoint_worker;
  names = old.picture.names;
  first = old.picture.first;
  last = old.picture.last;
  lines = old.lines;
  number = old.picture.number;
  stays = old.picture.stays ++ stays_at_end old.staying to;
  holds = old.picture.holds ++ holds_at_end old.holding to;
  marks = old.picture.marks;
  finishes = old.picture.finishes;
}

abbrev pub ended_picture : PictureState → Picture
ended_picture old = picture_ended_at (next_line_number old.picture.last) old

-- THE PICTURE of these lines: what the lines up to the last one made, from the first one on
abbrev pub picture_of_lines : DrawnLines → PictureState → Picture
picture_of_lines drawn old = picture_from drawn.first (ended_picture old)

-- the observations of a run in turn, up to the last line to draw
abbrev pub picture_state_of_run : DrawRequest → List CheckObservation → PictureState
picture_state_of_run request observations = picture_state_after_all (empty_picture_state request) observations

-- nothing was written after a verdict, which is not yes
abbrev pub RefusedAfter : Verdict → Verdict → Option (List ℕ) → Option (List ℕ) → Type 0
RefusedAfter Yes verdict before after = ⊥
RefusedAfter (No line) verdict before after = (verdict ≡ No line) × (after ≡ before)
RefusedAfter (Bad line) verdict before after = (verdict ≡ Bad line) × (after ≡ before)

-- The answer after a verdict: the written text is a painter's text of the picture of the lines that are drawn; or
-- nothing was written, since there are no such lines, or the verdict is not yes.
abbrev pub AnswerGiven : (Picture → List ℕ → Type 0) → Verdict → PictureState → Option (List ℕ) → Option (List ℕ)
    → DrawAnswer → Type 0
AnswerGiven paints verdict old before after (Drawn drawn) =
    (verdict ≡ Yes) × (drawn_lines old.request old.lines ≡ Some drawn)
    × ((text : List ℕ) × paints (picture_of_lines drawn old) text × Appends before after text)
AnswerGiven paints verdict old before after (NoSuchLines lines) =
    (verdict ≡ Yes) × (drawn_lines old.request old.lines ≡ None) × (lines ≡ old.lines) × (after ≡ before)
AnswerGiven paints verdict old before after (Refused refused) = RefusedAfter refused verdict before after

-- THE ANSWER to a request: the input has a verdict, and the answer is that of the observations of its lines.
pub record DrawAnswered (paints : Picture → List ℕ → Type 0) (request : DrawRequest)
    (input before after : Option (List ℕ)) (answer : DrawAnswer) : Type 0 where
  pub verdict : Verdict
  pub found : InputVerdict input verdict
  pub lines : List InputLine
  pub observations : List CheckObservation
  pub are_lines : AreInputLines input lines
  pub are_observations : TranscriptObservations lines observations
  pub given : AnswerGiven paints verdict (picture_state_of_run request observations) before after answer

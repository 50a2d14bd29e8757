-- The stays of a picture: a stay of a worker ends at the line after which the worker is in another phase.
use Rattle.std.specs.Prelude.{ℕ, ◌==◌, nat_lt, nat_le, Bool, true, false, not, ◌&&◌, Option, Some, None, List, [], ◌∷◌, ◌++◌, length, slice_get, slice_set}
use Rattle.rme_machine.specs.declared.stance.JobStance.{JobStance}
use Rattle.rme_machine.specs.declared.stance.JobStance.TheVariants.{Idle, Handed, Waiting, Inside, Finished}
use Rattle.rme_machine.specs.Machine.{WorkerState}
use Rattle.rme_line_text.specs.declared.event.EventLine.{EventLine}
use Rattle.rme_core_checker.specs.Views.{MachineView}
use Rattle.rme_draw_picture.specs.declared.drawing.DrawnStay.{DrawnStay}
use Rattle.rme_draw_picture.specs.declared.drawn_phase.DrawnPhase.{DrawnPhase}
use Rattle.rme_draw_picture.specs.declared.drawn_phase.DrawnPhase.TheVariants.{Ready, Exit}
use Rattle.rme_draw_history.specs.declared.stays.OngoingStay.{OngoingStay}
use Rattle.rme_draw_history.specs.Phases.{drawn_phase_rank, phase_after}
use Rattle.rme_draw_history.specs.LineMarks.{withdrawal_line, is_ready_line, line_worker}

-- a worker that is ready from a line on
abbrev pub ready_stay_from : ℕ → ℕ → DrawnStay
ready_stay_from worker line = record { worker = worker; phase = Ready; lock = None; from = line; to = line }

-- each worker is ready at line 1
abbrev pub first_stay : ℕ → OngoingStay
first_stay worker = record { stay = ready_stay_from worker 1; gave_up = None }

-- a stay, unless it has no line
abbrev pub stay_unless_empty : Bool → DrawnStay → List DrawnStay
stay_unless_empty true stay = stay ∷ []
stay_unless_empty false stay = []

abbrev pub stay_ending_at : DrawnStay → ℕ → DrawnStay
stay_ending_at stay to =
    record { worker = stay.worker; phase = stay.phase; lock = stay.lock; from = stay.from; to = to }

abbrev pub stay_up_to : DrawnStay → ℕ → List DrawnStay
stay_up_to stay to = stay_unless_empty (nat_lt stay.from to) (stay_ending_at stay to)

-- a worker that withdrew its job was ready at once, unless it became ready by a later note
abbrev pub stays_split_if : Bool → DrawnStay → ℕ → ℕ → List DrawnStay
stays_split_if true stay line to = stay_up_to stay line ++ stay_up_to (ready_stay_from stay.worker line) to
stays_split_if false stay line to = stay_up_to stay to

abbrev pub stays_over_by : Option ℕ → DrawnStay → ℕ → Bool → List DrawnStay
stays_over_by None stay to is_ready_line = stay_up_to stay to
stays_over_by (Some line) stay to is_ready_line =
    stays_split_if ((drawn_phase_rank stay.phase == drawn_phase_rank Exit) && not is_ready_line) stay line to

-- a stay that has ended
abbrev pub stays_over : OngoingStay → ℕ → Bool → List DrawnStay
stays_over staying to is_ready_line = stays_over_by staying.gave_up staying.stay to is_ready_line

-- the lock of a worker's job
abbrev pub stance_lock : JobStance → Option ℕ
stance_lock Idle = None
stance_lock (Handed job) = Some job.lock
stance_lock (Waiting k job) = Some job.lock
stance_lock (Inside k job) = Some job.lock
stance_lock (Finished k job) = Some job.lock

abbrev pub first_if_some : Option ℕ → Option ℕ → Option ℕ
first_if_some None later = later
first_if_some (Some line) later = Some line

-- the phase after the line is the one before it
abbrev pub stay_goes_on : EventLine → Bool → WorkerState → OngoingStay → Bool
stay_goes_on event_line are_few_workers me before =
    drawn_phase_rank (phase_after event_line are_few_workers before.stay.phase me) == drawn_phase_rank before.stay.phase

-- the stay continues, or another begins
abbrev pub next_stay_by : Bool → EventLine → ℕ → DrawnPhase → WorkerState → OngoingStay → OngoingStay
next_stay_by true event_line line phase me before =
    record { stay = before.stay; gave_up = first_if_some before.gave_up (withdrawal_line event_line line) }
next_stay_by false event_line line phase me before = record {
  stay = record {
    worker = line_worker event_line;
    phase = phase;
    lock = stance_lock me.stance;
    from = line;
    to = line;
  };
  gave_up = withdrawal_line event_line line;
}

abbrev pub next_stay : EventLine → ℕ → Bool → WorkerState → OngoingStay → OngoingStay
next_stay event_line line are_few_workers me before =
    next_stay_by (stay_goes_on event_line are_few_workers me before) event_line line
    (phase_after event_line are_few_workers before.stay.phase me) me before

abbrev pub stays_ended_by : Bool → EventLine → ℕ → OngoingStay → List DrawnStay
stays_ended_by true event_line line before = []
stays_ended_by false event_line line before = stays_over before line (is_ready_line event_line)

abbrev pub stays_ended : EventLine → ℕ → Bool → WorkerState → OngoingStay → List DrawnStay
stays_ended event_line line are_few_workers me before =
    stays_ended_by (stay_goes_on event_line are_few_workers me before) event_line line before

abbrev pub are_few_workers : List OngoingStay → Bool
are_few_workers all = nat_le (length all) 2

-- the present stays of the workers after a line, and the stay that the line ended, which can only be its own worker's
abbrev pub ongoing_stays_by : Option WorkerState → Option OngoingStay → EventLine → ℕ → List OngoingStay
    → List OngoingStay
ongoing_stays_by None found event_line line all = all
ongoing_stays_by (Some me) None event_line line all = all
ongoing_stays_by (Some me) (Some before) event_line line all =
    slice_set all (line_worker event_line) (next_stay event_line line (are_few_workers all) me before)

abbrev pub ongoing_stays_after : EventLine → ℕ → MachineView → List OngoingStay → List OngoingStay
ongoing_stays_after event_line line machine all =
    ongoing_stays_by (slice_get machine.state.workers (line_worker event_line)) (slice_get all (line_worker event_line))
    event_line line all

abbrev pub ended_stays_by : Option WorkerState → Option OngoingStay → EventLine → ℕ → List OngoingStay → List DrawnStay
ended_stays_by None found event_line line all = []
ended_stays_by (Some me) None event_line line all = []
ended_stays_by (Some me) (Some before) event_line line all = stays_ended event_line line (are_few_workers all) me before

abbrev pub ended_stays_after : EventLine → ℕ → MachineView → List OngoingStay → List DrawnStay
ended_stays_after event_line line machine all =
    ended_stays_by (slice_get machine.state.workers (line_worker event_line)) (slice_get all (line_worker event_line))
    event_line line all

-- all stays that end with the run
abbrev pub stays_at_end : List OngoingStay → ℕ → List DrawnStay
stays_at_end [] to = []
stays_at_end (staying ∷ all) to = stays_over staying to false ++ stays_at_end all to

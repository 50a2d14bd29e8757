-- The invariant of a checker state: it has the fold of its entries, so that a finish need not replay them, and the job
-- of each worker is of the shape, so that its script may be run.
use Rattle.std.specs.Prelude.{ℕ, Bool, true, false, List}
use Rattle.std.specs.List.{All}
use Rattle.rme_words.specs.declared.shape.Shape.{Shape}
use Rattle.rme_program.specs.declared.note.Entry.{Entry}
use Rattle.rme_script.specs.Jobs.{IsJob}
use Rattle.rme_machine.specs.declared.stance.JobStance.{JobStance}
use Rattle.rme_machine.specs.declared.stance.JobStance.TheVariants as stance
use Rattle.rme_machine.specs.declared.label.Act.{Act}
use Rattle.rme_machine.specs.declared.label.Act.TheVariants.{Hand, Ask, Take, Finish, Leave, Withdraw, Crash, Restart, Reenter, Still, Wait}
use Rattle.rme_machine.specs.Machine.{WorkerState}
use Rattle.rme_history.specs.Folds.{IsReplayFold}

-- The job of a stance, if it has one, is of the shape.
abbrev pub StanceJobIsOfShape : Shape → JobStance → Type 0
StanceJobIsOfShape shape stance.Idle = Unit {0}
StanceJobIsOfShape shape (stance.Handed job) = IsJob shape job
StanceJobIsOfShape shape (stance.Waiting k job) = IsJob shape job
StanceJobIsOfShape shape (stance.Inside k job) = IsJob shape job
StanceJobIsOfShape shape (stance.Finished k job) = IsJob shape job

-- The job that a step brings, if it brings one, is of the shape.
abbrev pub ActJobIsOfShape : Shape → Act → Type 0
ActJobIsOfShape shape (Hand k job) = IsJob shape job
ActJobIsOfShape shape (Ask k) = Unit {0}
ActJobIsOfShape shape (Take lock) = Unit {0}
ActJobIsOfShape shape (Finish receipt) = Unit {0}
ActJobIsOfShape shape (Leave lock) = Unit {0}
ActJobIsOfShape shape (Withdraw k) = Unit {0}
ActJobIsOfShape shape Crash = Unit {0}
ActJobIsOfShape shape Restart = Unit {0}
ActJobIsOfShape shape (Reenter lock) = Unit {0}
ActJobIsOfShape shape Still = Unit {0}
ActJobIsOfShape shape Wait = Unit {0}

-- The step withdraws a number, so that the list of withdrawn numbers grows.
abbrev pub is_withdrawal : Act → Bool
is_withdrawal (Hand k job) = false
is_withdrawal (Ask k) = false
is_withdrawal (Take lock) = false
is_withdrawal (Finish receipt) = false
is_withdrawal (Leave lock) = false
is_withdrawal (Withdraw k) = true
is_withdrawal Crash = false
is_withdrawal Restart = false
is_withdrawal (Reenter lock) = false
is_withdrawal Still = false
is_withdrawal Wait = false

pub record CheckerStateInvariant (shape : Shape) (workers : List WorkerState) (history : List Entry)
    (cells : List (List ℕ)) (counts : List ℕ) : Type 0 where
  pub jobs : All (λ (me : WorkerState). StanceJobIsOfShape shape me.stance) workers
  pub fold : IsReplayFold shape history cells counts

-- The entries that are due, and how a step of the abstract machine changes their number.
use Rattle.std.proofs.Common.{◌≡◌, ℕ, zero, suc, ◌+◌, ◌≤◌, List, [], ◌∷◌, length, refl, ◌∙◌, ap, arith, length-append}
use Rattle.std.specs.Prelude.{Some, slice_get, slice_set}
use Rattle.std.proofs.lemmas.Option.{none-some, same_Some}
use Rattle.rme_words.specs.declared.shape.Shape.{Shape}
use Rattle.rme_words.specs.declared.address.Address.{Address}
use Rattle.rme_program.specs.declared.note.Entry.{Entry}
use Rattle.rme_program.specs.declared.note.Note.{Note}
use Rattle.rme_program.specs.declared.note.Note.TheVariants.{Quiet, Asked, Blocked, Entered, Reentered, Finished, Left, Ready, Withdrew}
use Rattle.rme_machine.specs.declared.stance.JobStance.{JobStance}
use Rattle.rme_machine.specs.declared.stance.JobStance.TheVariants as stance
use Rattle.rme_machine.specs.declared.label.Act.{Act}
use Rattle.rme_machine.specs.declared.label.Act.TheVariants.{Hand, Ask, Take, Finish, Leave, Withdraw, Crash, Restart, Reenter, Still, Wait}
use Rattle.rme_machine.specs.Machine.{MachineState, WorkerState, ActEffect, MachineStep, stance_after_crash}
use Rattle.rme_machine.specs.AbstractState.{act_of_note}
use Rattle.rme_machine.specs.Changes.{history_after}
use Rattle.rme_world.specs.WorldInvariants.{entries_due, total_entries_due}

due_small : (s : JobStance) → entries_due s ≤ 1
due_small stance.Idle = omega arith
due_small (stance.Handed job) = omega arith
due_small (stance.Waiting k job) = omega arith
due_small (stance.Inside k job) = omega arith
due_small (stance.Finished k job) = omega arith

pub owed_few : (workers : List WorkerState) → total_entries_due workers ≤ length workers
owed_few [] = omega arith
owed_few (w ∷ ws) = omega (arith, due_small w.stance, owed_few ws)

owed_set : (workers : List WorkerState) (i : ℕ) (old new : WorkerState) → slice_get workers i ≡ Some old
    → total_entries_due (slice_set workers i new) + entries_due old.stance ≡ total_entries_due workers + entries_due new.stance
owed_set [] i old new at = absurd (none-some old at)
owed_set (w ∷ ws) zero old new at =
    let same : entries_due w.stance ≡ entries_due old.stance = ap (λ (x : WorkerState). entries_due x.stance) (same_Some w old at) in
    omega (arith, same)
owed_set (w ∷ ws) (suc i) old new at = omega (arith, owed_set ws i old new at)

-- The number of entries that a machine step appends, and the number that become due by it.
abbrev pub finished_by : Act → ℕ
finished_by (Hand k job) = 0
finished_by (Ask k) = 0
finished_by (Take lock) = 0
finished_by (Finish receipt) = 1
finished_by (Leave lock) = 0
finished_by (Withdraw k) = 0
finished_by Crash = 0
finished_by Restart = 0
finished_by (Reenter lock) = 0
finished_by Still = 0
finished_by Wait = 0

abbrev pub handed_by : Act → ℕ
handed_by (Hand k job) = 1
handed_by (Ask k) = 0
handed_by (Take lock) = 0
handed_by (Finish receipt) = 0
handed_by (Leave lock) = 0
handed_by (Withdraw k) = 0
handed_by Crash = 0
handed_by Restart = 0
handed_by (Reenter lock) = 0
handed_by Still = 0
handed_by Wait = 0

due_fallen : (s : JobStance) → entries_due (stance_after_crash s) ≤ entries_due s
due_fallen stance.Idle = omega arith
due_fallen (stance.Handed job) = omega arith
due_fallen (stance.Waiting k job) = omega arith
due_fallen (stance.Inside k job) = omega arith
due_fallen (stance.Finished k job) = omega arith

-- One worker's state is replaced.
owed_with : (old new : MachineState) (w : ℕ) (me next : WorkerState) → slice_get old.workers w ≡ Some me → new.workers ≡ slice_set old.workers w next
    → total_entries_due new.workers + entries_due me.stance ≡ total_entries_due old.workers + entries_due next.stance
owed_with old new w me next at e = ap (λ (ws : List WorkerState). total_entries_due ws + entries_due me.stance) e ∙ owed_set old.workers w me next at

is_due : (me : WorkerState) (s : JobStance) → me.stance ≡ s → entries_due me.stance ≡ entries_due s
is_due me s e = ap entries_due e

step_owed : (shape : Shape) (act : Act) (old : MachineState) (w : ℕ) (me : WorkerState) (new : MachineState) → slice_get old.workers w ≡ Some me → ActEffect shape act old w me new
    → total_entries_due new.workers + finished_by act ≤ total_entries_due old.workers + handed_by act
step_owed shape (Hand k job) old w me new at (up, idle, is, e, few, then_) =
    omega (arith, owed_with old new w me _ at (ap (λ (s : MachineState). s.workers) then_), is_due me _ idle)
step_owed shape (Ask k) old w me new at (job, up, handed, e, then_) =
    omega (arith, owed_with old new w me _ at (ap (λ (s : MachineState). s.workers) then_), is_due me _ handed)
step_owed shape (Take lock) old w me new at (k, job, up, waits, there, free, then_) =
    omega (arith, owed_with old new w me _ at (ap (λ (s : MachineState). s.workers) then_), is_due me _ waits)
step_owed shape (Finish receipt) old w me new at (k, job, up, entered, inside, is, then_) =
    omega (arith, owed_with old new w me _ at (ap (λ (s : MachineState). s.workers) then_), is_due me _ inside)
step_owed shape (Leave lock) old w me new at (k, job, up, entered, done, there, then_) =
    omega (arith, owed_with old new w me _ at (ap (λ (s : MachineState). s.workers) then_), is_due me _ done)
step_owed shape (Withdraw k) old w me new at (job, up, waits, then_) =
    omega (arith, owed_with old new w me _ at (ap (λ (s : MachineState). s.workers) then_), is_due me _ waits)
step_owed shape Crash old w me new at (up, then_) =
    omega (arith, owed_with old new w me _ at (ap (λ (s : MachineState). s.workers) then_), due_fallen me.stance)
step_owed shape Restart old w me new at (down, then_) =
    omega (arith, owed_with old new w me _ at (ap (λ (s : MachineState). s.workers) then_))
step_owed shape (Reenter lock) old w me new at (up, out, stays, then_) =
    omega (arith, owed_with old new w me _ at (ap (λ (s : MachineState). s.workers) then_))
step_owed shape Still old w me new at (up, then_) = omega (arith, ap (λ (s : MachineState). total_entries_due s.workers) then_)
step_owed shape Wait old w me new at (k, job, up, waits, then_) = omega (arith, ap (λ (s : MachineState). total_entries_due s.workers) then_)

-- A finish appends an entry that was due; a submitted job makes one entry due.
pub owed_step : (shape : Shape) (act : Act) (old : MachineState) (w : ℕ) (new : MachineState) → MachineStep shape act old w new
    → total_entries_due new.workers + finished_by act ≤ total_entries_due old.workers + handed_by act
owed_step shape act old w new does = step_owed shape act old w does.me new does.is_me does.goes

-- No note stands for a submission, and the history grows by the entries that the step finishes.
pub none_handed : (note : Note) → handed_by (act_of_note note) ≡ 0
none_handed Quiet = refl
none_handed (Asked k) = refl
none_handed Blocked = refl
none_handed (Entered lock) = refl
none_handed (Reentered lock) = refl
none_handed (Finished receipt) = refl
none_handed (Left lock) = refl
none_handed Ready = refl
none_handed (Withdrew k) = refl

pub history_longer : (history : List Entry) (memory : Address → ℕ) (w : ℕ) (note : Note) → length (history_after history memory w note) ≡ length history + finished_by (act_of_note note)
history_longer history memory w Quiet = omega arith
history_longer history memory w (Asked k) = omega arith
history_longer history memory w Blocked = omega arith
history_longer history memory w (Entered lock) = omega arith
history_longer history memory w (Reentered lock) = omega arith
history_longer history memory w (Finished receipt) = length-append history _
history_longer history memory w (Left lock) = omega arith
history_longer history memory w Ready = omega arith
history_longer history memory w (Withdrew k) = omega arith

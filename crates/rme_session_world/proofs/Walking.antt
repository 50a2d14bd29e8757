-- Consecutive own steps of one worker: their sum, and that they end.
use Rattle.std.proofs.Common.{◌≡◌, ◌≢◌, ℕ, zero, suc, ◌+◌, ◌-◌, ◌*◌, ◌<◌, ◌≤◌, refl, sym, ◌∙◌, ap, subst, arith, inl, inr}
use Rattle.std.specs.Prelude.{Option, Some, None, slice_get, false}
use Rattle.std.proofs.lemmas.Option.{none-some}
use Rattle.rme_words.specs.declared.shape.Shape.{Shape}
use Rattle.rme_program.specs.declared.kinds.Phase.{Phase}
use Rattle.rme_program.specs.declared.kinds.Phase.TheVariants as phase
use Rattle.rme_program.specs.declared.note.Note.TheVariants.{Blocked}
use Rattle.rme_program.specs.declared.private.Private.{Private}
use Rattle.rme_program.specs.declared.stage.Stage.{Stage}
use Rattle.rme_program.specs.declared.stage.Stage.TheVariants.{Resting, Recovering, Posting, Climbing, Logging, Copying, Leaving}
use Rattle.rme_program.specs.Phases.{phase_of, steps_left}
use Rattle.rme_program.specs.Progress.{phase_rank}
use Rattle.rme_program.specs.Steps.{private_after}
use Rattle.rme_world.specs.Counting.{max_phase_steps}
use Rattle.rme_world.specs.WorldViews.{WorldView, world_privates}
use Rattle.rme_world.specs.WorldInvariants.{WorldInvariant}
use Rattle.rme_world.specs.Events.{StepChange}
use Rattle.rme_world.specs.Refusals.{is_resting_stage, step_refusal}
use Rattle.rme_words.specs.declared.refusal.Refusal.{Refusal}
use Rattle.rme_world.proofs.Telling.{after_step, comes_on}
use Rattle.rme_world.proofs.Worlds.{is_worker, step_kept, up_at}
use Rattle.rme_session_world.specs.declared.running.RunGoal.{RunGoal}
use Rattle.rme_session_world.specs.declared.running.RunGoal.TheVariants.{Rest, Inside}
use Rattle.rme_session_world.specs.declared.running.RunGoal.TheVariants as Goals
use Rattle.rme_session_world.specs.WorkerRuns.{IsWorkerUp, RunUntilStep, RunStepSequence, is_goal_reached}

-- One more step.
pub walk_more : (goal : RunGoal) (worker : ℕ) (old mid new : WorldView) (steps : ℕ) → RunStepSequence goal worker old steps mid → RunUntilStep goal worker mid new → RunStepSequence goal worker old (suc steps) new
unfolding RunStepSequence
walk_more goal worker old mid new zero walks moves = (new, subst (λ (s : WorldView). RunUntilStep goal worker s new) walks moves, refl)
walk_more goal worker old mid new (suc steps) walks moves = (walks.0, walks.1, walk_more goal worker walks.0 mid new steps walks.2 moves)

pub walk_on : (goal : RunGoal) (worker : ℕ) (old mid new : WorldView) (steps more : ℕ) → more ≡ steps + 1 → RunStepSequence goal worker old steps mid → RunUntilStep goal worker mid new → RunStepSequence goal worker old more new
walk_on goal worker old mid new steps more is walks moves =
    let next : suc steps ≡ more = omega (arith, is) in
    subst (λ (n : ℕ). RunStepSequence goal worker old n new) next (walk_more goal worker old mid new steps walks moves)

pub no_walk : (goal : RunGoal) (worker : ℕ) (old : WorldView) → RunStepSequence goal worker old 0 old
unfolding RunStepSequence
no_walk goal worker old = refl

-- The rest of a worker's way: the later phases, and the steps left of its own.
abbrev pub left_up : Shape → Option Private → ℕ
left_up shape None = 0
left_up shape (Some private) = (5 - phase_rank (phase_of private.stage)) * 100 + steps_left shape private.stage

abbrev pub left_in : WorldView → ℕ → ℕ
left_in seen worker = left_up seen.shape (world_privates seen worker)

rank_small : (p : Phase) → phase_rank p ≤ 5
rank_small phase.Recover = omega arith
rank_small phase.Post = omega arith
rank_small phase.Enter = omega arith
rank_small phase.Section = omega arith
rank_small phase.Exit = omega arith
rank_small phase.Ready = omega arith

most_small : (shape : Shape) (p : Phase) → max_phase_steps shape p ≤ 99
most_small shape phase.Recover = omega (arith, shape.counted.tree.few_levels)
most_small shape phase.Post = omega arith
most_small shape phase.Enter = omega (arith, shape.counted.tree.few_levels)
most_small shape phase.Section = omega (arith, shape.counted.limits.few_cells)
most_small shape phase.Exit = omega (arith, shape.counted.tree.few_levels)
most_small shape phase.Ready = omega arith

left_short : (seen : WorldView) (worker : ℕ) (private : Private) → WorldInvariant seen → slice_get seen.privates worker ≡ Some (Some private) → steps_left seen.shape private.stage ≤ 99
left_short seen worker private kept found =
    let within : worker < seen.shape.workers = is_worker seen worker (Some private) kept.all_privates found in
    let stay = kept.stays worker private within (up_at seen worker (Some private) found) in
    omega (arith, stay.short, most_small seen.shape (phase_of private.stage))

pub left_small : (seen : WorldView) (worker : ℕ) → WorldInvariant seen → IsWorkerUp seen worker → left_in seen worker ≤ 599
left_small seen worker kept (private, found) =
    let is : left_in seen worker ≡ (5 - phase_rank (phase_of private.stage)) * 100 + steps_left seen.shape private.stage = ap (left_up seen.shape) (up_at seen worker (Some private) found) in
    omega (arith, is, left_short seen worker private kept found)

module _ (goal : RunGoal) (worker : ℕ) (old new : WorldView) (kept : WorldInvariant old) (moves : RunUntilStep goal worker old new) where
  pub made : StepChange old worker moves.note new
  made = moves.stepped.accepted

  pub not_blocked : moves.note ≢ Blocked
  not_blocked blocked = moves.free (moves.stepped.blocked blocked)

  pub then_kept : WorldInvariant new
  then_kept = step_kept old new worker moves.note made kept

  pub then_up : IsWorkerUp new worker
  then_up = (private_after old.shape made.private made.value, after_step old new worker moves.note kept made)

  pub falls : left_in new worker < left_in old worker
  falls =
      let next : Private = private_after old.shape made.private made.value in
      let found = after_step old new worker moves.note kept made in
      let was : left_in old worker ≡ (5 - phase_rank (phase_of made.private.stage)) * 100 + steps_left old.shape made.private.stage = ap (left_up old.shape) (up_at old worker (Some made.private) made.found) in
      let is : left_in new worker ≡ (5 - phase_rank (phase_of next.stage)) * 100 + steps_left new.shape next.stage = ap (left_up new.shape) (up_at new worker (Some next) found) in
      let short : steps_left new.shape next.stage ≤ 99 = left_short new worker next then_kept found in
      let same : steps_left new.shape next.stage ≡ steps_left old.shape next.stage = ap (λ (s : Shape). steps_left s next.stage) (ap (λ (s : WorldView). s.shape) made.goes) in
      let most : phase_rank (phase_of next.stage) ≤ 5 = rank_small (phase_of next.stage) in
      elim (comes_on old new worker moves.note kept made not_blocked made.private next made.found found) [
        | inl on ↦ (let at : phase_rank (phase_of next.stage) ≡ phase_rank (phase_of made.private.stage) = ap phase_rank on.0 in omega (arith, was, is, same, at, on.1))
        | inr later ↦ omega (arith, was, is, short, later, most)
      ]

-- A worker that has not reached its goal has a step to make.
not_ready : (goal : RunGoal) (stage : Stage) → is_goal_reached goal (phase_of stage) ≡ false → is_resting_stage stage ≡ false
not_ready Rest Resting away = absurd (cc)
not_ready Inside Resting away = absurd (cc)
not_ready Goals.Ready Resting away = absurd (cc)
not_ready goal (Recovering recovery) away = refl
not_ready goal (Posting slate) away = refl
not_ready goal (Climbing ascent) away = refl
not_ready goal (Logging log) away = refl
not_ready goal (Copying redo) away = refl
not_ready goal (Leaving departure) away = refl

pub may_step : (goal : RunGoal) (worker : ℕ) (seen : WorldView) (private : Private) (why : Refusal) → slice_get seen.privates worker ≡ Some (Some private) → is_goal_reached goal (phase_of private.stage) ≡ false
    → step_refusal seen worker ≡ Some why → ⊥
may_step goal worker seen private why found away refused =
    let busy : is_resting_stage private.stage ≡ false = not_ready goal private.stage away in
    let none : step_refusal seen worker ≡ None = rw found (rw busy refl) in
    none-some why (sym none ∙ refused)

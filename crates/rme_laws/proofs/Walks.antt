-- A walk from alike worlds.
use Rattle.std.proofs.Common.{◌≡◌, ℕ, zero, suc, List, refl, sym, ap, subst}
use Rattle.std.specs.Prelude.{Bool, true, false, Option, Some, None, Result, Ok, Err, ◌<◌}
use Rattle.rme_words.specs.declared.refusal.Refusal.{Refusal}
use Rattle.rme_words.specs.declared.shape.Shape.{Shape}
use Rattle.rme_program.specs.declared.note.Note.{Note}
use Rattle.rme_line_text.specs.declared.walked.WalkEnd.{WalkEnd}
use Rattle.rme_wire.specs.declared.command.Until.{Until}
use Rattle.rme_line_engine.specs.declared.tallied.TalliedWorld.{TalliedWorld}
use Rattle.rme_line_engine.specs.WorldWalks.{WalkAfterStep, WalkAfterNote, WalkStepSequence, walk_end_after, is_true, walk_outcome}
use Rattle.rme_world.specs.Calls.{ReadyContract}
use Rattle.rme_world.specs.WorldViews.{WorldView}
use Rattle.rme_laws.specs.AlikeWorlds.{AreWorldsAlike}
use Rattle.rme_laws.proofs.Events.{alike_after, step_one, step_result}
use Rattle.rme_laws.proofs.Still.{alike_back, ready_on}

-- Alike worlds answer the same readiness.
ready_same : (one other : WorldView) (worker : ℕ) (ready again : Result Bool Refusal) → AreWorldsAlike one other
    → ReadyContract one worker ready → ReadyContract other worker again → is_true ready ≡ is_true again
ready_same one other worker (Ok true) (Ok true) alike first second = refl
ready_same one other worker (Ok false) (Ok false) alike first second = refl
ready_same one other worker (Ok true) (Ok false) alike first second = sym (second.ready.1 (ready_on one other worker alike (first.ready.0 refl)))
ready_same one other worker (Ok false) (Ok true) alike first second = first.ready.1 (ready_on other one worker (alike_back one other alike) (second.ready.0 refl))
ready_same one other worker (Ok true) (Err why) alike first second = sym (second.accepted.1 (subst (λ (n : ℕ). worker < n) (ap (λ (s : Shape). s.workers) alike.shape) (first.accepted.0 refl)))
ready_same one other worker (Ok false) (Err why) alike first second = refl
ready_same one other worker (Err why) (Ok true) alike first second = first.accepted.1 (subst (λ (n : ℕ). worker < n) (sym (ap (λ (s : Shape). s.workers) alike.shape)) (second.accepted.0 refl))
ready_same one other worker (Err why) (Ok false) alike first second = refl
ready_same one other worker (Err why) (Err same) alike first second = refl

module _ (worker : ℕ) (wanted : Option Until) where
  -- The rest of a walk, continued from alike worlds, leads to alike worlds.
  abbrev GoesOn : ℕ → TalliedWorld → TalliedWorld → Type 0
  GoesOn most mid again = (notes also : List Note) (outcome repeat : Result WalkEnd Refusal) (one other : TalliedWorld)
      → WalkStepSequence most mid worker wanted (walk_outcome notes outcome one) → WalkStepSequence most again worker wanted (walk_outcome also repeat other) → AreWorldsAlike one.world other.world

  goes_one : (most : ℕ) (mid again one other : TalliedWorld) (note : Note) (end : Option WalkEnd)
      (notes also : List Note) (outcome repeat : Result WalkEnd Refusal)
      → AreWorldsAlike mid.world again.world → GoesOn most mid again
      → WalkAfterNote (WalkStepSequence most mid worker wanted) mid note end (walk_outcome notes outcome one) → WalkAfterNote (WalkStepSequence most again worker wanted) again note end (walk_outcome also repeat other) → AreWorldsAlike one.world other.world
  goes_one most mid again one other note (Some end) notes also outcome repeat alike on first second =
      alike_after mid.world again.world one.world other.world alike (ap (λ (t : TalliedWorld). t.world) first.2) (ap (λ (t : TalliedWorld). t.world) second.2)
  goes_one most mid again one other note None notes also outcome repeat alike on first second = on first.0 second.0 outcome repeat one other first.1 second.1

  follows_one : (most : ℕ) (mid again one other : TalliedWorld) (result : Result Note Refusal) (notes also : List Note)
      (outcome repeat : Result WalkEnd Refusal)
      → AreWorldsAlike mid.world again.world → GoesOn most mid again
      → WalkAfterStep (WalkStepSequence most mid worker wanted) mid worker wanted result (walk_outcome notes outcome one) → WalkAfterStep (WalkStepSequence most again worker wanted) again worker wanted result (walk_outcome also repeat other) → AreWorldsAlike one.world other.world
  follows_one most mid again one other (Err why) notes also outcome repeat alike on first second =
      alike_after mid.world again.world one.world other.world alike (ap (λ (t : TalliedWorld). t.world) first.2) (ap (λ (t : TalliedWorld). t.world) second.2)
  follows_one most mid again one other (Ok note) notes also outcome repeat alike on first second =
      let ready : is_true first.0 ≡ is_true second.0 = ready_same mid.world again.world worker first.0 second.0 alike first.1 second.1 in
      let same : walk_end_after wanted note second.0 ≡ walk_end_after wanted note first.0 = ap (λ (b : Bool). walk_end_after wanted note (Ok b)) (sym ready) in
      let P : Option WalkEnd → Type 0 = λ e. WalkAfterNote (WalkStepSequence most again worker wanted) again note e (walk_outcome also repeat other) in
      goes_one most mid again one other note (walk_end_after wanted note first.0) notes also outcome repeat alike on first.2 (subst P same second.2)

  pub walk_one : (most : ℕ) (old again : TalliedWorld) → AreWorldsAlike old.world again.world → GoesOn most old again
  unfolding WalkStepSequence
  walk_one zero old again alike notes also outcome repeat one other first second =
      alike_after old.world again.world one.world other.world alike (ap (λ (t : TalliedWorld). t.world) first.2) (ap (λ (t : TalliedWorld). t.world) second.2)
  walk_one (suc most) old again alike notes also outcome repeat one other first second =
      let mid : TalliedWorld = first.1 in
      let too : TalliedWorld = second.1 in
      let mids : AreWorldsAlike mid.world too.world = step_one old.world again.world mid.world too.world alike worker first.0 second.0 first.2.stepped second.2.stepped in
      let same : second.0 ≡ first.0 = sym (step_result old.world again.world mid.world too.world alike worker first.0 second.0 first.2.stepped second.2.stepped) in
      let P : Result Note Refusal → Type 0 = λ r. WalkAfterStep (WalkStepSequence most too worker wanted) too worker wanted r (walk_outcome also repeat other) in
      follows_one most mid too one other first.0 notes also outcome repeat mids (walk_one most mid too mids) first.3 (subst P same second.3)

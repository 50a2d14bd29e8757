-- Walks and commands that were written of events lead to the same state as the events.
use Rattle.std.proofs.Common.{◌≡◌, ℕ, zero, suc, List, [], ◌∷◌, replicate, refl, sym, ap, subst, ◌∙◌}
use Rattle.std.specs.Prelude.{Bool, true, false, if◌then◌else◌, Option, Some, None, Result, Ok, Err}
use Rattle.std.proofs.lemmas.Bool.{false≢true}
use Rattle.std.proofs.lemmas.Option.{none-some}
use Rattle.rme_words.specs.declared.refusal.Refusal.{Refusal}
use Rattle.rme_program.specs.declared.event.Event.TheVariants as event
use Rattle.rme_program.specs.declared.event.Answer.{Answer}
use Rattle.rme_program.specs.declared.note.Note.{Note}
use Rattle.rme_program.specs.declared.note.Note.TheVariants.{Quiet, Asked, Blocked, Entered, Reentered, Finished, Left, Ready, Withdrew}
use Rattle.rme_line_text.specs.declared.walked.WalkEnd.{WalkEnd}
use Rattle.rme_line_text.specs.declared.walked.WalkEnd.TheVariants as end
use Rattle.rme_line_engine.specs.declared.tallied.TalliedWorld.{TalliedWorld}
use Rattle.rme_line_engine.specs.WorldWalks.{WalkAfterStep, WalkAfterNote, WalkStepSequence, walk_end_after, is_blocked, is_true, walk_outcome}
use Rattle.rme_world.specs.Calls.{ReadyContract, StepContract}
use Rattle.rme_world.specs.EventLists.{EventListContract}
use Rattle.rme_world.specs.Queries.{WorkerIsReady}
use Rattle.rme_world.specs.WorldViews.{WorldView}
use Rattle.rme_laws.specs.AlikeWorlds.{AreWorldsAlike}
use Rattle.rme_laws.proofs.Events.{alike_after, step_one, step_result}
use Rattle.rme_laws.proofs.Still.{alike_back, alike_then, all_blocked, all_ready, blocked_same, ready_on}

is_blocked_note : (note : Note) → is_blocked note ≡ true → note ≡ Blocked
is_blocked_note Quiet is = absurd (false≢true is)
is_blocked_note (Asked number) is = absurd (false≢true is)
is_blocked_note Blocked is = refl
is_blocked_note (Entered lock) is = absurd (false≢true is)
is_blocked_note (Reentered lock) is = absurd (false≢true is)
is_blocked_note (Finished receipt) is = absurd (false≢true is)
is_blocked_note (Left lock) is = absurd (false≢true is)
is_blocked_note Ready is = absurd (false≢true is)
is_blocked_note (Withdrew number) is = absurd (false≢true is)

is_ready_seen : (seen : WorldView) (worker : ℕ) (ready : Result Bool Refusal) → ReadyContract seen worker ready
    → is_true ready ≡ true → WorkerIsReady seen worker
is_ready_seen seen worker (Ok true) shows is = shows.ready.0 refl
is_ready_seen seen worker (Ok false) shows is = absurd (false≢true is)
is_ready_seen seen worker (Err why) shows is = absurd (false≢true is)

-- A walk that ends early leaves no step out: the worker is ready, or blocked as long as no other worker steps.
module _ (worker most : ℕ) (answers : List Answer) (seen mid new : WorldView) (too one : TalliedWorld) (note : Note) (ready : Result Bool Refusal)
    (step : StepContract seen worker (Ok note) mid) (alike : AreWorldsAlike mid too.world) (shows : ReadyContract too.world worker ready) (all : EventListContract mid (replicate most (event.Step worker)) answers new) where
  from_mid : one ≡ too → AreWorldsAlike mid new → AreWorldsAlike new one.world
  from_mid left same = let P : TalliedWorld → Type 0 = λ t. AreWorldsAlike new t.world in subst P (sym left) (alike_then new mid too.world (alike_back mid new same) alike)

  ended_early : (is_done stuck : Bool) (ended : WalkEnd) → one ≡ too → is_true ready ≡ is_done → is_blocked note ≡ stuck
      → (if is_done then Some end.Ready else (if stuck then Some end.Blocked else None)) ≡ Some ended → AreWorldsAlike new one.world
  ended_early true stuck ended left is so why =
      from_mid left (all_ready most worker answers mid new (ready_on too.world mid worker (alike_back mid too.world alike) (is_ready_seen too.world worker ready shows is)) all)
  ended_early false true ended left is so why =
      let P : Note → Type 0 = λ n. StepContract seen worker (Ok n) mid in
      let blocked : StepContract seen worker (Ok Blocked) mid = subst P (is_blocked_note note so) step in
      from_mid left (all_blocked most worker answers seen mid mid new blocked (blocked_same seen mid worker blocked) all)
  ended_early false false ended left is so why = absurd (none-some ended why)

  goes_written : (notes : List Note) (outcome : Result WalkEnd Refusal)
      → ((more : List Note) → WalkStepSequence most too worker None (walk_outcome more outcome one)
      → AreWorldsAlike new one.world)
      → (ended : Option WalkEnd) → walk_end_after None note ready ≡ ended → WalkAfterNote (WalkStepSequence most too worker None) too note ended (walk_outcome notes outcome one) → AreWorldsAlike new one.world
  goes_written notes outcome on (Some ended) is goes = ended_early (is_true ready) (is_blocked note) ended goes.2 refl refl is
  goes_written notes outcome on None is goes = on goes.0 goes.1

follows_written : (worker most : ℕ) (answers : List Answer) (seen mid new : WorldView) (too one : TalliedWorld)
    (result : Result Note Refusal) (notes : List Note) (outcome : Result WalkEnd Refusal) (ended : WalkEnd)
    → outcome ≡ Ok ended
    → StepContract seen worker result mid → AreWorldsAlike mid too.world → EventListContract mid (replicate most (event.Step worker)) answers new
    → ((more : List Note) → WalkStepSequence most too worker None (walk_outcome more outcome one) → AreWorldsAlike new one.world)
    → WalkAfterStep (WalkStepSequence most too worker None) too worker None result (walk_outcome notes outcome one) → AreWorldsAlike new one.world
follows_written worker most answers seen mid new too one (Err why) notes outcome ended ok step alike all on follows = absurd (let q : Err why ≡ Ok ended = sym follows.1 ∙ ok in cc)
follows_written worker most answers seen mid new too one (Ok note) notes outcome ended ok step alike all on follows =
    goes_written worker most answers seen mid new too one note follows.0 step alike follows.1 all notes outcome on (walk_end_after None note follows.0) refl follows.2

-- A walk of as many steps as one worker made leads to the same state.
pub walk_written : (most worker : ℕ) (answers : List Answer) (seen new : WorldView) (old one : TalliedWorld)
    (notes : List Note) (outcome : Result WalkEnd Refusal) (ended : WalkEnd)
    → outcome ≡ Ok ended
    → AreWorldsAlike seen old.world → EventListContract seen (replicate most (event.Step worker)) answers new → WalkStepSequence most old worker None (walk_outcome notes outcome one) → AreWorldsAlike new one.world
unfolding WalkStepSequence
walk_written zero worker [] seen new old one notes outcome ended ok alike all walks = alike_after seen old.world new one.world alike all (ap (λ (t : TalliedWorld). t.world) walks.2)
walk_written zero worker (given ∷ answers) seen new old one notes outcome ended ok alike all walks = absurd all
walk_written (suc most) worker [] seen new old one notes outcome ended ok alike all walks = absurd all
walk_written (suc most) worker (given ∷ answers) seen new old one notes outcome ended ok alike all walks =
    let mid : WorldView = all.0 in
    let too : TalliedWorld = walks.1 in
    let mids : AreWorldsAlike mid too.world = step_one seen old.world mid too.world alike worker all.1.call.0 walks.0 all.1.call.2 walks.2.stepped in
    let same : all.1.call.0 ≡ walks.0 = step_result seen old.world mid too.world alike worker all.1.call.0 walks.0 all.1.call.2 walks.2.stepped in
    let P : Result Note Refusal → Type 0 = λ r. StepContract seen worker r mid in
    follows_written worker most answers seen mid new too one walks.0 notes outcome ended ok (subst P same all.1.call.2) mids all.2
    (λ more rest. walk_written most worker answers mid new too one more outcome ended ok mids all.2 rest) walks.3

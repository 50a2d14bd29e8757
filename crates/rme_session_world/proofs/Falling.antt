-- Workers that crash one after another.
use Rattle.std.proofs.Common.{◌≡◌, ℕ, zero, suc, ◌+◌, ◌<◌, List, [], ◌∷◌, ◌++◌, length, refl, sym, ◌∙◌, ap, subst, inl, inr, arith}
use Rattle.std.specs.Prelude.{Option, Some, None, Ok, is_some, false, replicate, slice_get}
use Rattle.std.proofs.lemmas.Bool.{cases_eq}
use Rattle.std.proofs.lemmas.List.{length-replicate}
use Rattle.std.proofs.lemmas.Option.{none-some, same_Some, slice_get-get_or, slice_get_past}
use Rattle.rme_words.specs.declared.shape.Shape.{Shape}
use Rattle.rme_program.specs.declared.event.Event.{Event}
use Rattle.rme_program.specs.declared.event.Event.TheVariants as event
use Rattle.rme_program.specs.declared.private.Private.{Private}
use Rattle.rme_world.specs.WorldViews.{WorldView, private_if_up, world_privates}
use Rattle.rme_world.specs.WorldInvariants.{WorldInvariant}
use Rattle.rme_world.specs.Calls.{CrashContract}
use Rattle.rme_session_world.specs.EventBatches.{AppliesEvents}
use Rattle.rme_session_world.specs.Executors.{AreCrashes, HasCrashedAll}
use Rattle.rme_session_world.specs.Downs.{IsWorkerDown}
use Rattle.rme_session_world.specs.ExecutorStates.{ExecutorInvariant}
use Rattle.rme_session_world.proofs.Events.{crash_happens, happens_then}
use Rattle.rme_session_world.proofs.Frames.{crash_leaves}
use Rattle.rme_session_world.proofs.Posting.{crashed_found}

-- The first `count` workers are down, by crashes only.
pub record FallenTo (count : ℕ) (old now : WorldView) : Type 0 where
  pub events : List Event
  pub crashes : AreCrashes events
  pub happened : AppliesEvents old events now
  pub shape : now.shape ≡ old.shape
  pub down : (worker : ℕ) → worker < count → IsWorkerDown now worker

one_crash : (events : List Event) (worker : ℕ) → AreCrashes events → AreCrashes (events ++ event.Crash worker ∷ [])
one_crash [] worker are = tt
one_crash (event.Crash other ∷ events) worker are = one_crash events worker are
one_crash (event.Submit other job ∷ events) worker are = absurd are
one_crash (event.Step other ∷ events) worker are = absurd are
one_crash (event.Restart other ∷ events) worker are = absurd are
one_crash (event.Withdraw other ∷ events) worker are = absurd are

-- The next worker crashed.
pub falls_next : (count : ℕ) (old now new : WorldView) → FallenTo count old now → CrashContract now count (Ok tt) new → FallenTo (count + 1) old new
falls_next count old now new fallen crashed = record {
  events = fallen.events ++ event.Crash count ∷ [];
  crashes = one_crash fallen.events count fallen.crashes;
  happened = happens_then fallen.events (event.Crash count ∷ []) old now new fallen.happened (crash_happens count now new crashed);
  shape = (crash_leaves count now new crashed.accepted).shape ∙ fallen.shape;
  down = λ worker less. elim (cases_eq worker count) [
    | inl same ↦ subst (λ (w : ℕ). IsWorkerDown new w) (sym same) (crashed_found now new count crashed.accepted)
    | inr apart ↦ (crash_leaves count now new crashed.accepted).others worker apart ∙ fallen.down worker (omega (arith, less, apart))
  ];
}

down_by : (found : Option (Option Private)) → is_some (private_if_up found) ≡ false → (found ≡ None → ⊥) → found ≡ Some None
down_by None none there = absurd (there refl)
down_by (Some None) none there = refl
down_by (Some (Some private)) none there = absurd (cc)

-- A worker without a private state is down.
pub down_found : (seen : WorldView) (worker : ℕ) → WorldInvariant seen → worker < seen.shape.workers → is_some (world_privates seen worker) ≡ false → IsWorkerDown seen worker
down_found seen worker kept within none =
    down_by (slice_get seen.privates worker) none (λ missing. none-some _ (sym missing ∙ slice_get-get_or seen.privates worker None (omega (arith, kept.all_privates, within))))

-- It was down already.
pub down_next : (count : ℕ) (old now : WorldView) → FallenTo count old now → WorldInvariant now → count < now.shape.workers → is_some (world_privates now count) ≡ false → FallenTo (count + 1) old now
down_next count old now fallen kept within none = record {
  events = fallen.events;
  crashes = fallen.crashes;
  happened = fallen.happened;
  shape = fallen.shape;
  down = λ worker less. elim (cases_eq worker count) [
    | inl same ↦ subst (λ (w : ℕ). IsWorkerDown now w) (sym same) (down_found now count kept within none)
    | inr apart ↦ fallen.down worker (omega (arith, less, apart))
  ];
}

none_in : (count worker : ℕ) (found : Option ℕ) → slice_get (replicate count None) worker ≡ Some found → (found ≡ None) × (worker < count)
none_in zero worker found is = absurd (none-some found (sym (slice_get_past [] worker (omega arith)) ∙ is))
none_in (suc count) zero found is = (sym (same_Some _ _ is), omega arith)
none_in (suc count) (suc worker) found is = (let rest = none_in count worker found is in (rest.0, omega (arith, rest.1)))

-- An executor whose workers are all down and without a holder.
pub opens_tended : (old new : WorldView) (holders : List (Option ℕ)) → HasCrashedAll old new → holders ≡ replicate new.shape.workers None → ExecutorInvariant record { world = new; holders = holders }
opens_tended old new holders fallen is = record {
  all = ap (λ (hs : List (Option ℕ)). length hs) is ∙ length-replicate new.shape.workers None;
  held = λ worker session found. (let at = none_in new.shape.workers worker (Some session) (ap (λ (hs : List (Option ℕ)). slice_get hs worker) (sym is) ∙ found) in absurd (none-some session (sym at.0)));
  free = λ worker found.
      (let at = none_in new.shape.workers worker None (ap (λ (hs : List (Option ℕ)). slice_get hs worker) (sym is) ∙ found) in
      fallen.down worker (omega (arith, at.1, ap (λ (s : Shape). s.workers) fallen.shape)));
}

-- The final contents of the slots, slot by slot.
use Rattle.std.proofs.Common.{◌≡◌, ℕ, ◌<◌, List, [], ◌∷◌, ◌++◌, length, refl, ap, arith, inl, inr}
use Rattle.std.specs.Prelude.{true, slice_get, Option, Some, None, unwrap_or}
use Rattle.std.proofs.lemmas.List.{length-append}
use Rattle.std.proofs.lemmas.Option.{slice_get_within}
use Rattle.rme_words.specs.declared.shape.Shape.{Shape}
use Rattle.rme_service_steps.specs.SeatViews.{ServiceId, SeatView}
use Rattle.rme_supervisor.specs.declared.end.End.{End}
use Rattle.rme_supervisor.specs.declared.end.End.TheVariants.{AllDone, Stalled, NoStart, OutOfLives, Refused}
use Rattle.rme_supervisor.specs.declared.plan.WorkerPlan.{WorkerPlan}
use Rattle.rme_supervisor.specs.Ends.{WorkersFollowPlans, WorkerLivesMatch, EndIsAllowed, is_end_outside_life}
use Rattle.rme_supervisor.specs.Falling.{LivesFellAt}
use Rattle.rme_supervisor.specs.Plans.{SupervisedRun}
use Rattle.rme_supervisor.specs.WorkerSlots.{LivesFollowPlan, SlotFollowsPlan}
use Rattle.rme_supervisor.proofs.Lists.{in_snoc}

-- The end of a worker in its slot is one that its plan allows; NoStart if it has none.
module _ (shape : Shape) (run : SupervisedRun) (stand : SeatView) (blocked lives : ℕ) where
  abbrev Rests : Option End → Type 0
  Rests end = SlotFollowsPlan shape run (record { stand = stand; end = end; blocked = blocked; lives = lives })

  pub rested : (end : Option End) → Rests end → (plan : WorkerPlan) → slice_get run.plans stand.part.worker ≡ Some plan → EndIsAllowed shape run.rounds plan stand.part.private.begun (unwrap_or end NoStart)
  rested None is plan planned = tt
  rested (Some end) is plan planned = is.earned plan end planned refl

  fell_so : (plan : WorkerPlan) (first : SeatView) (end : End) (has : LivesFollowPlan run.turned plan first (record { stand = stand; end = Some end; blocked = blocked; lives = lives })) → is_end_outside_life end ≡ true
      → LivesFellAt plan.falls.items lives has.made
  fell_so plan first AllDone has outside = cc
  fell_so plan first Stalled has outside = cc
  fell_so plan first OutOfLives has outside = (has.out refl).0
  fell_so plan first NoStart has outside = absurd ((has.ended NoStart refl).0 refl)
  fell_so plan first (Refused refusal) has outside = cc

  -- The number of lives is one that its plan allows.
  pub rested_lives : (end : Option End) → Rests end → (plan : WorkerPlan) (first : SeatView) → slice_get run.plans stand.part.worker ≡ Some plan → slice_get run.given stand.part.worker ≡ Some first
      → WorkerLivesMatch run.turned plan first stand (unwrap_or end NoStart) lives
  rested_lives None is plan first planned was =
      let has = is.rested plan first planned was in record {
        made = has.made;
        steps = has.steps;
        most = has.most;
        out = λ e. absurd (let bad : NoStart ≡ OutOfLives = e in cc);
        left = λ e some. has.more refl some;
        lived = λ no. absurd (no refl);
        fell = λ outside. has.falls refl;
        stood = λ inside. cc;
        stalled = λ e. absurd (let bad : NoStart ≡ Stalled = e in cc);
      }
  rested_lives (Some end) is plan first planned was =
      let has = is.rested plan first planned was in
      let own = has.ended end refl in record {
        made = has.made;
        steps = has.steps;
        most = has.most;
        out = λ e. (has.out (ap (λ (x : End). Some x) e)).1;
        left = λ e some. absurd (own.0 e);
        lived = λ no. own.1;
        fell = λ outside. fell_so plan first end has outside;
        stood = λ inside. has.stood end refl inside;
        stalled = λ e. elim (has.stalled (ap (λ (x : End). Some x) e)) [
          | inl all ↦ inl (let swept = has.swept in omega (arith, all, swept))
          | inr away ↦ inr away
        ];
      }

module _ (ident : ServiceId) (run : SupervisedRun) (ds dt : List SeatView) (es et : List End) (ls lt : List ℕ) (down : SeatView) (end : End) (lives : ℕ)
    (is : WorkersFollowPlans ident run ds es ls) (downs : dt ≡ ds ++ down ∷ []) (ends : et ≡ es ++ end ∷ []) (lived : lt ≡ ls ++ lives ∷ []) (own : down.ident ≡ ident)
    (earned : (plan : WorkerPlan) → slice_get run.plans down.part.worker ≡ Some plan → EndIsAllowed ident.shape run.rounds plan down.part.private.begun end)
    (has_lived : (plan : WorkerPlan) (first : SeatView) → slice_get run.plans down.part.worker ≡ Some plan → slice_get run.given down.part.worker ≡ Some first → WorkerLivesMatch run.turned plan first down end lives) where
  ours : (k : ℕ) (seat : SeatView) → slice_get dt k ≡ Some seat → seat.ident ≡ ident
  ours k seat at = elim (in_snoc ds down k seat (rw (← downs) at)) [
    | inl h ↦ is.ours k seat h
    | inr h ↦ rw (← h.1) own
  ]

  each : (k : ℕ) (d : SeatView) (e : End) (plan : WorkerPlan) → slice_get dt k ≡ Some d → slice_get et k ≡ Some e → slice_get run.plans d.part.worker ≡ Some plan
      → EndIsAllowed ident.shape run.rounds plan d.part.private.begun e
  each k d e plan at ended planned = elim (in_snoc ds down k d (rw (← downs) at)) [
    | inl h ↦ elim (in_snoc es end k e (rw (← ends) ended)) [
      | inl i ↦ is.earned k d e plan h i planned
      | inr i ↦ let within : k < length ds = slice_get_within ds k d h in absurd (omega (arith, within, i.0, is.ends))
    ]
    | inr h ↦ elim (in_snoc es end k e (rw (← ends) ended)) [
      | inl i ↦ let within : k < length es = slice_get_within es k e i in absurd (omega (arith, within, h.0, is.ends))
      | inr i ↦ rw (← h.1, ← i.1) (earned plan (rw h.1 planned))
    ]
  ]

  each_lived : (k : ℕ) (d : SeatView) (e : End) (l : ℕ) (plan : WorkerPlan) (first : SeatView) → slice_get dt k ≡ Some d → slice_get et k ≡ Some e → slice_get lt k ≡ Some l
      → slice_get run.plans d.part.worker ≡ Some plan → slice_get run.given d.part.worker ≡ Some first → WorkerLivesMatch run.turned plan first d e l
  each_lived k d e l plan first at ended counted planned was = elim (in_snoc ds down k d (rw (← downs) at)) [
    | inl h ↦ let within : k < length ds = slice_get_within ds k d h in elim (in_snoc es end k e (rw (← ends) ended)) [
      | inl i ↦ elim (in_snoc ls lives k l (rw (← lived) counted)) [
        | inl j ↦ is.lived k d e l plan first h i j planned was
        | inr j ↦ absurd (omega (arith, within, j.0, is.lives))
      ]
      | inr i ↦ absurd (omega (arith, within, i.0, is.ends))
    ]
    | inr h ↦ elim (in_snoc es end k e (rw (← ends) ended)) [
      | inl i ↦ let within : k < length es = slice_get_within es k e i in absurd (omega (arith, within, h.0, is.ends))
      | inr i ↦ elim (in_snoc ls lives k l (rw (← lived) counted)) [
        | inl j ↦ let within : k < length ls = slice_get_within ls k l j in absurd (omega (arith, within, h.0, is.lives))
        | inr j ↦ rw (← h.1, ← i.1, ← j.1) (has_lived plan first (rw h.1 planned) (rw h.1 was))
      ]
    ]
  ]

  pub settled_more : WorkersFollowPlans ident run dt et lt
  settled_more = record {
    ours = ours;
    ends = rw (downs, ends) (let d = length-append ds (down ∷ []) in let e = length-append es (end ∷ []) in omega (arith, d, e, is.ends));
    lives = rw (downs, lived) (let d = length-append ds (down ∷ []) in let l = length-append ls (lives ∷ []) in omega (arith, d, l, is.lives));
    earned = each;
    lived = each_lived;
  }

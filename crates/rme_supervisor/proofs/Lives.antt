-- A worker after one more life.
use Rattle.std.proofs.Common.{◌≡◌, ◌⊎◌, ℕ, ◌+◌, ◌<◌, ◌≤◌, List, refl, sym, ◌∙◌, ap, subst, arith}
use Rattle.std.specs.Prelude.{Bool, false, slice_get, Option, Some, None, IfSome, IfNone}
use Rattle.std.proofs.lemmas.Option.{none-some, same_Some}
use Rattle.rme_words.specs.declared.shape.Shape.{Shape}
use Rattle.rme_service_steps.specs.SeatViews.{ServiceId, SeatView}
use Rattle.rme_table.specs.declared.driving.SweepTries.{SweepTries}
use Rattle.rme_supervisor.specs.declared.end.End.{End}
use Rattle.rme_supervisor.specs.declared.end.End.TheVariants.{NoStart, OutOfLives, Stalled}
use Rattle.rme_supervisor.specs.declared.fall_countdown.FallCountdown.{FallCountdown}
use Rattle.rme_supervisor.specs.declared.plan.WorkerPlan.{WorkerPlan}
use Rattle.rme_supervisor.specs.WorkerSlots.{AreLifeContexts, LivesFollowPlan, SlotFollowsPlan, WorkerSlotView, life_terms}
use Rattle.rme_supervisor.specs.Ends.{EndIsAllowed, is_end_outside_life}
use Rattle.rme_supervisor.specs.Falling.{CountdownWasAsked, IsNextFall}
use Rattle.rme_supervisor.specs.Plans.{SupervisedRun, AreWorkerPlans}
use Rattle.rme_supervisor.specs.Stops.{SweepsWereTried, GateTurnsAway, gate_view}
use Rattle.rme_supervisor.proofs.Fallen.{fell_next, fell_within, stood_next}

is_inside : (end : End) → end ≡ NoStart → is_end_outside_life end ≡ false → ⊥
is_inside end same inside = let bad : is_end_outside_life NoStart ≡ false = subst (λ (e : End). is_end_outside_life e ≡ false) same inside in cc

is_no_end : (end : End) → end ≡ OutOfLives → is_end_outside_life end ≡ false → ⊥
is_no_end end same inside = let bad : is_end_outside_life OutOfLives ≡ false = subst (λ (e : End). is_end_outside_life e ≡ false) same inside in cc

-- A worker before its first life.
pub unlived : (shape : Shape) (run : SupervisedRun) (down : SeatView) → slice_get run.given down.part.worker ≡ Some down
    → SlotFollowsPlan shape run (record { stand = down; end = None; blocked = 0; lives = 0 })
unlived shape run down is = record {
  earned = λ plan end at bad. absurd (none-some _ bad);
  rested = λ plan first at was. record {
    made = 0;
    steps = let same : down.part.steps ≡ first.part.steps = ap (λ (x : SeatView). x.part.steps) (same_Some _ _ (sym is ∙ was)) in omega (arith, same);
    swept = omega arith;
    few = omega arith;
    most = omega arith;
    falls = λ none. record { none = λ zero. refl; last = λ bad. absurd (omega (arith, bad)) };
    more = λ none some. some;
    out = λ bad. absurd (none-some _ bad);
    ended = λ end bad. absurd (none-some _ bad);
    stood = λ end bad inside. absurd (none-some _ bad);
    stalled = λ bad. absurd (none-some _ bad);
  };
}

module _ (shape : Shape) (run : SupervisedRun) (old : WorkerSlotView) (is : SlotFollowsPlan shape run old) (plan : WorkerPlan)
    (planned : slice_get run.plans old.stand.part.worker ≡ Some plan) (none : old.end ≡ None) (more : old.lives < plan.lives) (down : SeatView) (own : down.part.worker ≡ old.stand.part.worker)
    (falls new : FallCountdown) (next : IsNextFall plan.falls.items old.lives falls) (start then_ : SweepTries) (blocked : start.blocked ≡ old.blocked) (most : start.most ≡ plan.sweeps)
    (tried : SweepsWereTried start then_ old.stand down) where
  its_plan : (p : WorkerPlan) → slice_get run.plans down.part.worker ≡ Some p → plan ≡ p
  its_plan p at = same_Some _ _ (sym planned ∙ subst (λ (w : ℕ). slice_get run.plans w ≡ Some p) own at)

  -- The facts of the worker's own plan, and of its Down at the call, hold wherever they are looked up.
  rests : (end : Option End) → ((e : End) → end ≡ Some e → EndIsAllowed shape run.rounds plan down.part.private.begun e)
      → ((first : SeatView) → LivesFollowPlan run.turned plan first old → LivesFollowPlan run.turned plan first (record { stand = down; end = end; blocked = then_.blocked; lives = old.lives + 1 }))
      → SlotFollowsPlan shape run (record { stand = down; end = end; blocked = then_.blocked; lives = old.lives + 1 })
  rests end earned rested = record {
    earned = λ p e at ended. subst (λ (x : WorkerPlan). EndIsAllowed shape run.rounds x down.part.private.begun e) (its_plan p at) (earned e ended);
    rested = λ p first at was.
        let P : WorkerPlan → Type 0 = λ (x : WorkerPlan). LivesFollowPlan run.turned x first (record { stand = down; end = end; blocked = then_.blocked; lives = old.lives + 1 }) in
        subst P (its_plan p at) (rested first (is.rested plan first planned (subst (λ (w : ℕ). slice_get run.given w ≡ Some first) own was)));
  }

  module _ (first : SeatView) (has : LivesFollowPlan run.turned plan first old) where
    few : then_.blocked ≤ plan.sweeps
    few =
        let before = has.few in
        let at_most = tried.few (omega (arith, before, blocked, most)) in
        omega (arith, at_most, most)

    module _ (count : ℕ) (asked : CountdownWasAsked falls new old.stand down count) where
      later : down.part.steps ≡ first.part.steps + (has.made + asked.made)
      later = let before = has.steps in let made = asked.steps in omega (arith, before, made)

      swept : then_.blocked ≤ has.made + asked.made
      swept =
          let before = has.swept in
          let made = asked.steps in
          let each = tried.steps in
          omega (arith, before, made, each, blocked)

  -- The life ended at a fall.
  pub lived_fell : (end : Option End) → IfSome end (λ (e : End). (e ≡ OutOfLives) × (plan.lives ≤ old.lives + 1)) → IfNone end (old.lives + 1 < plan.lives) → CountdownWasAsked falls new old.stand down 1
      → SlotFollowsPlan shape run (record { stand = down; end = end; blocked = then_.blocked; lives = old.lives + 1 })
  lived_fell None some left asked = rests None (λ e bad. absurd (none-some _ bad)) (λ first has. record {
    made = has.made + asked.made;
    steps = later first has 1 asked;
    swept = swept first has 1 asked;
    few = few first has;
    most = omega (arith, more);
    falls = λ same. fell_next plan.falls.items old.lives has.made asked.made (has.falls none) falls new next asked.asks;
    more = λ same some. left;
    out = λ bad. absurd (none-some _ bad);
    ended = λ end bad. absurd (none-some _ bad);
    stood = λ end bad inside. absurd (none-some _ bad);
    stalled = λ bad. absurd (none-some _ bad);
  })
  lived_fell (Some e) (out, all) left asked = rests (Some e)
      (λ end same.
      let within = fell_within plan.falls.items old.lives asked.made falls new next asked.asks in
      let earned : EndIsAllowed shape run.rounds plan down.part.private.begun OutOfLives = omega (arith, within, all) in
      subst (λ (x : End). EndIsAllowed shape run.rounds plan down.part.private.begun x) (sym out ∙ same_Some _ _ same) earned)
      (λ first has. record {
        made = has.made + asked.made;
        steps = later first has 1 asked;
        swept = swept first has 1 asked;
        few = few first has;
        most = omega (arith, more);
        falls = λ bad. absurd (none-some _ (sym bad));
        more = λ bad some. absurd (none-some _ (sym bad));
        out = λ same. (fell_next plan.falls.items old.lives has.made asked.made (has.falls none) falls new next asked.asks, omega (arith, more, all));
        ended = λ end same. (λ bad. (let no : OutOfLives ≡ NoStart = sym out ∙ same_Some _ _ same ∙ bad in cc), omega arith);
        stood = λ end same inside. absurd (is_no_end end (sym (same_Some _ _ same) ∙ out) inside);
        stalled = λ same. absurd (let no : OutOfLives ≡ Stalled = sym out ∙ same_Some _ _ same in cc);
      })

  -- It ended in another way.
  pub lived_ended : (end : End) → EndIsAllowed shape run.rounds plan down.part.private.begun end → is_end_outside_life end ≡ false → (end ≡ Stalled → (plan.sweeps ≤ then_.blocked) ⊎ run.turned down.part.worker) → CountdownWasAsked falls new old.stand down 0
      → SlotFollowsPlan shape run (record { stand = down; end = Some end; blocked = then_.blocked; lives = old.lives + 1 })
  lived_ended end earned inside stalled asked = rests (Some end) (λ e same. subst (λ (x : End). EndIsAllowed shape run.rounds plan down.part.private.begun x) (same_Some _ _ same) earned) (λ first has. record {
    made = has.made + asked.made;
    steps = later first has 0 asked;
    swept = swept first has 0 asked;
    few = few first has;
    most = omega (arith, more);
    falls = λ bad. absurd (none-some _ (sym bad));
    more = λ bad some. absurd (none-some _ (sym bad));
    out = λ same. absurd (is_no_end end (same_Some _ _ same) inside);
    ended = λ e same. (λ bad. is_inside end (same_Some _ _ same ∙ bad) inside, omega arith);
    stood = λ e same also. stood_next plan.falls.items old.lives has.made asked.made (has.falls none) falls new next asked.asks;
    stalled = λ same. stalled (same_Some _ _ same);
  })

-- The lives of all workers follow their plans.
pub ordered : (ident : ServiceId) (run : SupervisedRun) (service : ServiceId) (rounds : ℕ) (plans : List WorkerPlan) (answered : ℕ → ℕ → Bool → Type 0) (lets_all : Bool) (count : ℕ) → service ≡ ident → rounds ≡ run.rounds → plans ≡ run.plans
    → AreWorkerPlans plans count → ((other : ℕ) → GateTurnsAway (gate_view answered lets_all service.shape) other → run.turned other) → AreLifeContexts ident run (λ plan. life_terms service rounds plan answered lets_all) plans
ordered ident run service rounds plans answered lets_all count ours so_many same good away worker plan at =
    record { ours = ours; rounds_are = so_many; planned = subst (λ (ps : List WorkerPlan). slice_get ps worker ≡ Some plan) same at; good = good.each worker plan at; away = away }

-- A worker that stalls with a job that it has posted.
use Rattle.std.proofs.Common.{◌≡◌, ℕ, subst, arith, inl, inr}
use Rattle.std.specs.Prelude.{Result, Ok, Err, IfErr}
use Rattle.rme_script.specs.declared.job.Job.{Job}
use Rattle.rme_service_steps.specs.SeatViews.{SeatView}
use Rattle.rme_table.specs.Driving.{AllSweepsWereMade}
use Rattle.rme_table.specs.declared.driving.SweepTries.{SweepTries}
use Rattle.rme_supervisor.specs.declared.life_stop.LifeStop.{LifeStop}
use Rattle.rme_supervisor.specs.declared.life_stop.LifeStop.TheVariants.{Fell, Ended}
use Rattle.rme_supervisor.specs.Stops.{JobWasPosted, SweepsWereTried, GateView, GateTurnsAway, StopIsAStall, StallAfterSweeps, StallAfterPost, no_sweep_tries}

module _ (gate : GateView) (ready : SeatView) (job : Job) (most : ℕ) (new : SweepTries) where
  posted_stop : (climb : SeatView) (stop : LifeStop) → JobWasPosted ready climb job → climb.part.worker ≡ ready.part.worker → StallAfterSweeps gate climb (no_sweep_tries most) new stop
      → StallAfterPost gate ready job most new stop
  posted_stop climb (Fell down) posted own from = tt
  posted_stop climb (Ended down end) posted own from = λ stalled. elim (from stalled) [
    | inl swept ↦ inl (climb, posted, swept)
    | inr away ↦ inr (subst (λ (w : ℕ). GateTurnsAway gate w) own away)
  ]

  pub stalls_posted : (climb : SeatView) (r : Result SeatView LifeStop) → JobWasPosted ready climb job → climb.part.worker ≡ ready.part.worker
      → IfErr r (λ (stop : LifeStop). StallAfterSweeps gate climb (no_sweep_tries most) new stop) → IfErr r (λ (stop : LifeStop). StallAfterPost gate ready job most new stop)
  stalls_posted climb (Ok next) posted own from = from
  stalls_posted climb (Err stop) posted own from = posted_stop climb stop posted own from

  -- Then it has stalled.
  pub stalls_so : (stop : LifeStop) → StallAfterPost gate ready job most new stop → StopIsAStall gate ready.part.worker new stop
  stalls_so (Fell down) posted = tt
  stalls_so (Ended down end) posted = λ stalled. elim (posted stalled) [
    | inl its ↦ inl (let swept : AllSweepsWereMade its.0 down (no_sweep_tries most) new = its.2 in let all = swept.blocked in let same = swept.most in omega (arith, all, same))
    | inr away ↦ inr away
  ]

-- Sweeps that continue a count.
pub tried_on : (a b c : SweepTries) (x y z : SeatView) → b.most ≡ a.most → SweepsWereTried a b x y → SweepsWereTried b c y z → SweepsWereTried a c x z
tried_on a b c x y z same one two = record {
  few = λ few. (let mid = one.few few in let last = two.few (omega (arith, mid, same)) in omega (arith, last, same));
  steps = let first = one.steps in let then_ = two.steps in omega (arith, first, then_);
}

use Rattle.std.proofs.Common.{◌≡◌, ◌⊎◌, ℕ, ◌+◌, ◌<◌, ◌≤◌, List, refl, sym, subst, arith, inl, inr}
use Rattle.std.specs.Prelude.{slice_get, Option, Some, None}
use Rattle.rme_service_steps.specs.SeatViews.{ServiceId, SeatView}
use Rattle.rme_table.specs.declared.driving.SweepTries.{SweepTries}
use Rattle.rme_supervisor.specs.WorkerSlots.{SlotFollowsPlan, WorkerSlotView}
use Rattle.rme_supervisor.specs.Ends.{EndIsAllowed}
use Rattle.rme_supervisor.specs.Falling.{IsNextFall}
use Rattle.rme_supervisor.specs.declared.end.End.{End}
use Rattle.rme_supervisor.specs.declared.end.End.TheVariants.{Stalled}
use Rattle.rme_supervisor.proofs.Lives.{lived_ended, lived_fell}
use Rattle.rme_supervisor.proofs.worker_slot.SupervisedWorker.run_life.Goals as goal
use Rattle.rme_supervisor.proofs.worker_slot.SupervisedWorker.run_life.Goals.{in-Ended, in-Fell}

pub invariant_of-result : goal.invariant_of-result
invariant_of-result g c =
    let plan = c.args.orders.now.plan.now in
    let old : WorkerSlotView = record { stand = c.self.inside.kept.down; end = c.self.inside.end; blocked = c.self.inside.past.blocked; lives = c.self.inside.past.lives } in
    let P : WorkerSlotView → Type 0 = λ rest. slice_get g.K.RunTag.run.plans rest.stand.part.worker ≡ Some plan in
    let Q : WorkerSlotView → Type 0 = λ rest. rest.end ≡ None in
    let R : WorkerSlotView → Type 0 = λ rest. rest.lives < plan.lives in
    let N : List ℕ → Type 0 = λ counts. IsNextFall counts c.self.inside.past.lives c.next.result in
    let planned = subst P (sym c.self.view_is) c.requires.orders.planned in
    let none = subst Q (sym c.self.view_is) c.requires.more.0 in
    let more = subst R (sym c.self.view_is) c.requires.more.1 in
    let next = subst N c.as_slice.ensures.value c.next.ensures in
    let start : SweepTries = record { blocked = c.self.inside.past.blocked; most = plan.sweeps } in
    let new = c.run_life-stop.new.trail in
    let L : SeatView × Option End → Type 0 = λ its. SlotFollowsPlan g.K.Tag.ident.shape g.K.RunTag.run (record { stand = its.0; end = its.1; blocked = new.tries.blocked; lives = old.lives + 1 }) in
    elim c.match-stop.branch [
      | in-Ended w ↦
          let down = w.in-Ended.down in
          let so = w.in-Ended.ensures in
          let E : ServiceId → Type 0 = λ ident. EndIsAllowed ident.shape g.K.RunTag.run.rounds plan down.part.private.begun w.in-Ended.end in
          let F : ℕ → Type 0 = λ rounds. EndIsAllowed c.args.orders.now.service.now.shape rounds plan down.part.private.begun w.in-Ended.end in
          let stalled : w.in-Ended.end ≡ Stalled → (plan.sweeps ≤ new.tries.blocked) ⊎ g.K.RunTag.run.turned down.part.worker = λ same. elim (so.stalls same) [
            | inl all ↦ inl (let most = so.most in omega (arith, all, most))
            | inr away ↦ inr (subst (λ (w : ℕ). g.K.RunTag.run.turned w) (sym so.stop.0.own) (c.requires.orders.away _ away))
          ] in
          subst L (sym w.down-is)
          (lived_ended g.K.Tag.ident.shape g.K.RunTag.run old c.self.invariant plan planned none more down so.stop.0.own c.next.result new.falls next start new.tries refl refl so.tries
          w.in-Ended.end (subst E c.requires.orders.ours (subst F c.requires.orders.rounds_are so.stop.1)) so.stop.2 stalled so.falls)
      | in-Fell w ↦
          let so = w.in-Fell.ensures in
          subst L (sym w.down-is)
          (lived_fell g.K.Tag.ident.shape g.K.RunTag.run old c.self.invariant plan planned none more w.in-Fell.down so.stop.own c.next.result new.falls next start new.tries refl refl
          so.tries w.end_after.result w.end_after.ensures.some w.end_after.ensures.none so.falls)
    ]

use Rattle.std.proofs.Common.{ℕ, ◌∙◌, arith, refl, subst}
use Rattle.std.specs.Prelude.{Bool, false}
use Rattle.rme_table.specs.Driving.{DriveOutcome, GateWatches}
use Rattle.rme_table.proofs.GoingOn.{drives_on, exhausts_owning, goes_fell, goes_made, goes_none, goes_on, still_made, still_on, stops_inside}
use Rattle.rme_table.proofs.kinds.Climb.drive_waiting.Goals as goal

pub loop-blocked-init : goal.loop-blocked-init
loop-blocked-init g c = (
  goes_none c.args.service.now.shape c.args.self (g.C.Chance.tally c.args.chance.now),
  record { draft = refl; entries = refl; number = refl },
  refl,
  refl,
  omega arith,
  omega arith,
  omega arith,
  omega arith,
)

pub returns-in-Got-clause-drives : goal.returns-in-Got-clause-drives
returns-in-Got-clause-drives g c =
    let s = c.args.service.now.shape in
    let start = c.args.self in
    let climb = c.loop-blocked.climb in
    let held = c.in-Got.held in
    let old = g.C.Chance.tally c.args.chance.now in
    let before = g.C.Chance.tally c.loop-blocked.chance in
    let mid = g.C.Chance.tally c.try_enter.new.chance in
    let new = g.C.Chance.tally c.drive_owner.new.chance in
    let got = c.in-Got.ensures in
    let so = c.loop-blocked.invariant in
    let P : Bool → Type 0 = λ over. DriveOutcome s over held mid new c.drive_owner.result in
    drives_on s start held old mid new (goes_on s start climb held old before mid 0 so.0 (goes_made s climb held before mid _ _ got.1))
    (still_on start climb held so.1 (still_made s climb held before mid _ _ got.1 got.2)) c.drive_owner.result (subst P got.3 c.drive_owner.ensures.drives)

pub returns-in-Got-clause-watches : goal.returns-in-Got-clause-watches
returns-in-Got-clause-watches g c =
    let s = c.args.service.now.shape in
    let held = c.in-Got.held in
    let answered = g.G.Gate.answered c.args.gate.now in
    let told = g.G.Gate.told c.args.gate.now in
    let got = c.in-Got.ensures in
    let P : Bool → Type 0 = λ over. GateWatches answered told s over held.part.worker c.drive_owner.result in
    let Q : ℕ → Type 0 = λ worker. GateWatches answered told s false worker c.drive_owner.result in
    subst Q (got.1.stays.own ∙ c.loop-blocked.invariant.0.own) (subst P got.3 c.drive_owner.ensures.watches)

pub returns-in-Fell-clause-drives : goal.returns-in-Fell-clause-drives
returns-in-Fell-clause-drives g c =
    let s = c.args.service.now.shape in
    let climb = c.loop-blocked.climb in
    let old = g.C.Chance.tally c.args.chance.now in
    let before = g.C.Chance.tally c.loop-blocked.chance in
    let mid = g.C.Chance.tally c.try_enter.new.chance in
    goes_on s c.args.self climb c.in-Fell.down old before mid 1 c.loop-blocked.invariant.0 (goes_fell s climb c.in-Fell.down before mid _ c.in-Fell.ensures)

pub loop-blocked-preserved : goal.loop-blocked-preserved
loop-blocked-preserved g c =
    let s = c.args.service.now.shape in
    let start = c.args.self in
    let climb = c.loop-blocked.climb in
    let again = c.in-Blocked.again in
    let old = g.C.Chance.tally c.args.chance.now in
    let before = g.C.Chance.tally c.loop-blocked.chance in
    let mid = g.C.Chance.tally c.try_enter.new.chance in
    let made = c.in-Blocked.ensures in
    let so = c.loop-blocked.invariant in (
      goes_on s start climb again old before mid 0 so.0 (goes_made s climb again before mid _ _ made.1),
      still_on start climb again so.1 (still_made s climb again before mid _ _ made.1 made.2),
      so.2,
      refl,
      omega (arith, so.2, c.loop-blocked.auto.blocked, c.loop-blocked-test.true),
      omega (arith, so.5),
      omega (arith, so.3, so.6, made.3),
      omega (arith, made.1.enough, made.1.counted, so.3, so.7),
    )

pub returns-in-Got-clause-tries : goal.returns-in-Got-clause-tries
returns-in-Got-clause-tries g c = exhausts_owning c.args.self c.args.tries.now c.loop-blocked.tries c.drive_owner.result c.drive_owner.ensures.owns

pub returns-clause-tries : goal.returns-clause-tries
returns-clause-tries g c =
    let so = c.loop-blocked.invariant in record {
      most = so.2;
      blocked = omega (arith, so.2, so.3, so.4, c.loop-blocked.auto.blocked, c.loop-blocked-test.false);
      exact = omega (arith, so.2, so.3, so.4, so.6, c.loop-blocked.auto.blocked, c.loop-blocked-test.false);
      steps = omega (arith, so.2, so.3, so.4, so.7, c.loop-blocked.auto.blocked, c.loop-blocked-test.false);
    }

pub returns-in-Got-clause-stops : goal.returns-in-Got-clause-stops
returns-in-Got-clause-stops g c = stops_inside c.in-Got.held c.drive_owner.result c.in-Got.ensures.0 c.drive_owner.ensures.stops

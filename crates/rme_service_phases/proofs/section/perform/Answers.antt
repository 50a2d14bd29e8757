use Rattle.std.proofs.Common.{◌+◌, ◌*◌, refl, ap, arith}
use Rattle.rme_script.proofs.Rising.{cells_named_most}
use Rattle.rme_program.specs.Masks.{mask_of}
use Rattle.rme_program.specs.Phases.{mask_cells_below}
use Rattle.rme_program.specs.declared.stage.Stage.{Stage}
use Rattle.rme_service_steps.proofs.Chains.{falls_at, falls_on}
use Rattle.rme_service_phases.specs.Sections.{has_unfinished_job}
use Rattle.rme_service_phases.proofs.Outcomes.{passed_on, ends_with}
use Rattle.rme_service_phases.proofs.Parts.{stage_at, then_as}
use Rattle.rme_service_phases.proofs.Performed.{turn_may, turn_small, turn_even, turn_odd, performs_odd, performs_even, completes_from, falling_from}
use Rattle.rme_service_phases.proofs.section.perform.Goals as goal

pub load-requires-clause-may : goal.load-requires-clause-may
load-requires-clause-may g c = turn_may _ c.args.seat.now (g.C.Chance.tally c.args.chance.now) _ _ c.requires.at _ _ c.requires.lock c.shape.ensures c.turn_at-at.ensures

pub overflow_cast-turn : goal.overflow_cast-turn
overflow_cast-turn g c =
    let small = turn_small _ c.args.seat.now (g.C.Chance.tally c.args.chance.now) _ _ c.requires.at _ (g.C.Chance.tally c.load.new.chance) _ c.in_ok-turn.ensures in
    omega (arith, small)

pub returns-in_err-turn : goal.returns-in_err-turn
returns-in_err-turn g c = passed_on _ _ _ c.from_residual.ensures.0 (falls_at _ _ _ _ _ _ _ c.in_err-turn.ensures (omega arith))

pub read_script-requires-clause-waiting : goal.read_script-requires-clause-waiting
read_script-requires-clause-waiting g c =
    let one = turn_odd _ c.args.seat.now (g.C.Chance.tally c.args.chance.now) _ _ c.requires.at _ (g.C.Chance.tally c.load.new.chance) _ c.in_ok-turn.ensures c.if-turn-eq1.true in
    ap (λ (x : Stage). has_unfinished_job x) (stage_at one.at)

pub returns-then-turn-eq1 : goal.returns-then-turn-eq1
returns-then-turn-eq1 g c =
    let one = turn_odd _ c.args.seat.now (g.C.Chance.tally c.args.chance.now) _ _ c.requires.at _ (g.C.Chance.tally c.load.new.chance) _ c.in_ok-turn.ensures c.if-turn-eq1.true in
    ends_with _ _ _ _ _ c.complete.ensures (λ receipt rest. performs_odd _ _ _ _ _ _ _ _ _ _ _ _ _ _ one (completes_from c.read_script.ensures.same rest) refl refl)
    (λ fell. falls_on _ _ _ _ _ _ _ one (falling_from c.read_script.ensures.same fell) (omega arith))

pub returns-in_err-log : goal.returns-in_err-log
returns-in_err-log g c =
    let one = turn_even _ c.args.seat.now (g.C.Chance.tally c.args.chance.now) _ _ c.requires.at _ (g.C.Chance.tally c.load.new.chance) _ c.in_ok-turn.ensures (let odd = c.if-turn-eq1.false in omega (arith, odd)) in
    passed_on _ _ _ c.from_residual-in_err-log.ensures.0 (falls_on _ _ _ _ _ _ _ one c.in_err-log.ensures.logs (omega arith))

pub returns : goal.returns
returns g c =
    let one = turn_even _ c.args.seat.now (g.C.Chance.tally c.args.chance.now) _ _ c.requires.at _ (g.C.Chance.tally c.load.new.chance) _ c.in_ok-turn.ensures (let odd = c.if-turn-eq1.false in omega (arith, odd)) in
    let logs = c.in_ok-log.ensures.logs in
    let two = then_as {k = 5 + 3 * logs.script.n + mask_cells_below (mask_of logs.script.ops) c.args.service.now.shape.cells * 2} one logs.doing refl (omega arith) in
    let most = cells_named_most (mask_of logs.script.ops) c.args.service.now.shape.cells in
    let few = logs.good.few in
    ends_with _ _ _ _ _ c.complete-2.ensures (λ receipt rest. performs_even _ _ _ _ _ _ _ _ _ _ _ _ _ _ two rest logs.script (mask_of logs.script.ops) refl refl)
    (λ fell. falls_on _ _ _ _ _ _ _ two fell (omega (arith, most, few)))

use Rattle.std.proofs.Common.{refl, ap, arith}
use Rattle.rme_script.proofs.Rising.{cells_named_most}
use Rattle.rme_program.specs.declared.private.Private.{Private}
use Rattle.rme_program.specs.Masks.{mask_of}
use Rattle.rme_service_steps.proofs.Chains.{falls_on, falls_at}
use Rattle.rme_service_phases.specs.Sections.{has_unfinished_job}
use Rattle.rme_service_phases.proofs.Outcomes.{passed_on, ends_with}
use Rattle.rme_service_phases.proofs.Parts.{then_as}
use Rattle.rme_service_phases.proofs.Slated.{len_may, len_few, len_loaded, len_drafted, slate_known, good_script, script_count, script_drafted, on_ok, logs}
use Rattle.rme_service_phases.proofs.open_section.OpenSection.log.Goals as goal

pub load-requires-clause-may : goal.load-requires-clause-may
load-requires-clause-may g c =
    len_may _ c.args.seat.now (g.C.Chance.tally c.args.chance.now) _ _ _ c.requires.at _ _ _ c.shape-shape.ensures c.worker.ensures.worker c.slate_len_at-at.ensures

pub returns-in_err-operations-clause-logs : goal.returns-in_err-operations-clause-logs
returns-in_err-operations-clause-logs g c = passed_on _ _ _ c.from_residual.ensures.0 (falls_at _ _ _ _ _ _ _ c.in_err-operations.ensures (omega arith))

pub overflow_cast-operations : goal.overflow_cast-operations
overflow_cast-operations g c =
    let few = len_few _ c.args.seat.now (g.C.Chance.tally c.args.chance.now) _ _ _ c.requires.at _ (g.C.Chance.tally c.load.new.chance) _ c.in_ok-operations.ensures in omega (arith, few)

pub load_slate-requires-clause-few : goal.load_slate-requires-clause-few
load_slate-requires-clause-few g c = len_few _ c.args.seat.now (g.C.Chance.tally c.args.chance.now) _ _ _ c.requires.at _ (g.C.Chance.tally c.load.new.chance) _ c.in_ok-operations.ensures

pub returns-in_err-words-clause-logs : goal.returns-in_err-words-clause-logs
returns-in_err-words-clause-logs g c =
    let few = len_few _ c.args.seat.now (g.C.Chance.tally c.args.chance.now) _ _ _ c.requires.at _ (g.C.Chance.tally c.load.new.chance) _ c.in_ok-operations.ensures in
    let one = len_loaded _ c.args.seat.now (g.C.Chance.tally c.args.chance.now) _ _ _ c.requires.at _ _ _ c.in_ok-operations.ensures in
    let fell = c.in_err-words.ensures in
    passed_on _ _ _ c.from_residual-in_err-words.ensures.0 (falls_on _ _ _ _ _ _ _ one fell.loads (omega (arith, few)))

pub load_slate-requires-clause-operations : goal.load_slate-requires-clause-operations
load_slate-requires-clause-operations g c = len_drafted _ c.args.seat.now (g.C.Chance.tally c.args.chance.now) _ _ _ c.requires.at _ _ _ c.in_ok-operations.ensures

pub returns-clause-script : goal.returns-clause-script
returns-clause-script g c =
    let one = len_loaded _ c.args.seat.now (g.C.Chance.tally c.args.chance.now) _ _ _ c.requires.at _ _ _ c.in_ok-operations.ensures in
    let counted = len_drafted _ c.args.seat.now (g.C.Chance.tally c.args.chance.now) _ _ _ c.requires.at _ _ _ c.in_ok-operations.ensures in
    on_ok _ _ (script_drafted _ c.args.seat.now c.load.new.self _ _ _ c.requires.at.stood (ap (λ (q : Private). has_unfinished_job q.stage) c.requires.at.private) one.stays.draft counted c.in_ok-words.ensures.drafted
    (c.if-not-read_slate.ensures.read refl))

pub returns-clause-logs : goal.returns-clause-logs
returns-clause-logs g c =
    let few = len_few _ c.args.seat.now (g.C.Chance.tally c.args.chance.now) _ _ _ c.requires.at _ (g.C.Chance.tally c.load.new.chance) _ c.in_ok-operations.ensures in
    let one = len_loaded _ c.args.seat.now (g.C.Chance.tally c.args.chance.now) _ _ _ c.requires.at _ _ _ c.in_ok-operations.ensures in
    let loads = c.in_ok-words.ensures in
    let read = c.if-not-read_slate.ensures.read refl in
    let script = c.read_slate.new.script in
    let two = then_as one loads.loads (slate_known c.args.service.now.shape c.args.self.lock c.args.self.turn c.in_ok-operations.operations c.in_ok-words.words script read) refl in
    let good = good_script c.args.service.now.shape c.in_ok-operations.operations c.in_ok-words.words script loads.read read in
    let count = script_count c.in_ok-operations.operations c.in_ok-words.words script read in
    let most = cells_named_most (mask_of script.ops) c.args.service.now.shape.cells in
    ends_with _ _ _ _ _ c.run_and_log.ensures (λ _ last. logs script good (then_as two last refl (omega (arith, count)))) (λ fell. falls_on _ _ _ _ _ _ _ two fell (omega (arith, most, few)))

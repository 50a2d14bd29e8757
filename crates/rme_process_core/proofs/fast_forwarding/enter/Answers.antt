use Rattle.std.proofs.Common.{◌-◌, [], ◌∷◌, ℕ, List, arith}
use Rattle.rme_program.specs.declared.private.Private.{Private}
use Rattle.rme_program.specs.declared.stage.Stage.TheVariants.{Logging}
use Rattle.rme_program.specs.declared.stage.Log.TheVariants.{LoadTurn}
use Rattle.rme_program.specs.declared.note.Note.TheVariants.{Entered}
use Rattle.rme_process_core.specs.Runs.{private_at_stage, climbing_private}
use Rattle.rme_process_core.proofs.Led.{takes_run}
use Rattle.rme_process_core.proofs.Jumping.{in_led, led_rest}
use Rattle.rme_process_core.proofs.fast_forwarding.enter.Goals as goal

pub returns-clause-enters : goal.returns-clause-enters
returns-clause-enters c = λ some worker begun.
    let shape = c.args.shape.now in let lock = c.args.ascent.lock in let held = c.args.ascent.held in let values : List ℕ = c.args.values.now in
    let swaps : ℕ = shape.height - held in let loads = c.accept_loads.result in
    let start : Private = climbing_private worker begun lock held in let mid : Private = private_at_stage worker begun (Logging (LoadTurn lock)) in let next : Private = private_at_stage worker begun c.accept_loads.new.stage in
    takes_run shape start values swaps (Entered lock ∷ []) mid next
    (in_led shape worker begun lock held values swaps (omega (arith, c.requires.held)) c.requires.held c.if-values-swaps.false (c.are_free.ensures c.if-not-are_free.false))
    loads [] (led_rest shape mid values swaps loads [] next (c.accept_loads.ensures.loads worker begun))

pub returns-clause-stage : goal.returns-clause-stage
returns-clause-stage c = λ some begun. c.accept_loads.ensures.stage begun

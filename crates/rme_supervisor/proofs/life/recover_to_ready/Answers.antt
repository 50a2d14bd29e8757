use Rattle.std.proofs.Common.{subst}
use Rattle.rme_service_steps.specs.Parts.{restarted_part}
use Rattle.rme_table.specs.Calls.{seat_of_stance}
use Rattle.rme_table.specs.declared.kinds.Stance.{Stance}
use Rattle.rme_supervisor.specs.Falling.{CountdownWasAsked}
use Rattle.rme_supervisor.proofs.Fallen.{asked_walks, fared_on}
use Rattle.rme_supervisor.proofs.life.recover_to_ready.Goals as goal

pub returns-in-Ok-Climb-clause-falls : goal.returns-in-Ok-Climb-clause-falls
returns-in-Ok-Climb-clause-falls g c =
    let down = c.args.down in
    let old = c.args.trail.now.falls in
    let mid = c.recover.new.chance in
    let P : Stance → Type 0 = λ found. CountdownWasAsked old mid down (seat_of_stance found) 0 in
    let up : P c.in-Ok-Climb.field-0 = asked_walks c.args.orders.now.service.now.shape restarted_part old mid down (seat_of_stance c.in-Ok-Climb.field-0) 0 c.in-Ok-Climb.ensures.made.walks in
    fared_on old mid c.drive_climb.new.trail.falls down c.in-Ok-Climb.climb c.drive_climb.result (subst P c.in-Ok-Climb.field-0-is up) c.drive_climb.ensures.falls

pub returns-in-Ok-Held-clause-falls : goal.returns-in-Ok-Held-clause-falls
returns-in-Ok-Held-clause-falls g c =
    let down = c.args.down in
    let old = c.args.trail.now.falls in
    let mid = c.recover.new.chance in
    let P : Stance → Type 0 = λ found. CountdownWasAsked old mid down (seat_of_stance found) 0 in
    let up : P c.in-Ok-Held.field-0 = asked_walks c.args.orders.now.service.now.shape restarted_part old mid down (seat_of_stance c.in-Ok-Held.field-0) 0 c.in-Ok-Held.ensures.made.walks in
    fared_on old mid c.drive_held.new.trail.falls down c.in-Ok-Held.held c.drive_held.result (subst P c.in-Ok-Held.field-0-is up) c.drive_held.ensures.falls

pub returns-in-Ok-Leave-clause-falls : goal.returns-in-Ok-Leave-clause-falls
returns-in-Ok-Leave-clause-falls g c =
    let down = c.args.down in
    let old = c.args.trail.now.falls in
    let mid = c.recover.new.chance in
    let P : Stance → Type 0 = λ found. CountdownWasAsked old mid down (seat_of_stance found) 0 in
    let up : P c.in-Ok-Leave.field-0 = asked_walks c.args.orders.now.service.now.shape restarted_part old mid down (seat_of_stance c.in-Ok-Leave.field-0) 0 c.in-Ok-Leave.ensures.made.walks in
    fared_on old mid c.exit_finished.new.trail.falls down c.in-Ok-Leave.leave c.exit_finished.result (subst P c.in-Ok-Leave.field-0-is up) c.exit_finished.ensures.falls

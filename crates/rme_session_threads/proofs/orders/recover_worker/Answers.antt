use Rattle.rme_service_steps.specs.CallSteps.{seat_call}
use Rattle.std.proofs.Common.{◌≡◌, ◌+◌, subst}
use Rattle.rme_service_steps.specs.Parts.{restarted_part}
use Rattle.rme_table.specs.Calls.{PartKnowsNumber, CallIsDone, recover_steps, seat_of_stance}
use Rattle.rme_table.specs.declared.kinds.Stance.{Stance}
use Rattle.rme_session_threads.proofs.Planning.{uncounted}
use Rattle.rme_session_threads.proofs.Rising.{risen, risen_inside, risen_on}
use Rattle.rme_session_threads.proofs.orders.recover_worker.Goals as goal

pub returns-in-Ok-Held-clause-keeps : goal.returns-in-Ok-Held-clause-keeps
returns-in-Ok-Held-clause-keeps c =
    let shape = c.args.service.now.shape in
    let down = c.args.down in
    let up = c.in-Ok-Held.ensures in
    let P : Stance → Type 0 = λ found. CallIsDone (seat_call shape restarted_part down (seat_of_stance found) uncounted uncounted) 2 (shape.height + 3) in
    let Q : Stance → Type 0 = λ found. (seat_of_stance found).part.steps ≡ down.part.steps + recover_steps shape found in
    let N : Stance → Type 0 = λ found. PartKnowsNumber shape (seat_of_stance found).part in
    risen_inside shape down c.in-Ok-Held.held c.attach_inside.result.0 uncounted uncounted (shape.height + 3) (subst P c.in-Ok-Held.field-0-is up.made)
    (subst Q c.in-Ok-Held.field-0-is up.steps) (subst N c.in-Ok-Held.field-0-is up.number) c.attach_inside.ensures.keeps

pub returns-in-Ok-Leave-clause-keeps : goal.returns-in-Ok-Leave-clause-keeps
returns-in-Ok-Leave-clause-keeps c =
    let shape = c.args.service.now.shape in
    let down = c.args.down in
    let P : Stance → Type 0 = λ found. CallIsDone (seat_call shape restarted_part down (seat_of_stance found) uncounted uncounted) 2 (shape.height + 3) in
    let made = subst P c.in-Ok-Leave.field-0-is c.in-Ok-Leave.ensures.made in
    let up = risen_on shape down c.in-Ok-Leave.leave c.exit_now.result uncounted uncounted (shape.height + 3) made c.exit_now.ensures.keeps in
    rw c.attach_ready-in-Ok-Leave.ensures.0 up

pub returns-in-Ok-Ready-clause-keeps : goal.returns-in-Ok-Ready-clause-keeps
returns-in-Ok-Ready-clause-keeps c =
    let shape = c.args.service.now.shape in
    let down = c.args.down in
    let up = c.in-Ok-Ready.ensures in
    let P : Stance → Type 0 = λ found. CallIsDone (seat_call shape restarted_part down (seat_of_stance found) uncounted uncounted) 2 (shape.height + 3) in
    let N : Stance → Type 0 = λ found. PartKnowsNumber shape (seat_of_stance found).part in
    rw c.attach_ready.ensures.0 (risen shape down c.in-Ok-Ready.ready uncounted uncounted 2 (shape.height + 3) (subst P c.in-Ok-Ready.field-0-is up.made) (subst N c.in-Ok-Ready.field-0-is up.number))

pub returns-in-Ok-Climb-clause-keeps : goal.returns-in-Ok-Climb-clause-keeps
returns-in-Ok-Climb-clause-keeps c =
    let shape = c.args.service.now.shape in
    let down = c.args.down in
    let up = c.in-Ok-Climb.ensures in
    let P : Stance → Type 0 = λ found. CallIsDone (seat_call shape restarted_part down (seat_of_stance found) uncounted uncounted) 2 (shape.height + 3) in
    let Q : Stance → Type 0 = λ found. (seat_of_stance found).part.steps ≡ down.part.steps + recover_steps shape found in
    let N : Stance → Type 0 = λ found. PartKnowsNumber shape (seat_of_stance found).part in
    rw c.attach_waiting.ensures.0 (risen shape down c.in-Ok-Climb.climb uncounted uncounted 2 (shape.height + 3) (subst P c.in-Ok-Climb.field-0-is up.made) (subst N c.in-Ok-Climb.field-0-is up.number), subst Q c.in-Ok-Climb.field-0-is up.steps)

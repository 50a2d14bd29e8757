use Rattle.std.proofs.Common.{◌≡◌, ◌∙◌, sym}
use Rattle.std.specs.Prelude.{true, false}
use Rattle.rme_table.specs.Calls.{is_section_over}
use Rattle.rme_table.proofs.GoingOn.{asked_so, finishes_so, goes_fell, goes_made, goes_on, performed, same_number}
use Rattle.rme_table.proofs.kinds.Held.drive_owner.Goals as goal
use Rattle.rme_table.proofs.kinds.Held.drive_owner.Goals.{else-not-finished-via-then-not-finished+else-not-inside, else-not-finished-via-else-not-finished}

pub returns-in-Ok-exit-clause-drives : goal.returns-in-Ok-exit-clause-drives
returns-in-Ok-exit-clause-drives g c =
    let s = c.args.service.now.shape in
    let over = is_section_over c.args.self.part.private.stage in
    let leave = c.in-Ok.done.0 in
    let ready = c.in-Ok-exit.ready in
    let old = g.C.Chance.tally c.args.chance.now in
    let mid = g.C.Chance.tally c.perform.new.chance in
    let new = g.C.Chance.tally c.exit.new.chance in
    let receipt = c.in-Ok.done.1 in
    let exited = c.in-Ok-exit.ensures.made in (
      goes_on s c.args.self leave ready old mid new 0 (performed s c.args.self leave old mid receipt over c.in-Ok.ensures) (goes_made s leave ready mid new _ _ exited),
      finishes_so s c.args.self leave old mid receipt ready over c.in-Ok.ensures exited.stays.entries,
      c.in-Ok-exit.ensures.number ∙ same_number s c.args.self leave old mid receipt over c.in-Ok.ensures,
    )

pub returns-in-Err-exit-clause-drives : goal.returns-in-Err-exit-clause-drives
returns-in-Err-exit-clause-drives g c =
    let s = c.args.service.now.shape in
    let over = is_section_over c.args.self.part.private.stage in
    let leave = c.in-Ok.done.0 in
    let down = c.in-Err-exit.down in
    let old = g.C.Chance.tally c.args.chance.now in
    let mid = g.C.Chance.tally c.perform.new.chance in
    let new = g.C.Chance.tally c.exit.new.chance in
    goes_on s c.args.self leave down old mid new 1 (performed s c.args.self leave old mid c.in-Ok.done.1 over c.in-Ok.ensures) (goes_fell s leave down mid new _ c.in-Err-exit.ensures.made)

pub returns-then-not-inside-clause-watches : goal.returns-then-not-inside-clause-watches
returns-then-not-inside-clause-watches g c =
    asked_so (g.G.Gate.answered c.args.gate.now) _ c.args.service.now c.args.self.part c.worker.result c.lock.result false c.requires.ours c.worker.ensures.worker c.lock.ensures c.if-not-inside.ensures.answered

pub returns-in-Ok-exit-clause-watches : goal.returns-in-Ok-exit-clause-watches
returns-in-Ok-exit-clause-watches g c = (
  λ pending. elim c.else-not-finished.branch [
    | else-not-finished-via-then-not-finished+else-not-inside w ↦
        asked_so (g.G.Gate.answered c.args.gate.now) _ c.args.service.now c.args.self.part w.worker.result w.lock.result true c.requires.ours w.worker.ensures.worker w.lock.ensures w.if-not-inside.ensures.answered
    | else-not-finished-via-else-not-finished w ↦ absurd (let bad : true ≡ false = sym w.if-not-finished.false ∙ c.finished.ensures ∙ pending in cc)
  ],
  c.over.ensures,
)

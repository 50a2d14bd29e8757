use Rattle.std.proofs.Common.{[], ◌∷◌, ap, ◌∙◌}
use Rattle.rme_program.specs.declared.note.Note.TheVariants.{Ready}
use Rattle.rme_program.specs.declared.stage.Stage.TheVariants.{Resting, Leaving}
use Rattle.rme_program.specs.declared.stage.Departure.TheVariants.{Clear}
use Rattle.rme_program.specs.Conditions.{IsPrivate}
use Rattle.rme_process_core.specs.Runs.{NotesWritten, private_at_stage}
use Rattle.rme_process_core.proofs.Led.{jumps_none, writes_one}
use Rattle.rme_process_core.proofs.Jumping.{private_at, jumps_at, clears_jumps}
use Rattle.rme_process_core.proofs.fast_forwarding.fast_forward_exit.Goals as goal

pub returns-in_default : goal.returns-in_default
returns-in_default c = jumps_none c.args.shape.now c.args.private.now c.args.values.now c.args.outcome.now c.requires.private

pub returns-in_default-departure : goal.returns-in_default-departure
returns-in_default-departure c = jumps_none c.args.shape.now c.args.private.now c.args.values.now c.args.outcome.now c.requires.private

pub returns-then-level-shape : goal.returns-then-level-shape
returns-then-level-shape c = jumps_none c.args.shape.now c.args.private.now c.args.values.now c.args.outcome.now c.requires.private

pub returns : goal.returns
returns c =
    let shape = c.args.shape.now in let private = c.args.private.now in let level = c.in-Clear.level in let lock = c.in-Clear.lock in
    let before = c.args.outcome.now in let after = c.put.new.outcome in
    let here = c.in-Leaving.is ∙ ap Leaving c.in-Clear.is in
    let is : IsPrivate shape (private_at_stage private.worker private.begun (Leaving (Clear lock level))) = private_at shape private (Leaving (Clear lock level)) here c.requires.private in
    let writes : NotesWritten before (Ready ∷ []) after = writes_one before after c.flat_number_note.result Ready c.flat_number_note.ensures c.put.ensures.told c.put.ensures.count in
    jumps_at shape private (Leaving (Clear lock level)) here c.args.values.now level before (private_at_stage private.worker private.begun Resting) after
    (clears_jumps shape private.worker private.begun lock c.args.values.now level before after c.if-level-shape.false c.if-values-level.false writes is)

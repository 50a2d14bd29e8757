use Rattle.rme_program.proofs.Turns.{follows_by}
use Rattle.rme_program.proofs.Falls.{track_by, steps_by}
use Rattle.rme_program.proofs.steps.after.Goals as goal

pub returns-clause-row : goal.returns-clause-row
returns-clause-row c =
    follows_by c.args.shape c.args.private.now c.args.value c.begun_after-begun.result (c.stage_after-note.new.stage, c.stage_after-note.result) c.begun_after-begun.ensures.begun c.stage_after-note.ensures.after
    c.requires.private c.begun_after-begun.ensures.few c.stage_after-note.ensures.stage c.begun_after-begun.ensures.stage

pub returns-clause-track : goal.returns-clause-track
returns-clause-track c = λ on.
    track_by c.args.shape c.args.private.now c.args.value (c.stage_after-note.new.stage, c.stage_after-note.result) c.stage_after-note.ensures.after c.requires.private c.requires.value on

pub returns-clause-falls : goal.returns-clause-falls
returns-clause-falls c = λ on busy.
    (steps_by c.args.shape c.args.private.now c.args.value (c.stage_after-note.new.stage, c.stage_after-note.result) c.stage_after-note.ensures.after c.requires.private c.requires.value on busy).falls

pub returns-clause-counts : goal.returns-clause-counts
returns-clause-counts c = λ on busy.
    (steps_by c.args.shape c.args.private.now c.args.value (c.stage_after-note.new.stage, c.stage_after-note.result) c.stage_after-note.ensures.after c.requires.private c.requires.value on busy).counts

use Rattle.std.proofs.Common.{◌+◌, String, Global, drop, get_or, string_bytes, subst, sym}
use Rattle.std.proofs.lemmas.List.{drop_more}
use Rattle.rme_program.specs.declared.note.Note.TheVariants.{Quiet}
use Rattle.rme_line_engine.proofs.ToldLemmas.{Told, shown_loud, told_note, told_quiet}
use Rattle.rme_line_engine.proofs.event_lines.push_notes.Goals as goal
use Rattle.rme_line_engine.proofs.event_lines.push_notes.Goals.{in-Quiet, in_default+in_ok-push_line-in_default}

pub loop-note-preserved : goal.loop-note-preserved
loop-note-preserved c =
    let names = c.args.names.now in
    let notes = c.args.notes.now in
    let at = c.loop-note.note-index in
    let start = string_bytes c.args.out.now in
    let P : String Global → Type 0 = λ o. Told names c.args.worker start notes (string_bytes o) (drop (at + 1) notes) in
    let so_far = rw (drop_more notes at Quiet c.loop-note-test.true) at c.loop-note.invariant in
    elim c.match-note.branch [
      | in-Quiet w ↦ subst P (sym w.out-is) (told_quiet names c.args.worker start notes (string_bytes c.loop-note.out) (get_or notes at Quiet) (drop (at + 1) notes) w.in-Quiet.is so_far)
      | in_default+in_ok-push_line-in_default w ↦ subst P (sym w.out-is) (told_note names c.args.worker start notes (string_bytes c.loop-note.out) (string_bytes w.push_line.new.out) (get_or notes at Quiet) (drop (at + 1) notes) (shown_loud (get_or notes at Quiet) w.in_default.not-Quiet) w.in_ok-push_line-in_default.ensures so_far)
    ]

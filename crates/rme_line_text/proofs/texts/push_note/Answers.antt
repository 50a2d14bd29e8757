use Rattle.rme_line_text.proofs.texts.push_note.Goals as goal

pub returns-in-Reentered : goal.returns-in-Reentered
returns-in-Reentered c = rw (c.in-Reentered.is, ← c.lock_name-in-Reentered.ensures) c.push_lock_note-in-Reentered.ensures

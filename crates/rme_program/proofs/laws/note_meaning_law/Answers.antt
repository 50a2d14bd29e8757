use Rattle.rme_program.proofs.NoteLaws.{note_law}
use Rattle.rme_program.proofs.laws.note_meaning_law.Goals as goal

pub returns : goal.returns
returns c = note_law

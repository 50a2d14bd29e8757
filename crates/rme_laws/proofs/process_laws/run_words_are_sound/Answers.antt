use Rattle.rme_laws.proofs.Runs.{sound_run_law}
use Rattle.rme_laws.proofs.process_laws.run_words_are_sound.Goals as goal

pub returns : goal.returns
returns c = sound_run_law

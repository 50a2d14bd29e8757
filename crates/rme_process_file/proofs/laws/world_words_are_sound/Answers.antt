use Rattle.rme_process_file.proofs.Sounding.{sound_world}
use Rattle.rme_process_file.proofs.laws.world_words_are_sound.Goals as goal

pub returns : goal.returns
returns c = sound_world

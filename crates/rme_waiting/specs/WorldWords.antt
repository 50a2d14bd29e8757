-- The words of a world, as a bank has them.
use Rattle.rme_words.specs.Words.{Memory}
use Rattle.rme_world.specs.WorldViews.{WorldView}

abbrev pub world_bank : WorldView → Memory
world_bank seen = record { shape = seen.shape; words = seen.words }

use Rattle.std.proofs.Common.{◌≡◌, length, take}
use Rattle.rme_words.specs.Words.{memory_of}
use Rattle.rme_machine.specs.Views.{slate_of_worker}
use Rattle.rme_core_image_check.proofs.slates.slate_words.Given as goal

abbrev pub invariant-loop-i : goal.invariant-loop-i
invariant-loop-i l = (length l.words ≡ 24) × (take l.i l.words ≡ take l.i (slate_of_worker (memory_of l.bank) l.worker))

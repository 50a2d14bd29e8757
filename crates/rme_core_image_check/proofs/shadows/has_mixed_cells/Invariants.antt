use Rattle.std.proofs.Common.{◌≡◌, ◌⊎◌, ℕ, ◌<◌}
use Rattle.std.specs.Prelude.{slice_index}
use Rattle.rme_words.specs.Words.{memory_of}
use Rattle.rme_words.specs.declared.address.Address.TheVariants.{Cell}
use Rattle.rme_core_image_check.proofs.shadows.has_mixed_cells.Given as goal

abbrev pub invariant-loop-c : goal.invariant-loop-c
invariant-loop-c l = (c : ℕ) → c < l.c → (memory_of l.bank (Cell l.lock c) ≡ slice_index l.before c) ⊎ (memory_of l.bank (Cell l.lock c) ≡ slice_index l.after c)

use Rattle.std.proofs.Common.{◌≡◌, ℕ, ◌<◌}
use Rattle.std.specs.Prelude.{true, slice_index}
use Rattle.rme_words.specs.Words.{memory_of}
use Rattle.rme_words.specs.declared.address.Address.TheVariants.{Shadow}
use Rattle.rme_script.specs.Cells.{mask_has_cell}
use Rattle.rme_core_image_check.proofs.shadows.has_shadows.Given as goal

abbrev pub invariant-loop-c : goal.invariant-loop-c
invariant-loop-c l = (c : ℕ) → c < l.c → mask_has_cell l.mask c ≡ true → memory_of l.bank (Shadow l.lock c) ≡ slice_index l.row c

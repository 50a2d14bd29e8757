use Rattle.std.proofs.Common.{ℕ, ◌<◌}
use Rattle.rme_core_image_check.proofs.Shadowing.{IsCoveredAt}
use Rattle.rme_core_image_check.proofs.shadows.is_mask_covering.Given as goal

abbrev pub invariant-loop-c : goal.invariant-loop-c
invariant-loop-c l = (c : ℕ) → c < l.c → IsCoveredAt l.shape l.mask l.script.ops c

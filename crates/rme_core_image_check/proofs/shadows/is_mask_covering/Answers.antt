use Rattle.std.proofs.Common.{sym, ◌∙◌}
use Rattle.rme_core_image_check.proofs.Answering.{yes_to}
use Rattle.rme_core_image_check.proofs.Rising.{up_to}
use Rattle.rme_core_image_check.proofs.Shadowing.{IsCoveredAt, covered_set, covered_off, covered_all}
use Rattle.rme_core_image_check.proofs.shadows.is_mask_covering.Goals as goal
use Rattle.rme_core_image_check.proofs.shadows.is_mask_covering.Goals.{then-has_cell+else-c-shape, else-has_cell+else-has_cell-2}

pub loop-c-preserved : goal.loop-c-preserved
loop-c-preserved c =
    up_to (IsCoveredAt c.args.shape c.args.mask c.args.script.now.ops) c.loop-c.c c.loop-c.invariant
    elim c.if-has_cell.branch [
      | then-has_cell+else-c-shape w ↦ covered_set _ _ _ _ (sym c.has_cell.ensures ∙ w.if-has_cell.true) w.if-c-shape.false
      | else-has_cell+else-has_cell-2 w ↦
          covered_off _ _ c.named-wanted.result _ _ c.named-wanted.ensures.mask (sym c.has_cell.ensures ∙ w.if-has_cell.false) (sym w.has_cell-else-has_cell.ensures ∙ w.if-has_cell-2.false)
    ]

pub returns : goal.returns
returns c = yes_to (covered_all c.args.shape c.args.mask c.loop-c.c c.args.script.now c.ranges.mask.fits c.requires c.loop-c-test.false c.loop-c.invariant)

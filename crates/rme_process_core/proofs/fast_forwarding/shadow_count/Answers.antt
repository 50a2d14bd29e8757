use Rattle.std.proofs.Common.{◌+◌, ℕ, sym, subst, arith}
use Rattle.std.specs.Prelude.{Option}
use Rattle.rme_program.proofs.Firsts.{first_some}
use Rattle.rme_program.specs.Masks.{first_cell}
use Rattle.rme_program.specs.declared.stage.Stage.TheVariants.{Logging}
use Rattle.rme_program.specs.declared.stage.Log.TheVariants.{StoreShadows}
use Rattle.rme_program.specs.Steps.{shadow_stage_from}
use Rattle.rme_process_core.specs.Runs.{private_at_stage, QuietStepsLeadTo}
use Rattle.rme_process_core.proofs.Led.{blind_none, blind_more}
use Rattle.rme_process_core.proofs.Finishing.{shadow_goes}
use Rattle.rme_process_core.proofs.fast_forwarding.shadow_count.Goals as goal

pub loop-next-init : goal.loop-next-init
loop-next-init c =
    let shape = c.args.shape.now in let named = c.args.named in let cell = c.args.cell in
    record {
      blind = λ worker begun visit row reply.
          blind_more shape (private_at_stage worker begun (Logging (StoreShadows visit named row reply cell))) 0 (private_at_stage worker begun (Logging (StoreShadows visit named row reply cell)))
          (private_at_stage worker begun (shadow_stage_from visit named row reply (first_cell named (cell + 1) shape.cells))) (blind_none shape (private_at_stage worker begun (Logging (StoreShadows visit named row reply cell))))
          (λ value. shadow_goes shape worker begun visit named reply cell value row);
      few = omega arith;
      below = c.requires;
    }

pub loop-next-smaller : goal.loop-next-smaller
loop-next-smaller c =
    let later = first_some c.args.named (c.loop-next.at + 1) c.args.shape.now.cells c.in-Some.next (omega (arith, c.loop-next.invariant.below)) (sym c.in-Some.ensures.first) in
    omega (arith, later.after, later.below)

pub loop-next-preserved : goal.loop-next-preserved
loop-next-preserved c =
    let shape = c.args.shape.now in let named = c.args.named in let cell = c.args.cell in let at = c.loop-next.at in let next = c.in-Some.next in
    let later = first_some named (at + 1) shape.cells next (omega (arith, c.loop-next.invariant.below)) (sym c.in-Some.ensures.first) in
    record {
      blind = λ worker begun visit row reply.
          let P : Option ℕ → Type 0 = λ o. QuietStepsLeadTo shape (private_at_stage worker begun (Logging (StoreShadows visit named row reply cell))) c.loop-next.count (private_at_stage worker begun (shadow_stage_from visit named row reply o)) in
          blind_more shape (private_at_stage worker begun (Logging (StoreShadows visit named row reply cell))) c.loop-next.count (private_at_stage worker begun (Logging (StoreShadows visit named row reply next)))
          (private_at_stage worker begun (shadow_stage_from visit named row reply (first_cell named (next + 1) shape.cells))) (subst P (sym c.in-Some.ensures.first) (c.loop-next.invariant.blind worker begun visit row reply))
          (λ value. shadow_goes shape worker begun visit named reply next value row);
      few = omega (arith, c.loop-next.invariant.few, later.after);
      below = later.below;
    }

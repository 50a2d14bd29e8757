use Rattle.std.proofs.Common.{◌≡◌, ◌≤◌, ◌+◌, ◌++◌, [], ◌∷◌, ℕ, List, sym, ap, subst, ◌∙◌, arith}
use Rattle.std.specs.Prelude.{Option, Some, slice_index}
use Rattle.rme_program.proofs.Firsts.{first_some}
use Rattle.rme_program.specs.declared.private.Private.{Private}
use Rattle.rme_program.specs.Steps.{shadow_stage_from}
use Rattle.rme_program.specs.Masks.{first_cell}
use Rattle.rme_words.specs.declared.address.Address.TheVariants.{Shadow}
use Rattle.rme_words.specs.Words.{word_number}
use Rattle.rme_process_core.specs.declared.flat.FlatAction.{FlatAction}
use Rattle.rme_process_core.specs.Flat.{flat_store}
use Rattle.rme_process_core.specs.Batches.{batch_actions}
use Rattle.rme_process_core.specs.Runs.{PredictsUpTo, private_at_stage}
use Rattle.rme_process_core.proofs.Telling.{leads_more}
use Rattle.rme_process_core.proofs.Finishing.{shadow_step}
use Rattle.rme_process_core.proofs.stores.predict_shadow_stores.Goals as goal

pub put-requires-in-Some : goal.put-requires-in-Some
put-requires-in-Some c =
    let later = first_some c.args.section.now.named (c.loop-next.at + 1) c.args.context.shape.cells c.in-Some.next (omega (arith, c.loop-next.invariant.below)) (sym c.in-Some.ensures.first) in
    (omega arith, omega (arith, c.loop-next.invariant.few, later.after, later.below, c.requires.room))

pub loop-next-smaller : goal.loop-next-smaller
loop-next-smaller c =
    let later : c.loop-next.at + 1 ≤ c.in-Some.next =
    (first_some c.args.section.now.named (c.loop-next.at + 1) c.args.context.shape.cells c.in-Some.next (omega (arith, c.loop-next.invariant.below)) (sym c.in-Some.ensures.first)).after in
    omega (arith, later, c.in-Some.ensures.below, c.loop-next.invariant.below)

pub loop-next-preserved : goal.loop-next-preserved
loop-next-preserved c =
    let shape = c.args.context.shape in let visit = c.args.section.now.visit in let named = c.args.section.now.named in let row = c.args.section.now.row in let at = c.loop-next.at in let next = c.in-Some.next in
    let told : List FlatAction = batch_actions c.loop-next.batch in
    let action : FlatAction = flat_store (word_number shape (Shadow visit.lock next)) (slice_index row next) in
    let is : batch_actions c.put-in-Some.new.batch ≡ told ++ action ∷ [] =
    c.put-in-Some.ensures.told ∙ ap (λ (a : FlatAction). told ++ a ∷ [])
    (c.store-in-Some.ensures ∙ ap (λ (w : ℕ). flat_store w c.get-in-Some.result) c.shadow_at-in-Some.ensures ∙ ap (λ (v : ℕ). flat_store (word_number shape (Shadow visit.lock next)) v) c.get-in-Some.ensures) in
    let later : at + 1 ≤ next = (first_some named (at + 1) shape.cells next (omega (arith, c.loop-next.invariant.below)) (sym c.in-Some.ensures.first)).after in
    record {
      leads = λ start worker begun reply leads.
          let here : ℕ → Private = λ cell. private_at_stage worker begun (shadow_stage_from visit named row reply (Some cell)) in
          let P : Option ℕ → Type 0 = λ o. PredictsUpTo shape c.args.context.until start told (private_at_stage worker begun (shadow_stage_from visit named row reply o)) in
          leads_more shape c.args.context.until start told (here next) (subst P (sym c.in-Some.ensures.first) (c.loop-next.invariant.leads start worker begun reply leads)) action (batch_actions c.put-in-Some.new.batch) is
          (private_at_stage worker begun (shadow_stage_from visit named row reply (first_cell named (next + 1) shape.cells))) (shadow_step shape worker begun visit named reply next row);
      few = omega (arith, c.put-in-Some.ensures.count, c.loop-next.invariant.few, later);
      below = c.in-Some.ensures.below;
    }

pub returns-clause-leads : goal.returns-clause-leads
returns-clause-leads c = λ start worker begun reply leads.
    let P : Option ℕ → Type 0 = λ o. PredictsUpTo c.args.context.shape c.args.context.until start (batch_actions c.loop-next.batch) (private_at_stage worker begun (shadow_stage_from c.args.section.now.visit c.args.section.now.named c.args.section.now.row reply o)) in
    subst P (sym c.in_default.ensures.first) (c.loop-next.invariant.leads start worker begun reply leads)

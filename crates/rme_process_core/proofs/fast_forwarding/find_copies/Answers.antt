use Rattle.std.proofs.Common.{◌≡◌, ◌+◌, ◌≤◌, ℕ, List, [], ◌∷◌, length, take, sym, subst, ◌∙◌, arith}
use Rattle.std.specs.Prelude.{slice_index}
use Rattle.rme_program.proofs.Firsts.{first_some}
use Rattle.rme_program.specs.Masks.{first_cell}
use Rattle.rme_program.specs.declared.note.Note.{Note}
use Rattle.rme_program.specs.declared.note.Note.TheVariants.{Quiet}
use Rattle.rme_program.specs.declared.private.Private.{Private}
use Rattle.rme_program.specs.declared.stage.Stage.TheVariants.{Copying}
use Rattle.rme_program.specs.declared.stage.Redo.TheVariants.{LoadMask, StoreCell, LoadReply, StoreReply, StorePlace, StoreAt, StoreDone}
use Rattle.rme_program.specs.Steps.{copy_stage_from, finish_outcome}
use Rattle.rme_process_core.specs.Runs.{private_at_stage, ValuesLeadTo}
use Rattle.rme_process_core.proofs.Telling.{Goes}
use Rattle.rme_process_core.proofs.Led.{not_empty, takes_none, takes_one, takes_noted, takes_there}
use Rattle.rme_process_core.proofs.Finishing.{mask_load_goes, copy_load_goes, copy_goes, copies_made, reply_load_goes, reply_goes, place_goes, at_goes, done_goes}
use Rattle.rme_process_core.proofs.fast_forwarding.find_copies.Goals as goal

pub loop-cell-init : goal.loop-cell-init
loop-cell-init c =
    let shape = c.args.shape.now in let named = c.args.named in let values : List ℕ = c.args.values.now in
    let some : 1 ≤ length values = not_empty values (sym c.if-is_empty.false ∙ c.is_empty.ensures) in
    record {
      takes = λ worker begun visit.
          let V : ℕ → Type 0 = λ v. Goes shape (private_at_stage worker begun (Copying (LoadMask visit))) v Quiet (λ p. p ≡ private_at_stage worker begun (copy_stage_from visit named (first_cell named 0 shape.cells))) in
          takes_one shape (private_at_stage worker begun (Copying (LoadMask visit))) values 0 (private_at_stage worker begun (Copying (LoadMask visit))) (private_at_stage worker begun (copy_stage_from visit named (first_cell named 0 shape.cells)))
          (takes_none shape (private_at_stage worker begun (Copying (LoadMask visit)))) some (subst V (sym c.if-values-named.false) (mask_load_goes shape worker begun visit named));
      within = some;
      from_within = omega arith;
    }

pub loop-cell-smaller : goal.loop-cell-smaller
loop-cell-smaller c =
    let below = first_some c.args.named c.loop-cell.from c.args.shape.now.cells c.in-Some.cell c.loop-cell.invariant.from_within (sym c.in-Some.ensures.first) in
    omega (arith, below.after, below.below)

pub loop-cell-preserved : goal.loop-cell-preserved
loop-cell-preserved c =
    let shape = c.args.shape.now in let named = c.args.named in let from = c.loop-cell.from in let cell = c.in-Some.cell in let values : List ℕ = c.args.values.now in let count = c.loop-cell.count in
    let below = first_some named from shape.cells cell c.loop-cell.invariant.from_within (sym c.in-Some.ensures.first) in
    let value : ℕ = slice_index values count in
    let two : count + 1 + 1 ≡ count + 2 = omega arith in
    record {
      takes = λ worker begun visit.
          let start : Private = private_at_stage worker begun (Copying (LoadMask visit)) in
          let here : Private = private_at_stage worker begun (copy_stage_from visit named (first_cell named from shape.cells)) in
          let loaded : Private = private_at_stage worker begun (Copying (StoreCell visit named cell value)) in
          let there : Private = private_at_stage worker begun (copy_stage_from visit named (first_cell named (cell + 1) shape.cells)) in
          let P : ℕ → Type 0 = λ k. ValuesLeadTo shape start (take k values) [] there in
          subst P two (takes_one shape start values (count + 1) loaded there
          (takes_one shape start values count here loaded (c.loop-cell.invariant.takes worker begun visit) (omega (arith, c.if-values-count.false))
          (copy_load_goes shape worker begun visit named from cell (sym c.in-Some.ensures.first) value))
          (omega (arith, c.if-values-count.false)) (copy_goes shape worker begun visit named cell value (slice_index values (count + 1))));
      within = omega (arith, c.if-values-count.false);
      from_within = omega (arith, below.below);
    }

pub returns-clause-takes : goal.returns-clause-takes
returns-clause-takes c = λ worker begun visit.
    let shape = c.args.shape.now in let named = c.args.named in let reply = c.args.reply in let from = c.loop-cell.from in let values : List ℕ = c.args.values.now in let count = c.loop-cell.count in
    let enough : count + 5 ≤ length values = c.if-values-count-3.false in
    let start : Private = private_at_stage worker begun (Copying (LoadMask visit)) in
    let load : Private = private_at_stage worker begun (Copying (LoadReply visit named)) in
    let a : Private = private_at_stage worker begun (Copying (StoreReply visit named reply)) in
    let b : Private = private_at_stage worker begun (Copying (StorePlace visit named reply)) in
    let d : Private = private_at_stage worker begun (Copying (StoreAt visit named reply)) in
    let done : Private = private_at_stage worker begun (Copying (StoreDone visit named reply)) in
    let out : Private = private_at_stage worker begun (finish_outcome worker begun visit reply).0 in
    let note : Note = (finish_outcome worker begun visit reply).1 in
    let V : ℕ → Type 0 = λ v. Goes shape load v Quiet (λ p. p ≡ a) in
    let P : ℕ → Type 0 = λ k. ValuesLeadTo shape start (take k values) (note ∷ []) out in
    let five : count + 1 + 1 + 1 + 1 + 1 ≡ count + 5 = omega arith in
    let zeroth : ValuesLeadTo shape start (take count values) [] load =
    takes_there shape start (take count values) [] (private_at_stage worker begun (copy_stage_from visit named (first_cell named from shape.cells))) load
    (copies_made shape worker begun visit named from (sym c.in_default.ensures.first)) (c.loop-cell.invariant.takes worker begun visit) in
    let first : ValuesLeadTo shape start (take (count + 1) values) [] a =
    takes_one shape start values count load a zeroth (omega (arith, enough)) (subst V (sym c.if-values-count-4.false) (reply_load_goes shape worker begun visit named reply)) in
    let second : ValuesLeadTo shape start (take (count + 1 + 1) values) [] b =
    takes_one shape start values (count + 1) a b first (omega (arith, enough)) (reply_goes shape worker begun visit named reply (slice_index values (count + 1))) in
    let third : ValuesLeadTo shape start (take (count + 1 + 1 + 1) values) [] d =
    takes_one shape start values (count + 1 + 1) b d second (omega (arith, enough)) (place_goes shape worker begun visit named reply (slice_index values (count + 1 + 1))) in
    let fourth : ValuesLeadTo shape start (take (count + 1 + 1 + 1 + 1) values) [] done =
    takes_one shape start values (count + 1 + 1 + 1) d done third (omega (arith, enough)) (at_goes shape worker begun visit named reply (slice_index values (count + 1 + 1 + 1))) in
    subst P five (takes_noted shape start values (count + 1 + 1 + 1 + 1) [] done out fourth (omega (arith, enough)) note (done_goes shape worker begun visit named reply (slice_index values (count + 1 + 1 + 1 + 1))))

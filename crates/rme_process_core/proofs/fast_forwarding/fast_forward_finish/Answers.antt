use Rattle.std.proofs.Common.{◌≤◌, ◌+◌, ◌-◌, ◌/◌, [], ◌∷◌, ℕ, List, length, drop, ap, sym, subst, ◌∙◌, arith}
use Rattle.rme_program.specs.declared.private.Private.{Private}
use Rattle.rme_program.specs.declared.stage.Stage.{Stage}
use Rattle.rme_program.specs.declared.stage.Stage.TheVariants.{Logging, Copying, Leaving}
use Rattle.rme_program.specs.declared.stage.Log.TheVariants.{StoreShadows}
use Rattle.rme_program.specs.declared.stage.Redo.TheVariants.{LoadMask}
use Rattle.rme_program.specs.declared.stage.Departure.TheVariants.{LoadExitTurn}
use Rattle.rme_program.specs.declared.note.Note.TheVariants.{Left}
use Rattle.rme_program.specs.Conditions.{IsPrivate}
use Rattle.rme_program.specs.Steps.{finish_outcome, clear_stage}
use Rattle.rme_process_core.specs.Runs.{private_at_stage, FastForward, noted}
use Rattle.rme_process_core.specs.ExpectedSlates.{ValuesFreeRoot}
use Rattle.std.proofs.lemmas.List.{take_rest}
use Rattle.rme_process_core.proofs.Led.{jumps_none, takes_run, writes_one, writes_then}
use Rattle.rme_process_core.proofs.Jumping.{finish_led, root_led, cleared_private, led_rest, rest_within, private_at, jumps_at}
use Rattle.rme_process_core.proofs.fast_forwarding.fast_forward_finish.Goals as goal

pub returns-in_default : goal.returns-in_default
returns-in_default c = jumps_none c.args.shape.now c.args.private.now c.args.values.now c.args.outcome.now c.requires.private

pub returns-in_default-log : goal.returns-in_default-log
returns-in_default-log c = jumps_none c.args.shape.now c.args.private.now c.args.values.now c.args.outcome.now c.requires.private

pub returns-then-values-stores : goal.returns-then-values-stores
returns-then-values-stores c = jumps_none c.args.shape.now c.args.private.now c.args.values.now c.args.outcome.now c.requires.private

pub returns-in_default-find_copies : goal.returns-in_default-find_copies
returns-in_default-find_copies c = jumps_none c.args.shape.now c.args.private.now c.args.values.now c.args.outcome.now c.requires.private

pub returns-then-frees_root : goal.returns-then-frees_root
returns-then-frees_root c =
    let shape = c.args.shape.now in let private = c.args.private.now in let worker = private.worker in let begun = private.begun in
    let it = c.in-StoreShadows in let values : List ℕ = c.args.values.now in let stores = c.shadow_count-stores.result in let copies = c.in-Some.copies in let lock = it.visit.lock in
    let here = c.in-Logging.is ∙ ap Logging it.is in let done : ℕ = stores + 3 + copies in let note = (finish_outcome worker begun it.visit it.reply).1 in
    let start : Private = private_at_stage worker begun (Logging (StoreShadows it.visit it.named it.row it.reply it.cell)) in
    let mask : Private = private_at_stage worker begun (Copying (LoadMask it.visit)) in let out : Private = private_at_stage worker begun (Leaving (LoadExitTurn lock)) in
    let next : Private = private_at_stage worker begun (clear_stage lock (shape.height - 1)) in
    let is : IsPrivate shape start = private_at shape private (Logging (StoreShadows it.visit it.named it.row it.reply it.cell)) here c.requires.private in
    let within : done ≤ length values = rest_within values (stores + 3) copies c.if-values-stores.false c.in-Some.ensures.within in
    let F : List ℕ → Type 0 = λ vs. ValuesFreeRoot (it.visit.turn / 2) vs in
    let frees : ValuesFreeRoot (it.visit.turn / 2) (drop done values) = subst F (take_rest values done) (c.frees_root.ensures c.if-frees_root.true) in
    let before = c.args.outcome.now in let one = c.put.new.outcome in let after = c.put-then-frees_root.new.outcome in
    let J : Stage → Type 0 = λ s. FastForward shape (noted private before) values (done + 3) (noted (private_at_stage worker begun s) after) in
    subst J (sym c.clearing_stage-private.ensures) (jumps_at shape private (Logging (StoreShadows it.visit it.named it.row it.reply it.cell)) here values (done + 3) before next after record {
      notes = note ∷ Left lock ∷ [];
      within = rest_within values done 3 within (let L : List ℕ → Type 0 = λ vs. 3 ≤ length vs in subst L (sym (take_rest values done)) frees.enough);
      takes = takes_run shape start values done (note ∷ []) out next
          (finish_led shape worker begun it.visit it.named it.reply it.cell it.row values stores copies c.if-values-stores.false (c.shadow_count-stores.ensures.blind worker begun it.visit it.row it.reply)
          (led_rest shape mask values (stores + 3) copies (note ∷ []) out (c.in-Some.ensures.takes worker begun it.visit)))
          3 (Left lock ∷ []) (root_led shape worker begun lock (drop done values) (it.visit.turn / 2) frees);
      few = omega arith;
      writes = writes_then before one after (note ∷ []) (Left lock ∷ [])
          (writes_one before one c.receipt_note.result note c.receipt_note.ensures c.put.ensures.told c.put.ensures.count)
          (writes_one one after c.flat_lock_note.result (Left lock) c.flat_lock_note.ensures c.put-then-frees_root.ensures.told c.put-then-frees_root.ensures.count);
      private = cleared_private shape worker begun lock record { worker = is.worker; begun = is.begun; stage = is.stage.0 };
    })

pub returns : goal.returns
returns c =
    let shape = c.args.shape.now in let private = c.args.private.now in let worker = private.worker in let begun = private.begun in
    let it = c.in-StoreShadows in let values : List ℕ = c.args.values.now in let stores = c.shadow_count-stores.result in let copies = c.in-Some.copies in let lock = it.visit.lock in
    let here = c.in-Logging.is ∙ ap Logging it.is in let note = (finish_outcome worker begun it.visit it.reply).1 in
    let start : Private = private_at_stage worker begun (Logging (StoreShadows it.visit it.named it.row it.reply it.cell)) in
    let mask : Private = private_at_stage worker begun (Copying (LoadMask it.visit)) in let out : Private = private_at_stage worker begun (Leaving (LoadExitTurn lock)) in
    let is : IsPrivate shape start = private_at shape private (Logging (StoreShadows it.visit it.named it.row it.reply it.cell)) here c.requires.private in
    jumps_at shape private (Logging (StoreShadows it.visit it.named it.row it.reply it.cell)) here values (stores + 3 + copies) c.args.outcome.now out c.put-2.new.outcome record {
      notes = note ∷ [];
      within = rest_within values (stores + 3) copies c.if-values-stores.false c.in-Some.ensures.within;
      takes = finish_led shape worker begun it.visit it.named it.reply it.cell it.row values stores copies c.if-values-stores.false (c.shadow_count-stores.ensures.blind worker begun it.visit it.row it.reply)
          (led_rest shape mask values (stores + 3) copies (note ∷ []) out (c.in-Some.ensures.takes worker begun it.visit));
      few = omega arith;
      writes = writes_one c.args.outcome.now c.put-2.new.outcome c.receipt_note-2.result note c.receipt_note-2.ensures c.put-2.ensures.told c.put-2.ensures.count;
      private = record { worker = is.worker; begun = is.begun; stage = is.stage.0 };
    }

-- The number of steps of a finished section, and the re-entry of an owner.
use Rattle.std.proofs.Common.{◌≡◌, ◌≢◌, ℕ, suc, ◌+◌, ◌*◌, ◌<◌, Bool, length, refl, sym, ◌∙◌, ap, subst, inl, inr, arith}
use Rattle.std.specs.Prelude.{Option, unwrap_or}
use Rattle.std.proofs.lemmas.Bool.{cases_eq, eq-eqb, ne_eqb}
use Rattle.rme_words.specs.declared.shape.Shape.{Shape}
use Rattle.rme_words.specs.declared.address.Address.{Address}
use Rattle.rme_words.specs.declared.address.Address.TheVariants.{Node}
use Rattle.rme_tree.specs.Nodes.{held_levels_in, lock_nodes}
use Rattle.rme_tree.specs.Paths.{IsHeldLevels, node, side}
use Rattle.rme_tree.proofs.Holding.{held_at}
use Rattle.rme_script.specs.Cells.{cells_of_ops, mask_cells}
use Rattle.rme_script.specs.Programs.{Program}
use Rattle.rme_script.proofs.Rising.{cells_named_mask}
use Rattle.rme_program.specs.declared.note.Note.{Note}
use Rattle.rme_program.specs.declared.stage.Parity.{Parity}
use Rattle.rme_program.specs.declared.stage.Parity.TheVariants.{Even, Odd}
use Rattle.rme_program.specs.declared.stage.Recovery.{Recovery}
use Rattle.rme_program.specs.declared.stage.Recovery.TheVariants.{LoadBegun, LoadDone, LoadLock, LoadPath}
use Rattle.rme_program.specs.declared.stage.Redo.TheVariants.{StoreDone}
use Rattle.rme_program.specs.declared.stage.Stage.{Stage}
use Rattle.rme_program.specs.declared.stage.Stage.TheVariants.{Recovering}
use Rattle.rme_program.specs.declared.stage.Visit.{Visit}
use Rattle.rme_program.specs.Conditions.{IsRecoveryStage}
use Rattle.rme_program.specs.ActionEffects.{ActionEffect}
use Rattle.rme_program.specs.Masks.{mask_of}
use Rattle.rme_program.specs.Phases.{mask_cells_below}
use Rattle.rme_program.specs.StepsMade.{steps_made_in_redo, section_steps}
use Rattle.rme_program.specs.Steps.{private_action, recovery_action, after_recovery, outcome_at}
use Rattle.rme_program.proofs.MaskLemmas.{mask_of-is_mask}
use Rattle.rme_machine.specs.Knowledge.{ParityKnowledge, RecoveryKnowledge}
use Rattle.rme_machine.specs.FurtherLaws.{BoundedReentryStep, BoundedReentryLaw, SectionStepsLaw}
use Rattle.rme_machine.specs.Views.{WorkerWords, LockWords, worker_words, lock_words, current_lock, slate_job, no_script}
use Rattle.rme_machine.proofs.Kept.{owner_holds_in}

-- In a section that began at an even turn, the mask is the script's own and all steps are counted.
whole_steps : (shape : Shape) (own : WorkerWords) (lock : LockWords) (visit : Visit) (mask reply count : ℕ) → ParityKnowledge own lock visit.turn visit.parity → mask ≡ lock.mask
    → count ≡ steps_made_in_redo shape (StoreDone visit mask reply) + 1 → count ≡ section_steps shape (slate_job own).script mask visit.parity
whole_steps shape own lock visit mask reply count knows is all = by_parity visit.parity refl
  where
    by_parity : (parity : Parity) → visit.parity ≡ parity → count ≡ section_steps shape (slate_job own).script mask parity
    by_parity Odd e =
        let here : steps_made_in_redo shape (StoreDone visit mask reply) ≡ 1 + (5 + 2 * mask_cells_below mask shape.cells)
        = ap (λ (p : Parity). steps_made_in_redo shape (StoreDone record { lock = visit.lock; turn = visit.turn; parity = p } mask reply)) e in
        omega (arith, all, here)
    by_parity (Even operations cells) e =
        let knows_even : ParityKnowledge own lock visit.turn (Even operations cells) = subst (λ (p : Parity). ParityKnowledge own lock visit.turn p) e knows in
        let script : Program = knows_even.0 in
        let named : mask_cells mask shape.cells ≡ cells_of_ops script.ops shape.cells =
        ap (λ (m : ℕ). mask_cells m shape.cells) (is ∙ sym knows_even.4 ∙ knows_even.3) ∙ cells_named_mask (mask_of script.ops) script.ops (mask_of-is_mask script.ops) shape.cells in
        let same_script : (slate_job own).script ≡ script = ap (λ (s : Option Program). unwrap_or s no_script) knows_even.1 in
        let here : steps_made_in_redo shape (StoreDone visit mask reply) ≡ 2 + 3 * operations + mask_cells_below cells shape.cells + mask_cells_below cells shape.cells + 3 + (5 + 2 * mask_cells_below mask shape.cells)
        = ap (λ (p : Parity). steps_made_in_redo shape (StoreDone record { lock = visit.lock; turn = visit.turn; parity = p } mask reply)) e in
        let t : mask_cells_below mask shape.cells ≡ length (cells_of_ops script.ops shape.cells) = ap length named in
        let u : mask_cells_below cells shape.cells ≡ mask_cells_below mask shape.cells = ap (λ (m : ℕ). mask_cells_below m shape.cells) (knows_even.4 ∙ sym is) in
        let goal : count ≡ 11 + 3 * script.n + 4 * length (cells_of_ops script.ops shape.cells) = omega (arith, all, here, t, u, knows_even.2) in
        subst (λ (s : Program). count ≡ 11 + 3 * s.n + 4 * length (cells_of_ops s.ops shape.cells)) (sym same_script) goal

pub sectioned : SectionStepsLaw
sectioned s mem privs es w p visit mask reply fact worker was at =
    let knows = rw at at (fact.fits w p worker was).knows in
    whole_steps s (worker_words mem w) (lock_words s mem visit.lock) visit mask reply (steps_made_in_redo s (StoreDone visit mask reply) + 1) knows.1.0.1 knows.1.1 refl

module _ (shape : Shape) (memory memory' : Address → ℕ) (worker begun lock value : ℕ) (holds : held_levels_in shape memory worker lock ≡ shape.height)
    (site : (worker_words memory worker).begun ≢ 0) (same : current_lock (worker_words memory worker) ≡ lock) where
  on_path : (pending : Bool) (held : ℕ) → held < shape.height → value ≡ memory (Node lock (node shape.leaves worker (held + 1)))
      → BoundedReentryStep shape lock (LoadPath pending lock held) (after_recovery shape worker begun (LoadPath pending lock held) value)
  on_path pending held less found =
      let path : IsHeldLevels (lock_nodes memory lock) shape.leaves worker shape.height shape.height = held_at (lock_nodes memory lock) shape.leaves worker shape.height shape.height holds in
      let next : suc held ≡ held + 1 = omega arith in
      let own : value ≡ side shape.leaves worker (held + 1)
      = found ∙ subst (λ (k : ℕ). memory (Node lock (node shape.leaves worker k)) ≡ side shape.leaves worker k) next (path.own held less) in
      elim (cases_eq (held + 1) shape.height) [
        | inl top ↦ rw (eq-eqb _ _ own, eq-eqb _ _ top) record { before = λ early. absurd (omega (arith, early, top)); there = λ at. refl; most = omega (arith, top) }
        | inr below ↦ rw (eq-eqb _ _ own, ne_eqb _ _ below) record { before = λ early. (refl, refl); there = λ at. absurd (omega (arith, at, below, less)); most = omega (arith, less) }
      ]

  owner_goes : (recovery : Recovery) → RecoveryKnowledge (worker_words memory worker) (held_levels_in shape memory worker) begun recovery → IsRecoveryStage shape recovery
      → ActionEffect memory memory' (recovery_action shape worker recovery) value → BoundedReentryStep shape lock recovery (after_recovery shape worker begun recovery value)
  owner_goes LoadBegun knows is did = record { before = λ early. (refl, refl); there = λ at. absurd (omega (arith, at)); most = omega arith }
  owner_goes LoadDone knows is did =
      rw (ne_eqb begun 0 (λ e. site (knows ∙ e))) record { before = λ early. (refl, refl); there = λ at. absurd (omega (arith, at, shape.counted.tree.some_level)); most = omega (arith, shape.counted.tree.some_level) }
  owner_goes (LoadLock pending) knows is did = record { before = λ early. (refl, refl); there = λ at. absurd (omega (arith, at, shape.counted.tree.some_level)); most = omega (arith, shape.counted.tree.some_level) }
  owner_goes (LoadPath pending here held) knows is did =
      let here_is : here ≡ lock = sym knows.3 ∙ same in
      let P : ℕ → Type 0 = λ (l : ℕ). value ≡ memory (Node l (node shape.leaves worker (held + 1))) → BoundedReentryStep shape lock (LoadPath pending l held) (after_recovery shape worker begun (LoadPath pending l held) value) in
      subst P (sym here_is) (on_path pending held is.1) did.0

pub returning : BoundedReentryLaw
returning s mem mem' privs es w lock p recovery found fact worker was at below owns did =
    let holds : held_levels_in s mem w lock ≡ s.height = (owner_holds_in s mem lock w owns).1 in
    let stake = (fact.accounts w worker).stake lock below (omega (arith, holds, s.counted.tree.some_level)) in
    let fits = fact.fits w p worker was in
    let did_here : ActionEffect mem mem' (private_action s record { worker = w; begun = p.begun; stage = Recovering recovery }) found = rw (fits.is, at) at did in
    let goes : BoundedReentryStep s lock recovery (after_recovery s w p.begun recovery found)
    = owner_goes s mem mem' w p.begun lock found holds (λ e. omega (arith, e, stake.0)) stake.1 recovery (rw at at fits.knows) (rw at at fits.shaped.stage) did_here in
    let out : outcome_at s p.worker p.begun p.stage found ≡ after_recovery s w p.begun recovery found
    = ap (λ (u : ℕ). outcome_at s u p.begun p.stage found) fits.is ∙ ap (λ (stage : Stage). outcome_at s w p.begun stage found) at in
    subst (λ (o : Stage × Note). BoundedReentryStep s lock recovery o) (sym out) goes

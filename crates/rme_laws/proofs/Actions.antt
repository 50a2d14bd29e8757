-- The word of each own step is one of the shape, and an operation on the words is the step's action.
use Rattle.std.proofs.Common.{◌≡◌, ◌≢◌, ℕ, ◌+◌, ◌-◌, ◌*◌, ◌/◌, ◌%◌, ◌<◌, ◌≤◌, Bool, true, false, List, length, refl, sym, ap, subst, ◌∙◌, inl, inr, arith}
use Rattle.std.specs.Prelude.{if◌then◌else◌, slice_index, slice_set}
use Rattle.std.proofs.lemmas.Bool.{cases_eq, ltb-true}
use Rattle.std.proofs.lemmas.List.{length-set}
use Rattle.rme_words.specs.declared.shape.Shape.{Shape}
use Rattle.rme_words.specs.declared.address.Address.{Address}
use Rattle.rme_words.specs.declared.address.Address.TheVariants.{Begun, SlateLock, SlateLen, SlateWord}
use Rattle.rme_words.specs.Words.{IsShapeAddress, StoreEffect, read_word_at, word_count, word_number}
use Rattle.rme_words.proofs.Loads.{read_within, wrote_word}
use Rattle.rme_tree.specs.Paths.{node}
use Rattle.rme_tree.proofs.Steps as tree
use Rattle.rme_script.specs.Slates.{slate_of}
use Rattle.rme_program.specs.declared.action.Action.{Action}
use Rattle.rme_program.specs.declared.action.Action.TheVariants.{Load, Store, Swap}
use Rattle.rme_program.specs.declared.private.Private.{Private}
use Rattle.rme_program.specs.declared.stage.Slate.{Slate}
use Rattle.rme_program.specs.declared.stage.Stage.{Stage}
use Rattle.rme_program.specs.declared.stage.Stage.TheVariants.{Resting, Recovering, Posting, Climbing, Logging, Copying, Leaving}
use Rattle.rme_program.specs.declared.stage.Recovery.TheVariants.{LoadBegun, LoadDone, LoadLock, LoadPath}
use Rattle.rme_program.specs.declared.stage.Log.TheVariants.{LoadTurn, LoadLen, LoadSlate, LoadCells, StoreShadows, StoreShadowReply, StoreMask, StoreTurn}
use Rattle.rme_program.specs.declared.stage.Redo.TheVariants.{LoadMask, LoadShadow, StoreCell, LoadReply, StoreReply, StorePlace, StoreAt, StoreDone}
use Rattle.rme_program.specs.declared.stage.Departure.TheVariants.{LoadExitTurn, StoreExitTurn, Clear, WithdrawPlace, WithdrawAt, WithdrawReply, WithdrawDone}
use Rattle.rme_program.specs.ActionEffects.{ActionEffect, action_address}
use Rattle.rme_program.specs.Conditions.{IsPrivate, IsStage}
use Rattle.rme_program.specs.Steps.{private_action, stage_action}
use Rattle.rme_process_core.specs.declared.flat.FlatAction.{FlatAction}
use Rattle.rme_process_core.specs.Batches.{ActionMatches}
use Rattle.rme_process_core.specs.Processes.{FlatActionEffect}

-- ---- the words of own steps

module _ (shape : Shape) (worker : ℕ) (within : worker < shape.workers) where
  node_within : (lock level : ℕ) → lock < shape.locks → 1 ≤ level → level ≤ shape.height → (lock < shape.locks) × (1 ≤ node shape.leaves worker level) × (node shape.leaves worker level < shape.leaves)
  node_within lock level here from to = let there = tree.node_within shape.leaves shape.height worker level shape.counted.tree.is_power (omega (arith, within, shape.counted.tree.enough)) from to in (here, there.0, there.1)

  slate_by : (begun : ℕ) (slate : Slate) (first second below : Bool) → (below ≡ true → slate.stored - 2 < 24)
      → IsShapeAddress shape (action_address (if first then Store (SlateLock worker) slate.job.lock else if second then Store (SlateLen worker) slate.job.script.n
      else if below then Store (SlateWord worker ((slate.stored - 2) / 3) ((slate.stored - 2) % 3)) (slice_index (slate_of slate.job.script.ops) (slate.stored - 2)) else Store (Begun worker) (begun + 1)))
  slate_by begun slate true second below small = within
  slate_by begun slate false true below small = within
  slate_by begun slate false false true small = (let few : slate.stored - 2 < 24 = small refl in (within, omega (arith, few), omega arith))
  slate_by begun slate false false false small = within

  stage_within : (begun : ℕ) (stage : Stage) → IsStage shape begun stage → stage ≢ Resting → IsShapeAddress shape (action_address (stage_action shape worker begun stage))
  stage_within begun Resting is busy = absurd (busy refl)
  stage_within begun (Recovering LoadBegun) is busy = within
  stage_within begun (Recovering LoadDone) is busy = within
  stage_within begun (Recovering (LoadLock true)) is busy = within
  stage_within begun (Recovering (LoadLock false)) is busy = within
  stage_within begun (Recovering (LoadPath pending lock held)) is busy = node_within lock (held + 1) is.0 (omega arith) (omega (arith, is.1))
  stage_within begun (Posting slate) is busy =
      slate_by begun slate _ _ _ (λ below. let few : slate.stored < 2 + 3 * slate.job.script.n = ltb-true _ _ below in omega (arith, few, is.1.script.few))
  stage_within begun (Climbing ascent) is busy = node_within ascent.lock (ascent.held + 1) is.0 (omega arith) (omega (arith, is.1))
  stage_within begun (Logging (LoadTurn lock)) is busy = is
  stage_within begun (Logging (LoadLen lock turn)) is busy = within
  stage_within begun (Logging (LoadSlate lock turn operations words loaded)) is busy = (within, omega (arith, is.1, is.2), omega arith)
  stage_within begun (Logging (LoadCells lock turn script named row cell)) is busy = (is.0, is.1)
  stage_within begun (Logging (StoreShadows visit named row reply cell)) is busy = (is.0, is.1)
  stage_within begun (Logging (StoreShadowReply visit named reply)) is busy = is
  stage_within begun (Logging (StoreMask visit named)) is busy = is
  stage_within begun (Logging (StoreTurn visit)) is busy = is
  stage_within begun (Copying (LoadMask visit)) is busy = is
  stage_within begun (Copying (LoadShadow visit mask cell)) is busy = is
  stage_within begun (Copying (StoreCell visit mask cell value)) is busy = is
  stage_within begun (Copying (LoadReply visit mask)) is busy = is
  stage_within begun (Copying (StoreReply visit mask reply)) is busy = within
  stage_within begun (Copying (StorePlace visit mask reply)) is busy = within
  stage_within begun (Copying (StoreAt visit mask reply)) is busy = within
  stage_within begun (Copying (StoreDone visit mask reply)) is busy = within
  stage_within begun (Leaving (LoadExitTurn lock)) is busy = is
  stage_within begun (Leaving (StoreExitTurn lock turn)) is busy = is
  stage_within begun (Leaving (Clear lock level)) is busy = node_within lock level is.0 is.1 is.2
  stage_within begun (Leaving (WithdrawPlace lock held)) is busy = within
  stage_within begun (Leaving (WithdrawAt lock held)) is busy = within
  stage_within begun (Leaving (WithdrawReply lock held)) is busy = within
  stage_within begun (Leaving (WithdrawDone lock held)) is busy = within

pub action_within : (shape : Shape) (private : Private) → IsPrivate shape private → private.stage ≢ Resting → IsShapeAddress shape (action_address (private_action shape private))
action_within shape private is busy = stage_within shape private.worker is.worker private.begun private.stage is.stage busy

-- ---- the effect of an operation

module _ (shape : Shape) (old new : List ℕ) (flat : FlatAction) (value : ℕ) (long : length old ≡ word_count shape) (did : FlatActionEffect old flat value new) where
  read_here : (address : Address) → IsShapeAddress shape address → flat.word ≡ word_number shape address → value ≡ slice_index old flat.word → value ≡ read_word_at shape old address
  read_here address within at found = found ∙ ap (slice_index old) at ∙ sym (read_within shape old address within)

  wrote_here : (address : Address) (stored : ℕ) → IsShapeAddress shape address → flat.word ≡ word_number shape address → flat.value ≡ stored → new ≡ slice_set old flat.word flat.value
      → StoreEffect (read_word_at shape old) (read_word_at shape new) address stored
  wrote_here address stored within at puts written =
      let there : new ≡ slice_set old (word_number shape address) stored = written ∙ ap (λ (i : ℕ). slice_set old i flat.value) at ∙ ap (slice_set old (word_number shape address)) puts in
      subst (λ (ws : List ℕ). StoreEffect (read_word_at shape old) (read_word_at shape ws) address stored) (sym there) (wrote_word shape old address stored long within)

  pub operation_effect : (action : Action) → IsShapeAddress shape (action_address action) → ActionMatches shape flat action → ActionEffect (read_word_at shape old) (read_word_at shape new) action value
  operation_effect (Load address) within matches =
      let both = did.loads matches.0 in
      (read_here address within matches.1 both.0, ap (read_word_at shape) both.1)
  operation_effect (Store address stored) within matches =
      wrote_here address stored within (ap (λ (f : FlatAction). f.word) matches) (ap (λ (f : FlatAction). f.value) matches) (did.stores (ap (λ (f : FlatAction). f.kind) matches))
  operation_effect (Swap address from to) within matches =
      let at = ap (λ (f : FlatAction). f.word) matches.1 in
      let all = did.swaps (ap (λ (f : FlatAction). f.kind) matches.1) in (
        read_here address within at all.0,
        (λ free. wrote_here address to within at (ap (λ (f : FlatAction). f.value) matches.1) (all.1 (free ∙ matches.0))),
        (λ held. ap (read_word_at shape) (all.2 (λ none. held (none ∙ sym matches.0)))),
      )

  same_length : (stored : ℕ) → new ≡ slice_set old flat.word stored → length new ≡ word_count shape
  same_length stored written = ap (λ (ws : List ℕ). length ws) written ∙ length-set old flat.word stored ∙ long

  pub operation_length : (action : Action) → ActionMatches shape flat action → length new ≡ word_count shape
  operation_length (Load address) matches = ap (λ (ws : List ℕ). length ws) (did.loads matches.0).1 ∙ long
  operation_length (Store address stored) matches = same_length flat.value (did.stores (ap (λ (f : FlatAction). f.kind) matches))
  operation_length (Swap address from to) matches =
      let all = did.swaps (ap (λ (f : FlatAction). f.kind) matches.1) in
      elim (cases_eq value 0) [
        | inl none ↦ same_length flat.value (all.1 none)
        | inr some ↦ ap (λ (ws : List ℕ). length ws) (all.2 some) ∙ long
      ]

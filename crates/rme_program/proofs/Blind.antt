-- The value that a store finds does not matter.
use Rattle.std.proofs.Common.{◌≡◌, ℕ, true, false, refl}
use Rattle.rme_words.specs.declared.shape.Shape.{Shape}
use Rattle.rme_program.specs.declared.action.Action.{Action}
use Rattle.rme_program.specs.declared.action.Action.TheVariants.{Load, Store, Swap}
use Rattle.rme_program.specs.declared.stage.Stage.{Stage}
use Rattle.rme_program.specs.declared.stage.Stage.TheVariants.{Resting, Recovering, Posting, Climbing, Logging, Copying, Leaving}
use Rattle.rme_program.specs.declared.stage.Recovery.TheVariants.{LoadBegun, LoadDone, LoadLock, LoadPath}
use Rattle.rme_program.specs.declared.stage.Log.TheVariants.{LoadTurn, LoadLen, LoadSlate, LoadCells, StoreShadows, StoreShadowReply, StoreMask, StoreTurn}
use Rattle.rme_program.specs.declared.stage.Redo.TheVariants.{LoadMask, LoadShadow, StoreCell, LoadReply, StoreReply, StorePlace, StoreAt, StoreDone}
use Rattle.rme_program.specs.declared.stage.Departure.TheVariants.{LoadExitTurn, StoreExitTurn, Clear, WithdrawPlace, WithdrawAt, WithdrawReply, WithdrawDone}
use Rattle.rme_program.specs.Conditions.{IsValidLoad}
use Rattle.rme_program.specs.Steps.{stage_action, outcome_at, begun_after}

abbrev pub IsStore : Action → Type 0
IsStore (Load address) = ⊥
IsStore (Store address value) = Unit {0}
IsStore (Swap address from to) = ⊥

pub record IsBlind (shape : Shape) (worker begun : ℕ) (stage : Stage) : Type 0 where
  pub takes : (value : ℕ) → IsValidLoad shape stage value
  pub leads : (value other : ℕ) → outcome_at shape worker begun stage value ≡ outcome_at shape worker begun stage other
  pub knows : (value other : ℕ) → begun_after begun stage value ≡ begun_after begun stage other

pub stores_blindly : (shape : Shape) (worker begun : ℕ) (stage : Stage) → IsStore (stage_action shape worker begun stage) → IsBlind shape worker begun stage
stores_blindly shape worker begun Resting store = absurd store
stores_blindly shape worker begun (Recovering LoadBegun) store = absurd store
stores_blindly shape worker begun (Recovering LoadDone) store = absurd store
stores_blindly shape worker begun (Recovering (LoadLock true)) store = absurd store
stores_blindly shape worker begun (Recovering (LoadLock false)) store = absurd store
stores_blindly shape worker begun (Recovering (LoadPath pending lock held)) store = absurd store
stores_blindly shape worker begun (Posting slate) store = record { takes = λ v. tt; leads = λ v w. refl; knows = λ v w. refl }
stores_blindly shape worker begun (Climbing ascent) store = absurd store
stores_blindly shape worker begun (Logging (LoadTurn lock)) store = absurd store
stores_blindly shape worker begun (Logging (LoadLen lock turn)) store = absurd store
stores_blindly shape worker begun (Logging (LoadSlate lock turn operations words loaded)) store = absurd store
stores_blindly shape worker begun (Logging (LoadCells lock turn script named row cell)) store = absurd store
stores_blindly shape worker begun (Logging (StoreShadows visit named row reply cell)) store = record { takes = λ v. tt; leads = λ v w. refl; knows = λ v w. refl }
stores_blindly shape worker begun (Logging (StoreShadowReply visit named reply)) store = record { takes = λ v. tt; leads = λ v w. refl; knows = λ v w. refl }
stores_blindly shape worker begun (Logging (StoreMask visit named)) store = record { takes = λ v. tt; leads = λ v w. refl; knows = λ v w. refl }
stores_blindly shape worker begun (Logging (StoreTurn visit)) store = record { takes = λ v. tt; leads = λ v w. refl; knows = λ v w. refl }
stores_blindly shape worker begun (Copying (LoadMask visit)) store = absurd store
stores_blindly shape worker begun (Copying (LoadShadow visit mask cell)) store = absurd store
stores_blindly shape worker begun (Copying (StoreCell visit mask cell value)) store = record { takes = λ v. tt; leads = λ v w. refl; knows = λ v w. refl }
stores_blindly shape worker begun (Copying (LoadReply visit mask)) store = absurd store
stores_blindly shape worker begun (Copying (StoreReply visit mask reply)) store = record { takes = λ v. tt; leads = λ v w. refl; knows = λ v w. refl }
stores_blindly shape worker begun (Copying (StorePlace visit mask reply)) store = record { takes = λ v. tt; leads = λ v w. refl; knows = λ v w. refl }
stores_blindly shape worker begun (Copying (StoreAt visit mask reply)) store = record { takes = λ v. tt; leads = λ v w. refl; knows = λ v w. refl }
stores_blindly shape worker begun (Copying (StoreDone visit mask reply)) store = record { takes = λ v. tt; leads = λ v w. refl; knows = λ v w. refl }
stores_blindly shape worker begun (Leaving (LoadExitTurn lock)) store = absurd store
stores_blindly shape worker begun (Leaving (StoreExitTurn lock turn)) store = record { takes = λ v. tt; leads = λ v w. refl; knows = λ v w. refl }
stores_blindly shape worker begun (Leaving (Clear lock level)) store = record { takes = λ v. tt; leads = λ v w. refl; knows = λ v w. refl }
stores_blindly shape worker begun (Leaving (WithdrawPlace lock held)) store = record { takes = λ v. tt; leads = λ v w. refl; knows = λ v w. refl }
stores_blindly shape worker begun (Leaving (WithdrawAt lock held)) store = record { takes = λ v. tt; leads = λ v w. refl; knows = λ v w. refl }
stores_blindly shape worker begun (Leaving (WithdrawReply lock held)) store = record { takes = λ v. tt; leads = λ v w. refl; knows = λ v w. refl }
stores_blindly shape worker begun (Leaving (WithdrawDone lock held)) store = record { takes = λ v. tt; leads = λ v w. refl; knows = λ v w. refl }

-- One more action after others.
use Rattle.std.proofs.Common.{◌≡◌, ◌≢◌, inl, ℕ, ◌≤◌, ◌+◌, ◌-◌, ◌*◌, ◌/◌, ◌%◌, nat_lt, true, false, List, [], ◌∷◌, ◌++◌, refl, sym, ap, subst, ◌∙◌}
use Rattle.std.specs.Prelude.{Bool, ◌==◌, if◌then◌else◌, slice_index, take}
use Rattle.std.proofs.Common.{append-nil, append_assoc}
use Rattle.rme_words.specs.declared.shape.Shape.{Shape}
use Rattle.rme_words.specs.declared.address.Address.TheVariants.{Begun, SlateLock, SlateLen, SlateWord}
use Rattle.rme_script.specs.Slates.{slate_of}
use Rattle.rme_program.specs.declared.stage.Slate.{Slate}
use Rattle.rme_program.specs.declared.action.Action.{Action}
use Rattle.rme_program.specs.declared.action.Action.TheVariants.{Load, Store, Swap}
use Rattle.rme_program.specs.declared.note.Note.{Note}
use Rattle.rme_program.specs.declared.note.Note.TheVariants.{Quiet}
use Rattle.rme_program.specs.declared.private.Private.{Private}
use Rattle.rme_program.specs.declared.stage.Stage.{Stage}
use Rattle.rme_program.specs.declared.stage.Stage.TheVariants.{Resting, Recovering, Posting, Climbing, Logging, Copying, Leaving}
use Rattle.rme_program.specs.declared.stage.Recovery.TheVariants.{LoadBegun, LoadDone, LoadLock, LoadPath}
use Rattle.rme_program.specs.declared.stage.Log.TheVariants.{LoadTurn, LoadLen, LoadSlate, LoadCells, StoreShadows, StoreShadowReply, StoreMask, StoreTurn}
use Rattle.rme_program.specs.declared.stage.Redo.TheVariants.{LoadMask, LoadShadow, StoreCell, LoadReply, StoreReply, StorePlace, StoreAt, StoreDone}
use Rattle.rme_program.specs.declared.stage.Departure.TheVariants.{LoadExitTurn, StoreExitTurn, Clear, WithdrawPlace, WithdrawAt, WithdrawReply, WithdrawDone}
use Rattle.rme_program.proofs.Blind.{IsStore, IsBlind, stores_blindly}
use Rattle.rme_program.specs.Conditions.{IsPrivate, IsValidLoad}
use Rattle.rme_program.specs.Steps.{stage_action, private_action, outcome_at, begun_after, private_after, note_after}
use Rattle.rme_process_core.specs.declared.flat.FlatAction.{FlatAction}
use Rattle.rme_process_core.specs.declared.flat.Batch.{Batch}
use Rattle.rme_process_core.specs.Flat.{flat_action}
use Rattle.rme_process_core.specs.Batches.{ActionMatches, BatchContinues, NoteEndsBatch, IfMoreActions, Predicts, batch_actions}
use Rattle.rme_process_core.specs.Runs.{PredictsUpTo, PredictsUpToSome, private_at_stage}

-- The worker takes a value, says this, and then is as `Next` says.
pub record Goes (shape : Shape) (private : Private) (value : ℕ) (note : Note) (Next : Private → Type 0) : Type 0 where
  pub takes : IsValidLoad shape private.stage value
  pub says : note_after shape private value ≡ note
  pub next : Next (private_after shape private value)

-- The action is the worker's; where the batch continues after it, the step has this note, and the worker is as `Next`
-- says.
pub record Steps (shape : Shape) (private : Private) (action : FlatAction) (note : Note) (Next : Private → Type 0) : Type 0 where
  pub busy : private.stage ≢ Resting
  pub does : ActionMatches shape action (private_action shape private)
  pub goes : (value : ℕ) → BatchContinues action value → Goes shape private value note Next

pub record Ends (shape : Shape) (private : Private) (action : FlatAction) : Type 0 where
  pub busy : private.stage ≢ Resting
  pub does : ActionMatches shape action (private_action shape private)

if_more : (rest : List FlatAction) (it : Type 0) → it → IfMoreActions rest it
if_more [] it so = tt
if_more (action ∷ rest) it so = so

pub ends_of : (shape : Shape) (private : Private) (action : FlatAction) (note : Note) (Next : Private → Type 0) → Steps shape private action note Next → Ends shape private action
ends_of shape private action note Next step = record { busy = step.busy; does = step.does }

module _ (shape : Shape) (until : ℕ) (here : Private) (told : List FlatAction) where
  module _ (Last : Private → Type 0) (so : PredictsUpToSome shape until here told Last) where
    pub reaches_alone : Predicts shape until here told
    reaches_alone = let P : List FlatAction → Type 0 = λ l. Predicts shape until here l in subst P (append-nil told) (so [] (λ mid last. tt))

    module _ (action : FlatAction) (new : List FlatAction) (is : new ≡ told ++ action ∷ []) where
      pub reaches_more : (Next : Private → Type 0) → ((mid : Private) → Last mid → Steps shape mid action Quiet Next) → PredictsUpToSome shape until here new Next
      reaches_more Next steps rest follows =
          let P : List FlatAction → Type 0 = λ l. Predicts shape until here (l ++ rest) in
          let Q : List FlatAction → Type 0 = λ l. Predicts shape until here l in
          let S : Note → Type 0 = λ n. NoteEndsBatch until n → ⊥ in
          subst P (sym is) (subst Q (sym (append_assoc told (action ∷ []) rest))
          (so (action ∷ rest) (λ mid last. let step : Steps shape mid action Quiet Next = steps mid last in (
            step.busy,
            step.does,
            λ value goes. let it : Goes shape mid value Quiet Next = step.goes value goes in
                (if_more rest _ (it.takes, subst S (sym it.says) (λ stops. stops)), follows (private_after shape mid value) it.next),
          ))))

  module _ (mid : Private) (so : PredictsUpTo shape until here told mid) where
    pub leads_reach : PredictsUpToSome shape until here told (λ p. p ≡ mid)
    leads_reach rest follows = so rest (follows mid refl)

    module _ (action : FlatAction) (new : List FlatAction) (is : new ≡ told ++ action ∷ []) where
      pub leads_on : (note : Note) (next : Private) → (NoteEndsBatch until note → ⊥) → Steps shape mid action note (λ p. p ≡ next) → PredictsUpTo shape until here new next
      leads_on note next free step rest follows =
          let P : List FlatAction → Type 0 = λ l. Predicts shape until here (l ++ rest) in
          let Q : List FlatAction → Type 0 = λ l. Predicts shape until here l in
          let F : Private → Type 0 = λ p. Predicts shape until p rest in
          let S : Note → Type 0 = λ n. NoteEndsBatch until n → ⊥ in
          subst P (sym is) (subst Q (sym (append_assoc told (action ∷ []) rest))
          (so (action ∷ rest) (
            step.busy,
            step.does,
            λ value goes. let it : Goes shape mid value note (λ p. p ≡ next) = step.goes value goes in
                (if_more rest _ (it.takes, subst S (sym it.says) free), subst F (sym it.next) follows),
          )))

      pub leads_more : (next : Private) → Steps shape mid action Quiet (λ p. p ≡ next) → PredictsUpTo shape until here new next
      leads_more next step = leads_on Quiet next (λ stops. stops) step

      pub leads_end : Ends shape mid action → Predicts shape until here new
      leads_end end =
          let P : List FlatAction → Type 0 = λ l. Predicts shape until here l in
          subst P (sym is) (so (action ∷ []) (end.busy, end.does, λ value goes. (tt, tt)))

-- Before the first action.
pub leads_fresh : (shape : Shape) (until : ℕ) (here : Private) (told : List FlatAction) → told ≡ [] → PredictsUpTo shape until here told here
leads_fresh shape until here told fresh rest follows = let P : List FlatAction → Type 0 = λ l. Predicts shape until here (l ++ rest) in subst P (sym fresh) follows

-- Before the first action of a worker that is at this stage.
pub leads_at : (shape : Shape) (until : ℕ) (private : Private) (stage : Stage) (batch : Batch) → batch.count ≡ 0 → private.stage ≡ stage → PredictsUpTo shape until private (batch_actions batch) (private_at_stage private.worker private.begun stage)
leads_at shape until private stage batch none is =
    let fresh : batch_actions batch ≡ [] = ap (λ (n : ℕ). take n batch.actions) none in
    let P : Stage → Type 0 = λ s. PredictsUpTo shape until private (batch_actions batch) (private_at_stage private.worker private.begun s) in
    subst P is (leads_fresh shape until private (batch_actions batch) fresh)

-- A swap is one from 0.
abbrev FromZero : Action → Type 0
FromZero (Load address) = Unit {0}
FromZero (Store address value) = Unit {0}
FromZero (Swap address from to) = from ≡ 0

slate_from_zero : (worker begun : ℕ) (slate : Slate) (first second below : Bool)
    → FromZero (if first then Store (SlateLock worker) slate.job.lock else if second then Store (SlateLen worker) slate.job.script.n
    else if below then Store (SlateWord worker ((slate.stored - 2) / 3) ((slate.stored - 2) % 3)) (slice_index (slate_of slate.job.script.ops) (slate.stored - 2)) else Store (Begun worker) (begun + 1))
slate_from_zero worker begun slate true second below = tt
slate_from_zero worker begun slate false true below = tt
slate_from_zero worker begun slate false false true = tt
slate_from_zero worker begun slate false false false = tt

from_zero : (shape : Shape) (worker begun : ℕ) (stage : Stage) → FromZero (stage_action shape worker begun stage)
from_zero shape worker begun Resting = tt
from_zero shape worker begun (Recovering LoadBegun) = tt
from_zero shape worker begun (Recovering LoadDone) = tt
from_zero shape worker begun (Recovering (LoadLock true)) = tt
from_zero shape worker begun (Recovering (LoadLock false)) = tt
from_zero shape worker begun (Recovering (LoadPath pending lock held)) = tt
from_zero shape worker begun (Posting slate) = slate_from_zero worker begun slate (slate.stored == 0) (slate.stored == 1) (nat_lt slate.stored (2 + 3 * slate.job.script.n))
from_zero shape worker begun (Climbing ascent) = refl
from_zero shape worker begun (Logging (LoadTurn lock)) = tt
from_zero shape worker begun (Logging (LoadLen lock turn)) = tt
from_zero shape worker begun (Logging (LoadSlate lock turn operations words loaded)) = tt
from_zero shape worker begun (Logging (LoadCells lock turn script named row cell)) = tt
from_zero shape worker begun (Logging (StoreShadows visit named row reply cell)) = tt
from_zero shape worker begun (Logging (StoreShadowReply visit named reply)) = tt
from_zero shape worker begun (Logging (StoreMask visit named)) = tt
from_zero shape worker begun (Logging (StoreTurn visit)) = tt
from_zero shape worker begun (Copying (LoadMask visit)) = tt
from_zero shape worker begun (Copying (LoadShadow visit mask cell)) = tt
from_zero shape worker begun (Copying (StoreCell visit mask cell value)) = tt
from_zero shape worker begun (Copying (LoadReply visit mask)) = tt
from_zero shape worker begun (Copying (StoreReply visit mask reply)) = tt
from_zero shape worker begun (Copying (StorePlace visit mask reply)) = tt
from_zero shape worker begun (Copying (StoreAt visit mask reply)) = tt
from_zero shape worker begun (Copying (StoreDone visit mask reply)) = tt
from_zero shape worker begun (Leaving (LoadExitTurn lock)) = tt
from_zero shape worker begun (Leaving (StoreExitTurn lock turn)) = tt
from_zero shape worker begun (Leaving (Clear lock level)) = tt
from_zero shape worker begun (Leaving (WithdrawPlace lock held)) = tt
from_zero shape worker begun (Leaving (WithdrawAt lock held)) = tt
from_zero shape worker begun (Leaving (WithdrawReply lock held)) = tt
from_zero shape worker begun (Leaving (WithdrawDone lock held)) = tt

does_flat : (shape : Shape) (action : Action) → FromZero action → ActionMatches shape (flat_action shape action) action
does_flat shape (Load address) zero = (inl refl, refl)
does_flat shape (Store address value) zero = refl
does_flat shape (Swap address from to) zero = (zero, refl)

-- The plain form of a worker's action does it.
pub plain_does : (shape : Shape) (private : Private) → ActionMatches shape (flat_action shape (private_action shape private)) (private_action shape private)
plain_does shape private = does_flat shape (private_action shape private) (from_zero shape private.worker private.begun private.stage)

-- Several actions after others are one, and the rest after it.
pub more_told : (before : List FlatAction) (one : FlatAction) (rest : List FlatAction) → before ++ one ∷ rest ≡ (before ++ one ∷ []) ++ rest
more_told before one rest = sym (append_assoc before (one ∷ []) rest)

-- A worker makes its store, and continues.
pub store_steps : (shape : Shape) (private now : Private) → IsStore (private_action shape private) → private.stage ≢ Resting → now ≡ private_after shape private 0 → note_after shape private 0 ≡ Quiet
    → Steps shape private (flat_action shape (private_action shape private)) Quiet (λ p. p ≡ now)
store_steps shape private now store busy is quiet =
    let blind : IsBlind shape private.worker private.begun private.stage = stores_blindly shape private.worker private.begun private.stage store in
    record {
      busy = busy;
      does = plain_does shape private;
      goes = λ value goes. record {
        takes = blind.takes value;
        says = ap (λ (s : Stage × Note). s.1) (blind.leads value 0) ∙ quiet;
        next = ap (λ (b : ℕ). let p : Private = record { worker = private.worker; begun = b; stage = (outcome_at shape private.worker private.begun private.stage value).0 } in p) (blind.knows value 0)
            ∙ ap (λ (s : Stage × Note). let p : Private = record { worker = private.worker; begun = begun_after private.begun private.stage 0; stage = s.0 } in p) (blind.leads value 0)
            ∙ sym is;
      };
    }

-- The loop over stores: the last action of the batch is the store that `ahead` makes.
pub record TellsStores (shape : Shape) (until : ℕ) (start ahead : Private) (batch : Batch) : Type 0 where
  pub private : IsPrivate shape ahead
  pub store : IsStore (private_action shape ahead)
  pub busy : ahead.stage ≢ Resting
  pub before : List FlatAction
  pub leads : PredictsUpTo shape until start before ahead
  pub is : batch_actions batch ≡ before ++ flat_action shape (private_action shape ahead) ∷ []
  pub some : 1 ≤ batch.count
  pub few : batch.count ≤ 96

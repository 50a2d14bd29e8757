-- One own step, made twice from the same memory.
use Rattle.std.proofs.Common.{◌≡◌, ◌≢◌, ℕ, sym, ap, ◌∙◌, inl, inr}
use Rattle.std.specs.Prelude.{◌⊎◌}
use Rattle.std.proofs.lemmas.Bool.{cases_eq}
use Rattle.std.proofs.Math.Path.{fun_ext}
use Rattle.rme_words.specs.declared.address.Address.{Address}
use Rattle.rme_words.specs.declared.shape.Shape.{Shape}
use Rattle.rme_words.specs.Words.{StoreEffect}
use Rattle.rme_program.specs.declared.action.Action.{Action}
use Rattle.rme_program.specs.declared.action.Action.TheVariants.{Load, Store, Swap}
use Rattle.rme_program.specs.declared.note.Note.{Note}
use Rattle.rme_program.specs.declared.private.Private.{Private}
use Rattle.rme_program.specs.declared.stage.Stage.{Stage}
use Rattle.rme_program.specs.ActionEffects.{ActionEffect}
use Rattle.rme_program.specs.Steps.{private_action, outcome_at, begun_after, private_after, note_after}
use Rattle.rme_program.proofs.Blind.{IsStore, IsBlind, stores_blindly}

-- The same store to the same words leaves the same words.
wrote_one : (old one other : Address → ℕ) (address : Address) (value : ℕ) → StoreEffect old one address value
    → StoreEffect old other address value → (at : Address) → one at ≡ other at
wrote_one old one other address value first second at = elim (cases_eq (one at) (other at)) [
  | inl same ↦ same
  | inr differ ↦
      (let off : at ≢ address = λ is. differ (ap one is ∙ first.at ∙ sym second.at ∙ sym (ap other is)) in
      first.off at off ∙ sym (second.off at off))
]

pub wrote_same : (old one other : Address → ℕ) (address : Address) (value : ℕ) → StoreEffect old one address value
    → StoreEffect old other address value → one ≡ other
wrote_same old one other address value first second = fun_ext (wrote_one old one other address value first second)

-- The effect of an action on a memory.
pub did_same : (old one other : Address → ℕ) (action : Action) (found again : ℕ) → ActionEffect old one action found
    → ActionEffect old other action again → one ≡ other
did_same old one other (Load address) found again first second = first.1 ∙ sym second.1
did_same old one other (Store address value) found again first second = wrote_same old one other address value first second
did_same old one other (Swap address from to) found again first second = elim (cases_eq found from) [
  | inl free ↦ wrote_same old one other address to (first.1 free) (second.1 (second.0 ∙ sym first.0 ∙ free))
  | inr held ↦ first.2 held ∙ sym (second.2 (λ free. held (first.0 ∙ sym second.0 ∙ free)))
]

-- The value that an action finds, unless it is a store.
pub found_same : (old one other : Address → ℕ) (action : Action) (found again : ℕ) → ActionEffect old one action found
    → ActionEffect old other action again → IsStore action ⊎ (found ≡ again)
found_same old one other (Load address) found again first second = inr (first.0 ∙ sym second.0)
found_same old one other (Store address value) found again first second = inl tt
found_same old one other (Swap address from to) found again first second = inr (first.0 ∙ sym second.0)

-- The worker's private state after the step, and the note of the step.
module _ (shape : Shape) (private : Private) (found again : ℕ) where
  by_blind : IsBlind shape private.worker private.begun private.stage
      → (private_after shape private found ≡ private_after shape private again) ×
      (note_after shape private found ≡ note_after shape private again)
  by_blind blind =
      let leads = blind.leads found again in (
        ap (λ (b : ℕ). let p : Private = record { worker = private.worker; begun = b; stage = (outcome_at shape private.worker private.begun private.stage found).0 } in p) (blind.knows found again)
            ∙ ap (λ (s : Stage × Note). let p : Private = record { worker = private.worker; begun = begun_after private.begun private.stage again; stage = s.0 } in p) leads,
        ap (λ (s : Stage × Note). s.1) leads,
      )

  by_value : found ≡ again
      → (private_after shape private found ≡ private_after shape private again) ×
      (note_after shape private found ≡ note_after shape private again)
  by_value same = (ap (private_after shape private) same, ap (note_after shape private) same)

  pub after_same : IsStore (private_action shape private) ⊎ (found ≡ again)
      → (private_after shape private found ≡ private_after shape private again) × (note_after shape private found ≡ note_after shape private again)
  after_same (inl store) = by_blind (stores_blindly shape private.worker private.begun private.stage store)
  after_same (inr same) = by_value same

-- A list of events: the effect and the answer of each are those of its single call.
use Rattle.std.specs.Prelude.{◌≡◌, ◌≢◌, ℕ, List, [], ◌∷◌, Result}
use Rattle.rme_words.specs.declared.refusal.Refusal.{Refusal}
use Rattle.rme_words.specs.declared.refusal.Refusal.TheVariants.{NoMemory}
use Rattle.rme_program.specs.declared.event.Event.{Event}
use Rattle.rme_program.specs.declared.event.Event.TheVariants.{Submit, Step, Crash, Restart, Withdraw}
use Rattle.rme_program.specs.declared.event.Answer.{Answer}
use Rattle.rme_program.specs.declared.event.Answer.TheVariants as answer
use Rattle.rme_program.specs.declared.note.Note.{Note}
use Rattle.rme_world.specs.WorldViews.{WorldView}
use Rattle.rme_world.specs.Refinement.{answer_of_call}
use Rattle.rme_world.specs.Calls.{SubmitContract, StepContract, CrashContract, RestartContract, WithdrawContract}

-- The answer is that of the event's single call, with the whole contract of that call.
abbrev pub EventContract : WorldView → Event → Answer → WorldView → Type 0
EventContract old (Submit worker job) given new =
    (result : Result ℕ Refusal) × (given ≡ answer_of_call answer.Handed result)
    × SubmitContract old worker job result new
EventContract old (Step worker) given new =
    (result : Result Note Refusal) × (given ≡ answer_of_call answer.Stepped result) × StepContract old worker result new
EventContract old (Crash worker) given new =
    (result : Result (Unit {0}) Refusal) × (given ≡ answer_of_call (λ _. answer.Crashed) result)
    × CrashContract old worker result new
EventContract old (Restart worker) given new =
    (result : Result (Unit {0}) Refusal) × (given ≡ answer_of_call (λ _. answer.Restarted) result)
    × RestartContract old worker result new
EventContract old (Withdraw worker) given new =
    (result : Result (Unit {0}) Refusal) × (given ≡ answer_of_call (λ _. answer.Withdrawing) result)
    × WithdrawContract old worker result new

-- In a list no event is refused by `NoMemory`.
pub record ListedEventContract (old : WorldView) (event : Event) (given : Answer) (new : WorldView) : Type 0 where
  pub call : EventContract old event given new
  pub memory : given ≢ answer.Refused NoMemory

-- The events of a list in order, from the first world to the last.
abbrev pub EventListContract : WorldView → List Event → List Answer → WorldView → Type 0
EventListContract old [] [] new = new ≡ old
EventListContract old (event ∷ events) (given ∷ answers) new =
    (mid : WorldView) × ListedEventContract old event given mid × EventListContract mid events answers new
EventListContract old _ _ new = ⊥

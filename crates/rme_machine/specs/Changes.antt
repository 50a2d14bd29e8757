-- How private states and histories change with a step.
use Rattle.std.specs.Prelude.{◌≡◌, ◌≢◌, ℕ, List, [], ◌∷◌, ◌++◌, Option}
use Rattle.rme_words.specs.declared.address.Address.{Address}
use Rattle.rme_program.specs.declared.note.Entry.{Entry}
use Rattle.rme_program.specs.declared.note.Note.{Note}
use Rattle.rme_program.specs.declared.note.Note.TheVariants.{Quiet, Asked, Blocked, Entered, Reentered, Finished, Left, Ready, Withdrew}
use Rattle.rme_program.specs.declared.private.Private.{Private}
use Rattle.rme_machine.specs.Views.{worker_words, slate_job}
use Rattle.rme_machine.specs.AbstractState.{Privates}

-- One worker's private state is replaced, removed or added; every other worker's is unchanged.
pub record PrivateChange (old new : Privates) (worker : ℕ) (private : Option Private) : Type 0 where
  pub at : new worker ≡ private
  pub off : (other : ℕ) → other ≢ worker → new other ≡ old other

-- The history grows by the receipt of a finished section, with the script of the worker's slate.
abbrev pub history_after : List Entry → (Address → ℕ) → ℕ → Note → List Entry
history_after history memory worker Quiet = history
history_after history memory worker (Asked k) = history
history_after history memory worker Blocked = history
history_after history memory worker (Entered lock) = history
history_after history memory worker (Reentered lock) = history
history_after history memory worker (Finished receipt) =
    history ++ record { receipt = receipt; script = (slate_job (worker_words memory worker)).script } ∷ []
history_after history memory worker (Left lock) = history
history_after history memory worker Ready = history
history_after history memory worker (Withdrew k) = history

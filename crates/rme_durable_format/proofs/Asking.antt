-- The commands of an event batch ask for exactly its events.
use Rattle.std.proofs.Common.{◌≡◌, ℕ, zero, suc, List, [], ◌∷◌, ◌++◌, refl, sym, ◌∙◌, ap}
use Rattle.std.specs.Prelude.{Bool, true, false, replicate}
use Rattle.rme_program.specs.declared.event.Event.{Event}
use Rattle.rme_program.specs.declared.event.Event.TheVariants as event
use Rattle.rme_session_world.specs.EventBatches.{start_events, batch_events, crash_events, step_events}
use Rattle.rme_session_world.specs.declared.event_batch.EventBatch.{EventBatch}
use Rattle.rme_session_world.specs.declared.event_batch.BatchStart.{BatchStart}
use Rattle.rme_session_world.specs.declared.event_batch.BatchStart.TheVariants.{Restart, Submit, Withdraw, GoOn}
use Rattle.rme_wire.specs.declared.command.Command.{Command}
use Rattle.rme_durable_format.specs.BatchCommands.{all_asked_events, start_commands, batch_commands, asked_events, crash_commands, step_commands}

append_empty : {A : Type 0} (xs : List A) → xs ++ [] ≡ xs
append_empty [] = refl
append_empty (x ∷ xs) = ap (λ (rest : List _). x ∷ rest) (append_empty xs)

append_thrice : {A : Type 0} (xs ys zs : List A) → (xs ++ ys) ++ zs ≡ xs ++ (ys ++ zs)
append_thrice [] ys zs = refl
append_thrice (x ∷ xs) ys zs = ap (λ (rest : List _). x ∷ rest) (append_thrice xs ys zs)

asked_then : (first second : List Command) → all_asked_events (first ++ second) ≡ all_asked_events first ++ all_asked_events second
asked_then [] second = refl
asked_then (command ∷ first) second = ap (λ (rest : List Event). asked_events command ++ rest) (asked_then first second) ∙ sym (append_thrice (asked_events command) (all_asked_events first) (all_asked_events second))

begins : (worker : ℕ) (begin : BatchStart) → all_asked_events (start_commands worker begin) ≡ start_events worker begin
begins worker Restart = refl
begins worker (Submit job) = refl
begins worker Withdraw = refl
begins worker GoOn = refl

walks : (worker steps : ℕ) → all_asked_events (step_commands worker steps) ≡ step_events worker steps
walks worker zero = refl
walks worker (suc steps) = append_empty (replicate (suc steps) (event.Step worker))

falls : (worker : ℕ) (fell : Bool) → all_asked_events (crash_commands worker fell) ≡ crash_events worker fell
falls worker true = refl
falls worker false = refl

pub batch_asks : (batch : EventBatch) → all_asked_events (batch_commands batch) ≡ batch_events batch
batch_asks batch =
    asked_then (start_commands batch.worker batch.begins) (step_commands batch.worker batch.steps ++ crash_commands batch.worker batch.falls)
    ∙ ap (λ (b : List Event). b ++ all_asked_events (step_commands batch.worker batch.steps ++ crash_commands batch.worker batch.falls)) (begins batch.worker batch.begins)
    ∙ ap (λ (r : List Event). start_events batch.worker batch.begins ++ r) (asked_then (step_commands batch.worker batch.steps) (crash_commands batch.worker batch.falls)
    ∙ ap (λ (w : List Event). w ++ all_asked_events (crash_commands batch.worker batch.falls)) (walks batch.worker batch.steps)
    ∙ ap (λ (f : List Event). step_events batch.worker batch.steps ++ f) (falls batch.worker batch.falls))

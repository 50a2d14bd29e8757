-- The same entries lead from alike states to alike states.
use Rattle.std.proofs.Common.{◌≡◌, ◌+◌, ℕ, List, [], ◌∷◌, sym, ap, ap₂, subst, ◌∙◌}
use Rattle.std.specs.Prelude.{Option, slice_set}
use Rattle.rme_session_world.specs.EventBatches.{batch_events}
use Rattle.rme_session_world.specs.SessionBatches.{AppliesSessionBatch, holder_by}
use Rattle.rme_session_world.specs.declared.event_batch.EventBatch.{EventBatch}
use Rattle.rme_durable_log.specs.declared.log_entry.LogEntry.{LogEntry}
use Rattle.rme_durable_log.specs.declared.log_entry.LogEntry.TheVariants.{Barrier, Lines, Whole}
use Rattle.rme_durable_epochs.specs.declared.epoch_base.Base.{Base}
use Rattle.rme_durable_format.specs.Lives.{lives_after_batch}
use Rattle.rme_durable_server.specs.ServerHistories.{EntriesLead, EntryLeads, ServerState}
use Rattle.rme_laws.specs.Histories.{AreStatesAlike}
use Rattle.rme_laws.proofs.Batches.{same_batch}
use Rattle.rme_laws.proofs.Events.{all_happen}
use Rattle.rme_laws.proofs.HeaderPlaces.{base_places, header_places}
use Rattle.rme_laws.proofs.Lines.{starts_alike}

batch_alike : (session : ℕ) (batch : EventBatch) (old again one other : ServerState) → AreStatesAlike old again
    → AppliesSessionBatch session old.executor batch one.executor
    → AppliesSessionBatch session again.executor batch other.executor → one.lives ≡ other.lives
    → one.epoch ≡ other.epoch → one.base.places.items ≡ other.base.places.items → AreStatesAlike one other
batch_alike session batch old again one other alike first second lives epoch places = record {
  world = all_happen (batch_events batch) first.happened.0 second.happened.0 old.executor.world again.executor.world one.executor.world other.executor.world alike.world first.happened.1 second.happened.1;
  holders = first.holders ∙ (ap (λ (h : List (Option ℕ)). slice_set h batch.worker (holder_by batch.falls session)) alike.holders ∙ sym second.holders);
  lives = lives;
  epoch = epoch;
  places = places;
}

entry_alike : (names : List (List ℕ)) (entry : LogEntry) (old again one other : ServerState) → AreStatesAlike old again
    → EntryLeads names old entry one → EntryLeads names again entry other → AreStatesAlike one other
entry_alike names (Lines session lines) old again one other alike first second =
    let same : second.batch ≡ first.batch = same_batch names lines second.batch first.batch second.applies.some first.applies.some second.written first.written in
    batch_alike session first.batch old again one other alike first.applies (subst (λ (b : EventBatch). AppliesSessionBatch session again.executor b other.executor) same second.applies)
    (first.lives ∙ (ap₂ (λ (l : List ℕ) (b : EventBatch). lives_after_batch l b) alike.lives (sym same) ∙ sym second.lives)) (first.epoch ∙ (alike.epoch ∙ sym second.epoch))
    (ap (λ (b : Base). b.places.items) first.base ∙ (alike.places ∙ sym (ap (λ (b : Base). b.places.items) second.base)))
entry_alike names (Whole bytes) old again one other alike first second = record {
  world = (starts_alike bytes names names one.executor.world other.executor.world first.recovers second.recovers).1;
  holders = first.same.holders ∙ (alike.holders ∙ sym second.same.holders);
  lives = first.lives ∙ (alike.lives ∙ sym second.lives);
  epoch = first.epoch ∙ (ap (λ (n : ℕ). n + 1) alike.epoch ∙ sym second.epoch);
  places = base_places first.header.past second.header.past one.base other.base (header_places bytes names one.executor.world.shape other.executor.world.shape first.header.past second.header.past first.header.begins second.header.begins) first.header.base second.header.base;
}
entry_alike names Barrier old again one other alike first second = subst (λ (s : ServerState). AreStatesAlike s other) (sym first) (subst (λ (s : ServerState). AreStatesAlike old s) (sym second) alike)

pub all_alike : (names : List (List ℕ)) (log : List LogEntry) (old again one other : ServerState)
    → AreStatesAlike old again → EntriesLead names old log one → EntriesLead names again log other
    → AreStatesAlike one other
all_alike names [] old again one other alike first second = subst (λ (s : ServerState). AreStatesAlike s other) (sym first) (subst (λ (s : ServerState). AreStatesAlike old s) (sym second) alike)
all_alike names (entry ∷ log) old again one other alike first second = all_alike names log first.0 second.0 one other (entry_alike names entry old again first.0 second.0 alike first.1 second.1) first.2 second.2

-- The number of the epoch counts the checkpoints, and the bytes of a log begin with the header of the state to which the
-- log leads.
use Rattle.std.proofs.Common.{◌≡◌, ◌+◌, ℕ, List, [], ◌∷◌, ◌++◌, sym, ap, subst, ◌∙◌, inl, inr, arith}
use Rattle.rme_words.specs.declared.shape.Shape.{Shape}
use Rattle.rme_line_io.specs.Pieces.{InputLine, lines_of}
use Rattle.rme_program.specs.declared.event.Answer.{Answer}
use Rattle.rme_program.specs.declared.event.Event.{Event}
use Rattle.rme_program.specs.declared.event.Event.TheVariants as event
use Rattle.rme_world.specs.EventLists.{EventContract, EventListContract}
use Rattle.rme_world.specs.WorldViews.{WorldView}
use Rattle.rme_durable_log.specs.Logs.{KeepEarlierBytes, log_bytes_after}
use Rattle.rme_durable_log.specs.LogRules.{entry_lines}
use Rattle.rme_durable_log.specs.declared.log_entry.LogEntry.{LogEntry}
use Rattle.rme_durable_log.specs.declared.log_entry.LogEntry.TheVariants.{Barrier, Lines, Whole}
use Rattle.rme_durable_log.proofs.Texts.{bytes_after-append}
use Rattle.rme_durable_format.specs.Headers.{HeaderValues}
use Rattle.rme_durable_format.specs.Recovery.{BeginsWithHeader}
use Rattle.rme_durable_format.specs.WholeLines.{AreWholeLines}
use Rattle.rme_durable_epochs.specs.HeaderBases.{IsHeaderBase}
use Rattle.rme_durable_server.specs.ServerHistories.{BeginsEpoch, EntriesLead, HasStateHeader, ServerState}
use Rattle.rme_laws.specs.Histories.{checkpoint_count}
use Rattle.rme_laws.proofs.Prefixes.{bytes_grown, last_whole, lines_whole, split_lead}

-- ---- the number of the epoch

pub epochs_counted : (names : List (List ℕ)) (log : List LogEntry) (old new : ServerState)
    → EntriesLead names old log new → new.epoch ≡ old.epoch + checkpoint_count log
epochs_counted names [] old new lead = omega (arith, ap (λ (s : ServerState). s.epoch) lead)
epochs_counted names (Lines session lines ∷ log) old new lead = omega (arith, epochs_counted names log lead.0 new lead.2, lead.1.epoch)
epochs_counted names (Whole bytes ∷ log) old new lead = omega (arith, epochs_counted names log lead.0 new lead.2, lead.1.epoch)
epochs_counted names (Barrier ∷ log) old new lead = omega (arith, epochs_counted names log lead.0 new lead.2, ap (λ (s : ServerState). s.epoch) lead.1)

-- ---- lines keep what a header says

event_shape : (one : Event) (given : Answer) (old new : WorldView) → EventContract old one given new
    → new.shape ≡ old.shape
event_shape (event.Submit u job) given old new call = call.2.headline.shape
event_shape (event.Step u) given old new call = call.2.headline.shape
event_shape (event.Crash u) given old new call = call.2.headline.shape
event_shape (event.Restart u) given old new call = call.2.headline.shape
event_shape (event.Withdraw u) given old new call = call.2.headline.shape

list_shape : (events : List Event) (given : List Answer) (old new : WorldView) → EventListContract old events given new
    → new.shape ≡ old.shape
list_shape [] [] old new all = ap (λ (s : WorldView). s.shape) all
list_shape [] (a ∷ given) old new all = absurd all
list_shape (one ∷ events) [] old new all = absurd all
list_shape (one ∷ events) (a ∷ given) old new all = list_shape events given all.0 new all.2 ∙ event_shape one a old all.0 all.1.call

lines_keep : (names : List (List ℕ)) (log : List LogEntry) (old new : ServerState) → KeepEarlierBytes log
    → EntriesLead names old log new
    → (new.executor.world.shape ≡ old.executor.world.shape) × (new.base ≡ old.base) × (new.epoch ≡ old.epoch)
lines_keep names [] old new all lead = (ap (λ (s : ServerState). s.executor.world.shape) lead, ap (λ (s : ServerState). s.base) lead, ap (λ (s : ServerState). s.epoch) lead)
lines_keep names (Lines session lines ∷ log) old new all lead =
    let happened = lead.1.applies.happened in
    let shape = list_shape _ happened.0 old.executor.world lead.0.executor.world happened.1 in
    let rest = lines_keep names log lead.0 new all lead.2 in
    (rest.0 ∙ shape, rest.1 ∙ lead.1.base, rest.2 ∙ lead.1.epoch)
lines_keep names (Whole bytes ∷ log) old new all lead = absurd all
lines_keep names (Barrier ∷ log) old new all lead =
    let rest = lines_keep names log lead.0 new all lead.2 in
    (rest.0 ∙ ap (λ (s : ServerState). s.executor.world.shape) lead.1, rest.1 ∙ ap (λ (s : ServerState). s.base) lead.1, rest.2 ∙ ap (λ (s : ServerState). s.epoch) lead.1)

-- ---- the header

header_more : (first more : List ℕ) (names : List (List ℕ)) (shape : Shape) (past : HeaderValues) → AreWholeLines first
    → BeginsWithHeader first names shape past → BeginsWithHeader (first ++ more) names shape past
header_more first more names shape past whole begins = record {
  first = begins.first;
  lines = begins.lines ++ lines_of more;
  are = lines_whole first more whole ∙ ap (λ (ls : List InputLine). ls ++ lines_of more) begins.are;
  header = begins.header;
}

grown_header : (names : List (List ℕ)) (first : List ℕ) (log : List LogEntry) (start state : ServerState)
    → KeepEarlierBytes log → AreWholeLines first → HasStateHeader names first start → EntriesLead names start log state
    → HasStateHeader names (first ++ entry_lines log) state
grown_header names first log start state all whole from lead =
    let keeps = lines_keep names log start state all lead in
    let begins = header_more first (entry_lines log) names start.executor.world.shape from.past whole from.begins in
    record {
      past = from.past;
      begins = subst (λ (s : Shape). BeginsWithHeader (first ++ entry_lines log) names s from.past) (sym keeps.0) begins;
      number = from.number ∙ sym keeps.2;
      base = subst (IsHeaderBase from.past) (sym keeps.1) from.base;
    }

pub prefix_header : (names : List (List ℕ)) (first : List ℕ) (log : List LogEntry) (start state : ServerState)
    → AreWholeLines first → HasStateHeader names first start → EntriesLead names start log state
    → HasStateHeader names (log_bytes_after first log) state
prefix_header names first log start state whole from lead = elim (last_whole log) [
  | inl all ↦ subst (λ (b : List ℕ). HasStateHeader names b state) (sym (bytes_grown first log all)) (grown_header names first log start state all whole from lead)
  | inr last ↦
      (let parts = split_lead names last.0 (Whole last.1 ∷ last.2) start state (subst (λ (l : List LogEntry). EntriesLead names start l state) last.4 lead) in
      let epoch : BeginsEpoch names parts.0 last.1 parts.2.0 = parts.2.1 in
      let bytes : log_bytes_after first log ≡ last.1 ++ entry_lines last.2 = ap (log_bytes_after first) last.4 ∙ (bytes_after-append first last.0 (Whole last.1 ∷ last.2) ∙ bytes_grown last.1 last.2 last.3) in
      subst (λ (b : List ℕ). HasStateHeader names b state) (sym bytes) (grown_header names last.1 last.2 parts.2.0 state last.3 epoch.whole epoch.header parts.2.2))
]

-- Recovery of the bytes of a log leads to the state to which the log leads.
use Rattle.std.proofs.Common.{◌≡◌, ◌⊎◌, ℕ, zero, suc, ◌≤◌, ◌==◌, true, false, List, [], ◌∷◌, ◌++◌, length, map, refl, sym, ap, subst, ◌∙◌, inl, inr, append_assoc}
use Rattle.std.specs.Prelude.{Bool, Option, Some, None}
use Rattle.std.proofs.lemmas.Bool.{cases_Bool, le-leb}
use Rattle.std.proofs.lemmas.List.{append-nil, map-append}
use Rattle.std.proofs.lemmas.Option.{same_Some}
use Rattle.rme_line_io.specs.Pieces.{InputLine, line_of, lines_of, pieces, text}
use Rattle.rme_line_io.proofs.PieceLemmas.{lines_ended, lines_none}
use Rattle.rme_program.specs.declared.event.Event.{Event}
use Rattle.rme_wire.specs.declared.command.Command.{Command}
use Rattle.rme_world.specs.WorldViews.{WorldView}
use Rattle.rme_line_engine.specs.EngineStates.{EngineState, nothing_open}
use Rattle.rme_line_engine.specs.declared.tallied.TalliedWorld.{TalliedWorld}
use Rattle.rme_session_world.specs.EventBatches.{AppliesEvents, batch_events, crash_events, start_events, step_events}
use Rattle.rme_session_world.specs.declared.event_batch.BatchStart.{BatchStart}
use Rattle.rme_session_world.specs.declared.event_batch.BatchStart.TheVariants.{Restart, Submit, Withdraw, GoOn}
use Rattle.rme_session_world.specs.declared.event_batch.EventBatch.{EventBatch}
use Rattle.rme_durable_log.specs.Logs.{KeepEarlierBytes, log_bytes_after}
use Rattle.rme_durable_log.specs.LogRules.{entry_lines}
use Rattle.rme_durable_log.specs.declared.log_entry.LogEntry.{LogEntry}
use Rattle.rme_durable_log.specs.declared.log_entry.LogEntry.TheVariants.{Barrier, Lines, Whole}
use Rattle.rme_durable_log.proofs.Texts.{bytes_after-append, bytes_of-more}
use Rattle.rme_durable_format.specs.BatchCommands.{all_asked_events, asked_events, batch_commands, crash_commands, start_commands, step_commands}
use Rattle.rme_durable_format.specs.CommandLines.{AppendsCommands}
use Rattle.rme_durable_format.specs.Recovery.{AcceptsLines, RecoversWorld}
use Rattle.rme_durable_format.specs.WholeLines.{AreWholeLines}
use Rattle.rme_durable_server.specs.ServerHistories.{AppendsSessionBatch, BeginsEpoch, EntriesLead, ServerState}
use Rattle.rme_durable_server.proofs.Growing.{appends_from}
use Rattle.rme_laws.specs.AlikeWorlds.{AreWorldsAlike}
use Rattle.rme_laws.specs.Histories.{RecoversState}
use Rattle.rme_laws.specs.LoggedLines.{AreCommandLines, HasAlikeWorldOpen, IsOrderCommand}
use Rattle.rme_laws.proofs.Events.{alike_itself}
use Rattle.rme_laws.proofs.Lines.{OpenAlike, Same, accept_all}
use Rattle.rme_laws.proofs.Reading.{all_read}
use Rattle.rme_laws.proofs.Still.{alike_then}

-- ---- lines of bytes

pieces_whole : (seen front more : List ℕ)
    → pieces seen ((front ++ 10 ∷ []) ++ more) ≡ pieces seen (front ++ 10 ∷ []) ++ pieces [] more
unfolding pieces
pieces_whole seen [] more = refl
pieces_whole seen (b ∷ front) more = elim (cases_Bool (b == 10)) [
  | inl t ↦ rw t (ap (λ (p : List (List ℕ)). seen ∷ p) (pieces_whole [] front more))
  | inr f ↦ rw f (pieces_whole (seen ++ b ∷ []) front more)
]

pub lines_whole : (first more : List ℕ) → AreWholeLines first
    → lines_of (first ++ more) ≡ lines_of first ++ lines_of more
unfolding lines_of
lines_whole first more (front, is) =
    let cut = pieces_whole [] front more ∙ ap (λ (b : List ℕ). pieces [] b ++ pieces [] more) (sym is) in
    ap (λ (b : List ℕ). map line_of (pieces [] (b ++ more))) is ∙ (ap (map line_of) cut ∙ map-append line_of (pieces [] first) (pieces [] more))

-- ---- the lines of a batch

abbrev pub AreOrders : List Command → Type 0
AreOrders [] = Unit {0}
AreOrders (command ∷ commands) = IsOrderCommand command × AreOrders commands

orders_append : (one two : List Command) → AreOrders one → AreOrders two → AreOrders (one ++ two)
orders_append [] two all more = more
orders_append (c ∷ one) two all more = (all.0, orders_append one two all.1 more)

start_orders : (worker : ℕ) (begins : BatchStart) → AreOrders (start_commands worker begins)
start_orders worker Restart = (refl, tt)
start_orders worker (Submit job) = (refl, tt)
start_orders worker Withdraw = (refl, tt)
start_orders worker GoOn = tt

step_orders : (worker steps : ℕ) → AreOrders (step_commands worker steps)
step_orders worker zero = tt
step_orders worker (suc steps) = (refl, tt)

crash_orders : (worker : ℕ) (falls : Bool) → AreOrders (crash_commands worker falls)
crash_orders worker true = (refl, tt)
crash_orders worker false = tt

batch_orders : (batch : EventBatch) → AreOrders (batch_commands batch)
batch_orders batch =
    orders_append (start_commands batch.worker batch.begins) (step_commands batch.worker batch.steps ++ crash_commands batch.worker batch.falls) (start_orders batch.worker batch.begins)
    (orders_append (step_commands batch.worker batch.steps) (crash_commands batch.worker batch.falls) (step_orders batch.worker batch.steps) (crash_orders batch.worker batch.falls))

-- The commands ask for the batch's events.
asked_append : (one two : List Command) → all_asked_events (one ++ two) ≡ all_asked_events one ++ all_asked_events two
asked_append [] two = refl
asked_append (c ∷ one) two = ap (λ (es : List Event). asked_events c ++ es) (asked_append one two) ∙ sym (append_assoc (asked_events c) (all_asked_events one) (all_asked_events two))

start_asked : (worker : ℕ) (begins : BatchStart)
    → all_asked_events (start_commands worker begins) ≡ start_events worker begins
start_asked worker Restart = refl
start_asked worker (Submit job) = refl
start_asked worker Withdraw = refl
start_asked worker GoOn = refl

step_asked : (worker steps : ℕ) → all_asked_events (step_commands worker steps) ≡ step_events worker steps
step_asked worker zero = refl
step_asked worker (suc steps) = append-nil (step_events worker (suc steps))

crash_asked : (worker : ℕ) (falls : Bool) → all_asked_events (crash_commands worker falls) ≡ crash_events worker falls
crash_asked worker true = refl
crash_asked worker false = refl

batch_asked : (batch : EventBatch) → all_asked_events (batch_commands batch) ≡ batch_events batch
batch_asked batch =
    let w = batch.worker in
    asked_append (start_commands w batch.begins) (step_commands w batch.steps ++ crash_commands w batch.falls)
    ∙ (ap (λ (es : List Event). es ++ all_asked_events (step_commands w batch.steps ++ crash_commands w batch.falls)) (start_asked w batch.begins)
    ∙ ap (λ (es : List Event). start_events w batch.begins ++ es) (asked_append (step_commands w batch.steps) (crash_commands w batch.falls)
    ∙ (ap (λ (es : List Event). es ++ all_asked_events (crash_commands w batch.falls)) (step_asked w batch.steps)
    ∙ ap (λ (es : List Event). step_events w batch.steps ++ es) (crash_asked w batch.falls))))

short_line : (line : List ℕ) → length line ≤ 65536 → line_of line ≡ text line
short_line line short = rw (le-leb (length line) 65536 short) refl

-- The lines of the commands, before more bytes.
pub command_lines : (names : List (List ℕ)) (commands : List Command) (bytes more : List ℕ)
    → AppendsCommands names [] commands bytes → AreOrders commands
    → (lines : List (List ℕ)) × AreCommandLines names commands lines × (lines_of (bytes ++ more) ≡ map text lines ++ lines_of more)
command_lines names [] bytes more writes orders = ([], tt, ap (λ (b : List ℕ). lines_of (b ++ more)) writes)
command_lines names (command ∷ commands) bytes more writes orders =
    let line = writes.1.0 in
    let its = writes.1.1 in
    let rest = appends_from names writes.0 commands bytes writes.2 in
    let tail = command_lines names commands rest.0 more rest.2 orders.1 in
    let whole : bytes ++ more ≡ line ++ 10 ∷ (rest.0 ++ more) = ap (λ (b : List ℕ). b ++ more) (rest.1 ∙ ap (λ (m : List ℕ). m ++ rest.0) writes.1.2) ∙ (append_assoc (line ++ 10 ∷ []) rest.0 more ∙ append_assoc line (10 ∷ []) (rest.0 ++ more)) in
    let cut = ap lines_of whole ∙ (lines_ended line (rest.0 ++ more) its.piece ∙ ap (λ (l : InputLine). l ∷ lines_of (rest.0 ++ more)) (short_line line its.short)) in
    (line ∷ tail.0, (orders.0, its, tail.1), cut ∙ ap (λ (ls : List InputLine). text line ∷ ls) tail.2)

-- ---- accepted lines

pub split_accepts : (one two : List InputLine) (old new : EngineState) → AcceptsLines old (one ++ two) new
    → (mid : EngineState) × AcceptsLines old one mid × AcceptsLines mid two new
split_accepts [] two old new accepts = (old, refl, accepts)
split_accepts (line ∷ one) two old new accepts =
    let rest = split_accepts one two accepts.0 new accepts.2 in
    (rest.0, (accepts.0, accepts.1, rest.1), rest.2)

-- The entry of an event batch, before more bytes.
entry_read : (names : List (List ℕ)) (session : ℕ) (old new : ServerState) (bytes more : List ℕ) (from to : EngineState)
    → AppendsSessionBatch names session old bytes new → HasAlikeWorldOpen names old.executor.world from
    → AcceptsLines from (lines_of (bytes ++ more)) to
    → (mid : EngineState) × HasAlikeWorldOpen names new.executor.world mid × AcceptsLines mid (lines_of more) to
entry_read names session old new bytes more from to appended opened accepts =
    let batch = appended.batch in
    let lines = command_lines names (batch_commands batch) bytes more appended.written (batch_orders batch) in
    let parts = split_accepts (map text lines.0) (lines_of more) from to (subst (λ (ls : List InputLine). AcceptsLines from ls to) lines.2 accepts) in
    let happened : AppliesEvents old.executor.world (all_asked_events (batch_commands batch)) new.executor.world = subst (λ (es : List Event). AppliesEvents old.executor.world es new.executor.world) (sym (batch_asked batch)) appended.applies.happened in
    (parts.0, all_read names (batch_commands batch) lines.0 old.executor.world new.executor.world happened.0 from parts.0 lines.1 opened happened.1 parts.1, parts.2)

entries_read : (names : List (List ℕ)) (log : List LogEntry) (old new : ServerState) (from to : EngineState)
    → KeepEarlierBytes log → EntriesLead names old log new → HasAlikeWorldOpen names old.executor.world from
    → AcceptsLines from (lines_of (entry_lines log)) to → HasAlikeWorldOpen names new.executor.world to
entries_read names [] old new from to all lead opened accepts =
    let left : to ≡ from = subst (λ (ls : List InputLine). AcceptsLines from ls to) lines_none accepts in
    subst (λ (s : ServerState). HasAlikeWorldOpen names s.executor.world to) (sym lead) (subst (HasAlikeWorldOpen names old.executor.world) (sym left) opened)
entries_read names (Lines session bytes ∷ log) old new from to all lead opened accepts =
    let one = entry_read names session old lead.0 bytes (entry_lines log) from to lead.1 opened accepts in
    entries_read names log lead.0 new one.0 to all lead.2 one.1 one.2
entries_read names (Whole bytes ∷ log) old new from to all lead opened accepts = absurd all
entries_read names (Barrier ∷ log) old new from to all lead opened accepts =
    entries_read names log lead.0 new from to all lead.2 (subst (λ (s : ServerState). HasAlikeWorldOpen names s.executor.world from) (sym lead.1) opened) accepts

-- ---- a log that only grew

pub open_by : (names : List (List ℕ)) (seen : WorldView) (tallied : TalliedWorld) (mid : EngineState)
    (world : Option TalliedWorld)
    → mid.world ≡ world → Same record { names = names; world = Some tallied } mid → AreWorldsAlike seen tallied.world
    → HasAlikeWorldOpen names seen mid
open_by names seen tallied mid None is same alike = absurd (subst (λ (w : Option TalliedWorld). OpenAlike (Some tallied) w) is same.1)
open_by names seen tallied mid (Some found) is same alike =
    let opened = subst (λ (w : Option TalliedWorld). OpenAlike (Some tallied) w) is same.1 in
    let left : mid ≡ record { names = names; world = Some found } = ap (λ (w : Option TalliedWorld). record { names = mid.names; world = w }) is ∙ ap (λ (n : List (List ℕ)). record { names = n; world = Some found }) (sym same.0) in
    record { tallied = found; is = left; alike = alike_then seen tallied.world found.world alike opened }

unfoldable pub rest_of : List InputLine → List InputLine
rest_of [] = []
rest_of (line ∷ lines) = lines

pub rest_front : (header : InputLine) (lines more whole : List InputLine) → whole ≡ header ∷ lines
    → rest_of (whole ++ more) ≡ lines ++ more
unfolding rest_of
rest_front header lines more whole is = ap (λ (w : List InputLine). rest_of (w ++ more)) is

pub rest_is : (header : InputLine) (lines whole : List InputLine) → whole ≡ header ∷ lines → rest_of whole ≡ lines
unfolding rest_of
rest_is header lines whole is = ap rest_of is

pub final_alike : (names others : List (List ℕ)) (seen : WorldView) (tallied : TalliedWorld) (world : WorldView)
    → tallied.world ≡ world → HasAlikeWorldOpen names seen record { names = others; world = Some tallied }
    → (names ≡ others) × AreWorldsAlike seen world
final_alike names others seen tallied world its opened =
    let named = ap (λ (s : EngineState). s.names) opened.is in
    let same : tallied ≡ opened.tallied = same_Some _ _ (ap (λ (s : EngineState). s.world) opened.is) in
    (sym named, subst (AreWorldsAlike seen) (ap (λ (t : TalliedWorld). t.world) (sym same) ∙ its) opened.alike)

grown_recovers : (names others : List (List ℕ)) (first : List ℕ) (log : List LogEntry) (start state : ServerState)
    (world : WorldView)
    → KeepEarlierBytes log → AreWholeLines first → RecoversState names first start → EntriesLead names start log state
    → RecoversWorld (first ++ entry_lines log) others world → (names ≡ others) × AreWorldsAlike state.executor.world world
grown_recovers names others first log start state world all whole from lead recovers =
    let before = from.recovers in
    let final : EngineState = record { names = others; world = Some recovers.tallied } in
    let begun : EngineState = record { names = names; world = Some before.tallied } in
    let lines : recovers.lines ≡ before.lines ++ lines_of (entry_lines log) = sym (rest_is recovers.header recovers.lines (lines_of (first ++ entry_lines log)) recovers.are) ∙ (ap rest_of (lines_whole first (entry_lines log) whole) ∙ rest_front before.header before.lines (lines_of (entry_lines log)) (lines_of first) before.are) in
    let parts = split_accepts before.lines (lines_of (entry_lines log)) nothing_open final (subst (λ (ls : List InputLine). AcceptsLines nothing_open ls final) lines recovers.accepts) in
    let same = accept_all before.lines nothing_open nothing_open begun parts.0 (refl, tt) before.accepts parts.1 in
    let alike : AreWorldsAlike start.executor.world before.tallied.world = subst (AreWorldsAlike start.executor.world) (sym before.its) from.alike in
    let opened = open_by names start.executor.world before.tallied parts.0 parts.0.world refl same alike in
    final_alike names others state.executor.world recovers.tallied world recovers.its (entries_read names log start state parts.0 final all lead opened parts.2)

-- ---- the last checkpoint

abbrev pub LastWhole : List LogEntry → Type 0
LastWhole log = (front : List LogEntry) × (bytes : List ℕ) × (rest : List LogEntry) × KeepEarlierBytes rest × (log ≡ front ++ Whole bytes ∷ rest)

pub last_whole : (log : List LogEntry) → KeepEarlierBytes log ⊎ LastWhole log
last_whole [] = inl tt
last_whole (Lines session lines ∷ log) = elim (last_whole log) [
  | inl all ↦ inl all
  | inr last ↦ inr (Lines session lines ∷ last.0, last.1, last.2, last.3, ap (λ (l : List LogEntry). Lines session lines ∷ l) last.4)
]
last_whole (Whole bytes ∷ log) = elim (last_whole log) [
  | inl all ↦ inr ([], bytes, log, all, refl)
  | inr last ↦ inr (Whole bytes ∷ last.0, last.1, last.2, last.3, ap (λ (l : List LogEntry). Whole bytes ∷ l) last.4)
]
last_whole (Barrier ∷ log) = elim (last_whole log) [
  | inl all ↦ inl all
  | inr last ↦ inr (Barrier ∷ last.0, last.1, last.2, last.3, ap (λ (l : List LogEntry). Barrier ∷ l) last.4)
]

pub split_lead : (names : List (List ℕ)) (one two : List LogEntry) (old new : ServerState)
    → EntriesLead names old (one ++ two) new
    → (mid : ServerState) × EntriesLead names old one mid × EntriesLead names mid two new
split_lead names [] two old new lead = (old, refl, lead)
split_lead names (entry ∷ one) two old new lead =
    let rest = split_lead names one two lead.0 new lead.2 in
    (rest.0, (lead.0, lead.1, rest.1), rest.2)

pub bytes_grown : (first : List ℕ) (log : List LogEntry) → KeepEarlierBytes log
    → log_bytes_after first log ≡ first ++ entry_lines log
bytes_grown first log all = bytes_of-more (Whole first ∷ []) log all

pub prefix_recovers : (names others : List (List ℕ)) (first : List ℕ) (log : List LogEntry) (start state : ServerState)
    (world : WorldView)
    → AreWholeLines first → RecoversState names first start → EntriesLead names start log state
    → RecoversWorld (log_bytes_after first log) others world → (names ≡ others) × AreWorldsAlike state.executor.world world
prefix_recovers names others first log start state world whole from lead recovers = elim (last_whole log) [
  | inl all ↦ grown_recovers names others first log start state world all whole from lead (subst (λ (b : List ℕ). RecoversWorld b others world) (bytes_grown first log all) recovers)
  | inr last ↦
      (let parts = split_lead names last.0 (Whole last.1 ∷ last.2) start state (subst (λ (l : List LogEntry). EntriesLead names start l state) last.4 lead) in
      let epoch : BeginsEpoch names parts.0 last.1 parts.2.0 = parts.2.1 in
      let bytes : log_bytes_after first log ≡ last.1 ++ entry_lines last.2 = ap (log_bytes_after first) last.4 ∙ (bytes_after-append first last.0 (Whole last.1 ∷ last.2) ∙ bytes_grown last.1 last.2 last.3) in
      let again : RecoversState names last.1 parts.2.0 = record { world = parts.2.0.executor.world; recovers = epoch.recovers; alike = alike_itself parts.2.0.executor.world } in
      grown_recovers names others last.1 last.2 parts.2.0 state world last.3 epoch.whole again parts.2.2 (subst (λ (b : List ℕ). RecoversWorld b others world) bytes recovers))
]

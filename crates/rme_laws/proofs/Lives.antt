-- The lives of workers only grow along a server's log.
use Rattle.std.proofs.Common.{◌≡◌, ◌+◌, ◌-◌, ◌<◌, ◌≤◌, ◌^◌, ℕ, List, [], ◌∷◌, arith, inl, inr, length, min, subst, sym, ap, ◌∙◌}
use Rattle.std.specs.Prelude.{◌≢◌, Some}
use Rattle.std.proofs.lemmas.Bool.{cases_eq, cases_lt}
use Rattle.std.proofs.lemmas.List.{get_or-set_other, get_or-set_same, set_past}
use Rattle.rme_session_world.specs.declared.event_batch.BatchStart.{BatchStart}
use Rattle.rme_session_world.specs.declared.event_batch.BatchStart.TheVariants as begins
use Rattle.rme_durable_log.specs.declared.log_entry.LogEntry.{LogEntry}
use Rattle.rme_durable_log.specs.declared.log_entry.LogEntry.TheVariants.{Barrier, Lines, Whole}
use Rattle.rme_durable_format.specs.Lives.{life_of, lives_after_start, one_more_life}
use Rattle.rme_session_protocol.specs.SessionSteps.{TellsLife}
use Rattle.rme_session_protocol.specs.declared.order.Attachment.{Attachment}
use Rattle.rme_session_protocol.specs.declared.order.Order.{Order}
use Rattle.rme_session_protocol.specs.declared.order.Order.TheVariants.{Attach}
use Rattle.rme_session_protocol.specs.declared.reply.FencingToken.{FencingToken}
use Rattle.rme_session_protocol.specs.declared.reply.JobOutcome.TheVariants.{Inside}
use Rattle.rme_session_protocol.specs.declared.reply.SessionReply.{SessionReply}
use Rattle.rme_session_protocol.specs.declared.reply.SessionReply.TheVariants.{Entered, Refused}
use Rattle.rme_session_protocol.specs.declared.view.PendingWorker.{PendingWorker}
use Rattle.rme_session_protocol.specs.declared.view.Session.{Session}
use Rattle.rme_session_protocol.specs.declared.view.Session.TheVariants.{Held, Nobody}
use Rattle.rme_session_world.specs.Executors.{executor_session_view}
use Rattle.rme_words.specs.declared.refusal.Refusal.TheVariants.{Overtaken}
use Rattle.rme_durable_epochs.specs.ClientLives.{IsRestartedAfter, TellsOvertaken}
use Rattle.rme_durable_server.specs.DurableOrders.{DurableAttempt}
use Rattle.rme_durable_server.specs.ServerHistories.{EntriesLead, EntryLeads, ServerOpening, ServerState, SessionMoment}
use Rattle.rme_laws.specs.Histories.{AreLivesWhole, HaveLivesGrown}

-- The count after one more restart.
abbrev counted : List ℕ → ℕ → ℕ
counted lives at = min (life_of lives at + 1) (2 ^ 64 - 1)

counted_more : (lives : List ℕ) (at : ℕ) → life_of lives at < 2 ^ 64
    → (life_of lives at ≤ counted lives at) × (counted lives at < 2 ^ 64)
counted_more lives at few = (omega (arith, few), omega (arith, few))

one_more_grows : (lives : List ℕ) (at worker : ℕ) → AreLivesWhole lives
    → (life_of lives worker ≤ life_of (one_more_life lives at) worker) × (life_of
    (one_more_life lives at) worker < 2 ^ 64)
one_more_grows lives at worker whole = elim (cases_lt at (length lives)) [
  | inl within ↦ (elim (cases_eq worker at) [
    | inl same ↦
        (let is : life_of (one_more_life lives at) worker ≡ counted lives at = ap (λ (w : ℕ). life_of (one_more_life lives at) w) same ∙ get_or-set_same lives at (counted lives at) 0 within in
        let more = counted_more lives at (whole at) in
        let before : life_of lives worker ≡ life_of lives at = ap (life_of lives) same in
        (omega (arith, is, before, more.0), omega (arith, is, more.1)))
    | inr apart ↦
        (let is : life_of (one_more_life lives at) worker ≡ life_of lives worker = get_or-set_other lives at worker (counted lives at) 0 apart in
        (omega (arith, is), omega (arith, is, whole worker)))
  ])
  | inr past ↦
      (let is : life_of (one_more_life lives at) worker ≡ life_of lives worker = ap (λ (l : List ℕ). life_of l worker) (set_past lives at (counted lives at) past) in
      (omega (arith, is), omega (arith, is, whole worker)))
]

start_grows : (lives : List ℕ) (at : ℕ) (start : BatchStart) → AreLivesWhole lives
    → HaveLivesGrown lives (lives_after_start lives at start) × AreLivesWhole (lives_after_start lives at start)
start_grows lives at begins.Restart whole = ((λ worker. (one_more_grows lives at worker whole).0), (λ worker. (one_more_grows lives at worker whole).1))
start_grows lives at start whole = ((λ worker. omega arith), whole)

entry_grows : (names : List (List ℕ)) (old : ServerState) (entry : LogEntry) (new : ServerState)
    → AreLivesWhole old.lives → EntryLeads names old entry new
    → HaveLivesGrown old.lives new.lives × AreLivesWhole new.lives
entry_grows names old (Lines session lines) new whole lead =
    let L : List ℕ → Type 0 = λ lives. HaveLivesGrown old.lives lives × AreLivesWhole lives in
    subst L (sym lead.lives) (start_grows old.lives lead.batch.worker lead.batch.begins whole)
entry_grows names old (Whole bytes) new whole lead =
    let L : List ℕ → Type 0 = λ lives. HaveLivesGrown old.lives lives × AreLivesWhole lives in
    subst L (sym lead.lives) ((λ worker. omega arith), whole)
entry_grows names old Barrier new whole lead =
    subst (λ (s : ServerState). HaveLivesGrown old.lives s.lives × AreLivesWhole s.lives) (sym lead) ((λ worker. omega arith), whole)

pub lives_grow : (names : List (List ℕ)) (log : List LogEntry) (old new : ServerState) → AreLivesWhole old.lives
    → EntriesLead names old log new → HaveLivesGrown old.lives new.lives
lives_grow names [] old new whole lead = subst (λ (s : ServerState). HaveLivesGrown old.lives s.lives) (sym lead) (λ worker. omega arith)
lives_grow names (entry ∷ log) old new whole lead =
    let first = entry_grows names old entry lead.0 whole lead.1 in
    let rest = lives_grow names log lead.0 new first.1 lead.2 in
    (λ worker. omega (arith, first.0 worker, rest worker))

pub finds_life : (opening : ServerOpening) (old held begun now : SessionMoment) (its : Order) (token : FencingToken)
    (pending : PendingWorker) (asked : Attachment) (answer : SessionReply) (log : List LogEntry)
    (enters : DurableAttempt opening old its held (Entered (Inside token)))
    (attaches : DurableAttempt opening begun (Attach asked) now answer)
    → AreLivesWhole enters.after.lives → EntriesLead opening.names enters.after log attaches.before → (executor_session_view enters.after.executor held.session).session ≡ Held pending
    → (executor_session_view attaches.before.executor begun.session).session ≡ Nobody → asked.worker ≡ pending.worker → asked.worker < attaches.before.executor.world.shape.workers → asked.after ≡ Some token.life → answer ≢ Refused Overtaken
    → life_of attaches.before.lives asked.worker ≡ token.life
finds_life opening old held begun now its token pending asked answer log enters attaches whole lead inside nobody same within after not_late =
    let told : life_of enters.after.lives pending.worker ≡ token.life = subst (λ (s : Session). TellsLife (λ worker life. life_of enters.after.lives worker ≡ life) s (Entered (Inside token))) inside enters.life in
    let rises : life_of enters.after.lives asked.worker ≤ life_of attaches.before.lives asked.worker = lives_grow opening.names log enters.after attaches.before whole lead asked.worker in
    let at : life_of enters.after.lives asked.worker ≡ life_of enters.after.lives pending.worker = ap (life_of enters.after.lives) same in
    let tells : TellsOvertaken attaches.before.lives attaches.before.executor.world.shape.workers Nobody (Attach asked) answer = subst (λ (s : Session). TellsOvertaken attaches.before.lives attaches.before.executor.world.shape.workers s (Attach asked) answer) nobody attaches.overtaken in
    elim (cases_lt token.life (life_of attaches.before.lives asked.worker)) [
      | inl later ↦ absurd (not_late (tells.1 (within, subst (IsRestartedAfter attaches.before.lives asked.worker) (sym after) later)))
      | inr kept ↦ omega (arith, told, rises, at, kept)
    ]

-- A session attaches the worker that the server chose at the same moment.
use Rattle.std.proofs.Common.{ℕ, List, None, false, inl, refl, subst, sym}
use Rattle.std.specs.Prelude.{Bool}
use Rattle.rme_words.specs.declared.refusal.Refusal.{Refusal}
use Rattle.rme_durable_log.specs.Logs.{GrowsByOthers}
use Rattle.rme_durable_log.specs.declared.log_entry.LogEntry.{LogEntry}
use Rattle.rme_session_protocol.specs.declared.order.Order.TheVariants.{Attach}
use Rattle.rme_session_protocol.specs.declared.reply.SessionReply.{SessionReply}
use Rattle.rme_session_protocol.specs.declared.worker_choice.ChoiceRequest.{ChoiceRequest}
use Rattle.rme_session_protocol.specs.declared.worker_choice.WorkerChoice.{WorkerChoice}
use Rattle.rme_session_world.specs.Executors.{IsChosenWorker}
use Rattle.rme_durable_server.specs.DurableOrders.{AttemptFrom, client_terms}
use Rattle.rme_durable_server.specs.DurableChoices.{AttachesChosen, ChoiceIsRefused, IsWhyNoneChosen}
use Rattle.rme_durable_server.specs.ServerHistories.{LogLeads, ServerOpening, ServerState, SessionMoment, session_moment}

pub attaches_chosen : (state : ServerState) (opening : ServerOpening) (clients : ℕ) (old : SessionMoment)
    (asked : ChoiceRequest) (worker : ℕ) (now : SessionMoment) (answer : SessionReply)
    → AttemptFrom state opening old (Attach record { worker = worker; take = false; after = None; label = asked.label }) now answer → IsChosenWorker state.executor asked.choice clients worker → AttachesChosen opening clients old asked worker now answer
attaches_chosen state opening clients old asked worker now answer (attempt, is) chosen = record {
  attempt = attempt;
  chosen = subst (λ (s : ServerState). IsChosenWorker s.executor asked.choice clients worker) (sym is) chosen;
}

-- A session gets no worker: at one moment it has one, or there is none that the choice takes.
pub none_chosen : (opening : ServerOpening) (clients : ℕ) (shared : Bool) (old : SessionMoment) (choice : WorkerChoice) (why : Refusal)
    (log : List LogEntry) (state : ServerState)
    → LogLeads opening log state → GrowsByOthers old.session.session old.log log
    → IsWhyNoneChosen clients state.executor old.session choice why → ChoiceIsRefused (client_terms clients shared opening) old choice why (session_moment old.session log)
none_chosen opening clients shared old choice why log state leads others none = record {
  state = state;
  session = refl;
  acts = record { log = log; others = others; leads = leads; appends = inl (refl, refl); session = refl };
  none = none;
}

-- The lives that clients are told: how often a worker was restarted, over all epochs.
use Rattle.std.specs.Prelude.{◌≡◌, ◌<◌, ◌↔◌, ℕ, List, Option, Some, None}
use Rattle.rme_words.specs.declared.refusal.Refusal.TheVariants.{Overtaken}
use Rattle.rme_session_world.specs.Executors.{executor_session_view}
use Rattle.rme_session_protocol.specs.SessionSteps.{TellsLife}
use Rattle.rme_session_protocol.specs.declared.order.Order.{Order}
use Rattle.rme_session_protocol.specs.declared.order.Order.TheVariants.{Attach}
use Rattle.rme_session_protocol.specs.declared.reply.JobOutcome.TheVariants.{Inside}
use Rattle.rme_session_protocol.specs.declared.reply.SessionReply.{SessionReply}
use Rattle.rme_session_protocol.specs.declared.reply.SessionReply.TheVariants.{Entered, Refused}
use Rattle.rme_session_protocol.specs.declared.view.Session.{Session}
use Rattle.rme_session_protocol.specs.declared.view.Session.TheVariants.{Nobody, Held}
use Rattle.rme_durable_format.specs.Lives.{life_of}
use Rattle.rme_durable_epochs.specs.EpochStates.{ExecutorSession}

-- A session that is told that its worker is inside is told the life of the worker.
abbrev pub TellsClientLife : List ℕ → ExecutorSession → SessionReply → Type 0
TellsClientLife lives now answer =
    TellsLife (λ worker life. life_of lives worker ≡ life)
    (executor_session_view now.executor now.session).session answer

-- The answer of a world, which counts no lives, with the life of the worker.
abbrev pub with_life : List ℕ → Session → SessionReply → SessionReply
with_life lives (Held pending) (Entered (Inside token)) = Entered (Inside record {
  lock = token.lock;
  number = token.number;
  section = token.section;
  life = life_of lives pending.worker;
})
with_life lives session answer = answer

-- The same order, of any life.
abbrev pub without_after : Order → Order
without_after (Attach its) = Attach record { worker = its.worker; take = its.take; after = None; label = its.label }
without_after its = its

-- A worker was restarted after this life, if one is given.
abbrev pub IsRestartedAfter : List ℕ → ℕ → Option ℕ → Type 0
IsRestartedAfter lives worker None = ⊥
IsRestartedAfter lives worker (Some life) = life < life_of lives worker

-- The order would attach one of these workers, which was restarted after the life that the order has.
abbrev pub IsOvertaken : List ℕ → ℕ → Session → Order → Type 0
IsOvertaken lives workers Nobody (Attach its) =
    (its.worker < workers) × IsRestartedAfter lives its.worker its.after
IsOvertaken lives workers session its = ⊥

-- Exactly then an attachment is refused for it.
abbrev pub TellsOvertaken : List ℕ → ℕ → Session → Order → SessionReply → Type 0
TellsOvertaken lives workers Nobody (Attach its) answer =
    (answer ≡ Refused Overtaken) ↔ IsOvertaken lives workers Nobody (Attach its)
TellsOvertaken lives workers session its answer = Unit {0}

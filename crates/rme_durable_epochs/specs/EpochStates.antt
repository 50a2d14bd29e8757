-- An executor with its base, and a session step over all epochs.
use Rattle.std.specs.Prelude.{◌≡◌, ℕ, Bool, List}
use Rattle.rme_world.specs.WorldViews.{WorldView}
use Rattle.rme_session_world.specs.Executors.{executor_session_view}
use Rattle.rme_session_world.specs.ExecutorStates.{ExecutorState}
use Rattle.rme_session_world.specs.declared.executor.SessionState.{SessionState}
use Rattle.rme_session_protocol.specs.SessionSteps.{SessionStepWithin, TellsPlace, TellsSection}
use Rattle.rme_session_protocol.specs.Attempts.{with_tries}
use Rattle.rme_session_protocol.specs.declared.order.Order.{Order}
use Rattle.rme_session_protocol.specs.declared.reply.SessionReply.{SessionReply}
use Rattle.rme_durable_epochs.specs.ClientValues.{numbers_for, client_sizes, client_view, next_client_place}
use Rattle.rme_durable_epochs.specs.declared.epoch_base.Base.{Base}

-- The executor, the pending lines, the base, the lives of the workers, and the number of earlier epochs; the bytes of the
-- epoch's lines before the pending ones; and whether an event batch could not be logged.
pub record EpochState : Type 0 where
  pub executor : ExecutorState
  pub lines : List ℕ
  pub base : Base
  pub lives : List ℕ
  pub epoch : ℕ
  pub taken : ℕ
  pub failed : Bool

-- An executor, and one of its sessions.
pub record ExecutorSession : Type 0 where
  pub executor : ExecutorState
  pub session : SessionState

abbrev pub executor_session : ExecutorState → SessionState → ExecutorSession
executor_session executor session = record { executor = executor; session = session }

-- A session executed an order with one try, as its client sees it over all epochs: by the definition that every session
-- server meets.
abbrev pub SessionStepAcrossCheckpoints : Base → ExecutorSession → Order → ExecutorSession → SessionReply → Type 0
SessionStepAcrossCheckpoints base old its now answer =
    (made : ℕ)
    × SessionStepWithin (client_sizes (numbers_for base (executor_session_view old.executor old.session).session its)
    old.executor.world.shape) made (client_view base (executor_session_view old.executor old.session))
    (with_tries 1 its) (client_view base (executor_session_view now.executor now.session)) answer

-- A session that is told that its worker is inside is told the number of the lock's finished sections over all epochs.
abbrev pub TellsClientSection : Base → ExecutorSession → SessionReply → Type 0
TellsClientSection base now answer =
    TellsSection (λ lock section. next_client_place base now.executor.world lock ≡ section)
    (client_view base (executor_session_view now.executor now.session)).session answer

-- The receipt of a commit has the place that was told before it, in this world.
abbrev pub TellsClientPlace : Base → WorldView → SessionReply → Type 0
TellsClientPlace base before answer = TellsPlace (λ lock section. next_client_place base before lock ≡ section) answer

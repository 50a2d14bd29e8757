use Rattle.std.proofs.Common.{◌≡◌, ◌∙◌, ap, subst, sym}
use Rattle.std.specs.Prelude.{Option, option_map}
use Rattle.rme_session_world.specs.Executors.{executor_session_view}
use Rattle.rme_session_world.specs.FencingTokens.{HasFinished}
use Rattle.rme_durable_epochs.specs.EpochStates.{EpochState, SessionStepAcrossCheckpoints, TellsClientPlace, TellsClientSection, executor_session}
use Rattle.rme_durable_epochs.specs.ClientValues.{client_reply, client_session}
use Rattle.rme_durable_epochs.specs.declared.epoch_base.Base.{Base}
use Rattle.rme_durable_epochs.specs.ImmediateReplies.{immediate_reply}
use Rattle.rme_session_protocol.specs.Attempts.{with_tries}
use Rattle.rme_session_protocol.specs.SessionSteps.{SessionStep, TellsPlace}
use Rattle.rme_session_protocol.specs.ClientReplies.{reply_of_client}
use Rattle.rme_session_protocol.specs.declared.client_reply.ClientReply.{ClientReply}
use Rattle.rme_durable_epochs.proofs.Telling.{places_as_found, places_as_known, tells_as_found, tells_as_known, told_as_found, told_as_known}
use Rattle.rme_durable_epochs.proofs.epoch_executor.EpochExecutor.execute_at_any_life.Goals as goal

pub execute_in_epoch-requires : goal.execute_in_epoch-requires
execute_in_epoch-requires c =
    let V = λ (e : EpochState). c.session-view.result ≡ (executor_session_view e.executor c.args.session.now).session in
    record { view = subst V c.self.view_is c.session-view.ensures }

pub returns-in-Some-clause-obeys : goal.returns-in-Some-clause-obeys
returns-in-Some-clause-obeys c =
    let P = λ (e : EpochState). SessionStepAcrossCheckpoints e.base (executor_session e.executor c.args.session.now) c.args.order.now (executor_session e.executor c.args.session.now) (reply_of_client c.in-Some.reply) in
    let T = λ (e : EpochState). option_map reply_of_client c.in_ok-reply.field-0 ≡ immediate_reply (client_session e.base c.session-view.result) c.args.order.now in
    let told = subst T (sym c.self.view_is) c.in_ok-reply.ensures.told in
    let at = c.session-view.ensures in
    subst P c.self.view_is
    (told_as_known c.self.inside.base c.self.inside.executor c.args.session.now c.args.order.now c.session-view.result (option_map reply_of_client c.in_ok-reply.field-0) (reply_of_client c.in-Some.reply) at told (ap (λ (t : Option ClientReply). option_map reply_of_client t) c.in-Some.is))

pub returns-in-Some-client_reply-clause-obeys : goal.returns-in-Some-client_reply-clause-obeys
returns-in-Some-client_reply-clause-obeys c =
    let P = λ (e : EpochState). SessionStepAcrossCheckpoints e.base (executor_session e.executor c.args.session.now) c.args.order.now (executor_session c.execute_in_epoch.new.self.executor c.execute_in_epoch.new.session) (reply_of_client c.in-Some-client_reply.reply) in
    let T = λ (e : EpochState). option_map reply_of_client c.in_ok-reply.field-0 ≡ immediate_reply (client_session e.base c.session-view.result) c.args.order.now in
    let told = subst T (sym c.self.view_is) c.in_ok-reply.ensures.told in
    let at = c.session-view.ensures in
    let E = λ (e : EpochState). SessionStep e.executor.world.shape (executor_session_view e.executor c.args.session.now) (with_tries 1 c.epoch_order.result) (executor_session_view c.execute_in_epoch.new.self.executor c.execute_in_epoch.new.session) c.in_ok-executed.executed.reply in
    let same : c.self-2.inside.base ≡ c.self.inside.base = ap (λ (e : EpochState). e.base) c.self-2.view_is ∙ (c.execute_in_epoch.ensures.base ∙ sym (ap (λ (e : EpochState). e.base) c.self.view_is)) in
    let R = λ (b : Base). reply_of_client c.in-Some-client_reply.reply ≡ client_reply b c.numbers_for-numbers.result c.in_ok-executed.executed.reply in
    subst P c.self.view_is
    (told_as_found c.self.inside.base c.self.inside.executor c.execute_in_epoch.new.self.executor c.args.session.now c.execute_in_epoch.new.session c.args.order.now c.epoch_order.result c.session-view.result c.numbers_for-numbers.result
    (option_map reply_of_client c.in_ok-reply.field-0) c.in_ok-executed.executed.reply (reply_of_client c.in-Some-client_reply.reply) at told (ap (λ (t : Option ClientReply). option_map reply_of_client t) c.in_default.is) c.numbers_for-numbers.ensures c.epoch_order.ensures (subst E (sym c.self.view_is) c.in_ok-executed.ensures.obeys) (subst R same c.in-Some-client_reply.ensures))

pub returns-in-Some-clause-section : goal.returns-in-Some-clause-section
returns-in-Some-clause-section c =
    let P = λ (e : EpochState). TellsClientSection e.base (executor_session e.executor c.args.session.now) (reply_of_client c.in-Some.reply) in
    let T = λ (e : EpochState). option_map reply_of_client c.in_ok-reply.field-0 ≡ immediate_reply (client_session e.base c.session-view.result) c.args.order.now in
    let told = subst T (sym c.self.view_is) c.in_ok-reply.ensures.told in
    subst P c.self.view_is
    (tells_as_known c.self.inside.base c.self.inside.executor c.args.session.now c.args.order.now c.session-view.result (option_map reply_of_client c.in_ok-reply.field-0) (reply_of_client c.in-Some.reply) c.session-view.ensures told (ap (λ (t : Option ClientReply). option_map reply_of_client t) c.in-Some.is))

pub returns-in-Some-client_reply-clause-section : goal.returns-in-Some-client_reply-clause-section
returns-in-Some-client_reply-clause-section c =
    let P = λ (e : EpochState). TellsClientSection e.base (executor_session c.execute_in_epoch.new.self.executor c.execute_in_epoch.new.session) (reply_of_client c.in-Some-client_reply.reply) in
    let same : c.self-2.inside.base ≡ c.self.inside.base = ap (λ (e : EpochState). e.base) c.self-2.view_is ∙ (c.execute_in_epoch.ensures.base ∙ sym (ap (λ (e : EpochState). e.base) c.self.view_is)) in
    let R = λ (b : Base). reply_of_client c.in-Some-client_reply.reply ≡ client_reply b c.numbers_for-numbers.result c.in_ok-executed.executed.reply in
    subst P c.self.view_is
    (tells_as_found c.self.inside.base c.execute_in_epoch.new.self.executor c.execute_in_epoch.new.session c.numbers_for-numbers.result c.in_ok-executed.executed.reply (reply_of_client c.in-Some-client_reply.reply) c.in_ok-executed.ensures.section (subst R same c.in-Some-client_reply.ensures))

pub returns-in-Some-clause-place : goal.returns-in-Some-clause-place
returns-in-Some-clause-place c =
    let P = λ (e : EpochState). TellsClientPlace e.base e.executor.world (reply_of_client c.in-Some.reply) in
    let T = λ (e : EpochState). option_map reply_of_client c.in_ok-reply.field-0 ≡ immediate_reply (client_session e.base c.session-view.result) c.args.order.now in
    let told = subst T (sym c.self.view_is) c.in_ok-reply.ensures.told in
    subst P c.self.view_is
    (places_as_known c.self.inside.base c.self.inside.executor c.args.order.now c.session-view.result (option_map reply_of_client c.in_ok-reply.field-0) (reply_of_client c.in-Some.reply) told (ap (λ (t : Option ClientReply). option_map reply_of_client t) c.in-Some.is))

pub returns-in-Some-client_reply-clause-place : goal.returns-in-Some-client_reply-clause-place
returns-in-Some-client_reply-clause-place c =
    let P = λ (e : EpochState). TellsClientPlace e.base e.executor.world (reply_of_client c.in-Some-client_reply.reply) in
    let same : c.self-2.inside.base ≡ c.self.inside.base = ap (λ (e : EpochState). e.base) c.self-2.view_is ∙ (c.execute_in_epoch.ensures.base ∙ sym (ap (λ (e : EpochState). e.base) c.self.view_is)) in
    let R = λ (b : Base). reply_of_client c.in-Some-client_reply.reply ≡ client_reply b c.numbers_for-numbers.result c.in_ok-executed.executed.reply in
    let E = λ (e : EpochState). TellsPlace (HasFinished e.executor.world) c.in_ok-executed.executed.reply in
    subst P c.self.view_is
    (places_as_found c.self.inside.base c.self.inside.executor.world c.numbers_for-numbers.result c.in_ok-executed.executed.reply (reply_of_client c.in-Some-client_reply.reply) (subst E (sym c.self.view_is) c.in_ok-executed.ensures.place) (subst R same c.in-Some-client_reply.ensures))

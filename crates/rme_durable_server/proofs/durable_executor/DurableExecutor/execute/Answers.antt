use Rattle.std.proofs.Common.{◌≤◌, ℕ, List, length, refl, sym, subst, ◌∙◌}
use Rattle.rme_session_protocol.specs.ClientReplies.{reply_of_client}
use Rattle.rme_durable_epochs.specs.EpochStates.{EpochState}
use Rattle.rme_durable_server.specs.DurableOrders.{AttemptFrom}
use Rattle.rme_durable_server.specs.ServerHistories.{SessionMoment, server_state, session_moment}
use Rattle.rme_durable_server.proofs.Leading.{acted, lines_grow, logged_some, logged_step}
use Rattle.rme_durable_server.proofs.durable_executor.DurableExecutor.execute.Goals as goal

pub append_new_lines-appended-requires : goal.append_new_lines-appended-requires
append_new_lines-appended-requires g c =
    let grown = lines_grow c.args.names.now c.session.inside.state.session c.self.inside.executor c.execute.new.self c.in-Ok.ensures.written in
    subst (λ (looked : List ℕ). length looked ≤ length c.execute.new.self.lines) (sym c.lines-before.ensures) grown

pub invariant_of-self-2 : goal.invariant_of-self-2
invariant_of-self-2 g c =
    let epoch = c.self.inside.executor in
    let logged = logged_some g.J.ServerTag.opening c.self.inside.appender c.in-Some.appender epoch (sym c.take.ensures.value ∙ c.in-Some.is) c.self.invariant in
    let step = logged_step g.J.ServerTag.opening c.args.names.now c.session.inside.state.session c.session.inside.author epoch c.execute.new.self c.in-Some.appender c.append_new_lines-appended.new.appender c.lines-before.result.now logged c.requires.names c.session.invariant c.lines-before.ensures c.in-Ok.ensures.base c.in-Ok.ensures.epoch c.in-Ok.ensures.written c.in-Some-appended.ensures.appends in
    step.1

pub returns : goal.returns
returns g c =
    let epoch = c.self.inside.executor in
    let opening = g.J.ServerTag.opening in
    let logged = logged_some opening c.self.inside.appender c.in-Some.appender epoch (sym c.take.ensures.value ∙ c.in-Some.is) c.self.invariant in
    let step = logged_step opening c.args.names.now c.session.inside.state.session c.session.inside.author epoch c.execute.new.self c.in-Some.appender c.append_new_lines-appended.new.appender c.lines-before.result.now logged c.requires.names c.session.invariant c.lines-before.ensures c.in-Ok.ensures.base c.in-Ok.ensures.epoch c.in-Ok.ensures.written c.in-Some-appended.ensures.appends in
    let now = session_moment c.execute.new.session c.in-Some-appended.end in
    let answer = reply_of_client c.in-Ok.answered.reply in
    let P = λ (old : SessionMoment). AttemptFrom (server_state epoch) opening old c.args.order.now now answer in
    let Q = λ (state : EpochState). AttemptFrom (server_state state) opening c.args.session.now c.args.order.now now answer in
    subst Q c.self.view_is (subst P c.session.view_is (
      record {
        before = server_state epoch;
        after = server_state c.execute.new.self;
        acts = acted opening (session_moment c.session.inside.state c.session.inside.end) c.execute.new.session c.in-Some-appended.end epoch c.execute.new.self c.in-Some.appender c.append_new_lines-appended.new.appender c.session.inside.author c.session.invariant c.in-Some-position_after.ensures.others logged step.0 c.in-Some-appended.ensures.end c.execute.ensures.session;
        obeys = c.in-Ok.ensures.obeys;
        section = c.in-Ok.ensures.section;
        place = c.in-Ok.ensures.place;
        life = c.in-Ok.ensures.life;
        overtaken = c.in-Ok.ensures.overtaken;
      },
      refl,
    ))

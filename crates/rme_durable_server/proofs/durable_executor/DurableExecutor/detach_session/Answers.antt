use Rattle.std.proofs.Common.{◌≤◌, ℕ, List, length, refl, sym, subst, ◌∙◌}
use Rattle.rme_durable_log.specs.LogRules.{AppenderState}
use Rattle.rme_durable_server.specs.ServerHistories.{IsLogged, SessionEnds, SessionMoment, server_state, session_moment}
use Rattle.rme_durable_server.proofs.Leading.{acted, lines_grow, logged_some, logged_step}
use Rattle.rme_durable_server.proofs.durable_executor.DurableExecutor.detach_session.Goals as goal

pub append_new_lines-requires : goal.append_new_lines-requires
append_new_lines-requires g c =
    let grown = lines_grow c.args.names.now c.session.inside.state.session c.self.inside.executor c.detach_session.new.self c.in-Ok.ensures.written in
    subst (λ (looked : List ℕ). length looked ≤ length c.detach_session.new.self.lines) (sym c.lines-before.ensures) grown

pub invariant_of-self-2 : goal.invariant_of-self-2
invariant_of-self-2 g c =
    let epoch = c.self.inside.executor in
    let logged = logged_some g.J.ServerTag.opening c.self.inside.appender c.in-Some.appender epoch (sym c.take.ensures.value ∙ c.in-Some.is) c.self.invariant in
    let step = logged_step g.J.ServerTag.opening c.args.names.now c.session.inside.state.session c.session.inside.author epoch c.detach_session.new.self c.in-Some.appender c.append_new_lines.new.appender c.lines-before.result.now logged c.requires.names c.session.invariant c.lines-before.ensures c.in-Ok.ensures.base c.in-Ok.ensures.epoch c.in-Ok.ensures.written c.in-Some-append_new_lines.ensures.appends in
    subst (λ (a : AppenderState). IsLogged g.J.ServerTag.opening c.detach_session.new.self a.log a.waits) (sym c.end_author.ensures.same) step.1

pub returns : goal.returns
returns g c =
    let epoch = c.self.inside.executor in
    let opening = g.J.ServerTag.opening in
    let logged = logged_some opening c.self.inside.appender c.in-Some.appender epoch (sym c.take.ensures.value ∙ c.in-Some.is) c.self.invariant in
    let step = logged_step opening c.args.names.now c.session.inside.state.session c.session.inside.author epoch c.detach_session.new.self c.in-Some.appender c.append_new_lines.new.appender c.lines-before.result.now logged c.requires.names c.session.invariant c.lines-before.ensures c.in-Ok.ensures.base c.in-Ok.ensures.epoch c.in-Ok.ensures.written c.in-Some-append_new_lines.ensures.appends in
    let P = λ (old : SessionMoment). SessionEnds opening old c.in-Some-append_new_lines.end in
    subst P c.session.view_is record {
      before = server_state epoch;
      now = session_moment c.detach_session.new.session c.in-Some-append_new_lines.end;
      after = server_state c.detach_session.new.self;
      acts = acted opening (session_moment c.session.inside.state c.session.inside.end) c.detach_session.new.session c.in-Some-append_new_lines.end epoch c.detach_session.new.self c.in-Some.appender c.append_new_lines.new.appender c.session.inside.author c.session.invariant c.in-Some-position_after.ensures.others logged step.0 c.in-Some-append_new_lines.ensures.end c.detach_session.ensures.session;
      ended = refl;
      down = c.detach_session.ensures.down;
    }

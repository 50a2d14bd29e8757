use Rattle.std.proofs.Common.{◌≡◌, ℕ, List, arith, sym, ap, subst, ◌∙◌}
use Rattle.rme_session_world.specs.declared.executor.SessionState.{SessionState}
use Rattle.rme_durable_log.specs.Logs.{AreNotByAuthor}
use Rattle.rme_durable_log.specs.declared.log_entry.LogEntry.{LogEntry}
use Rattle.rme_durable_log.proofs.Authors.{below_not_by}
use Rattle.rme_durable_server.proofs.session.DurableSession.begin.Goals as goal

pub returns-clause-begun : goal.returns-clause-begun
returns-clause-begun g c =
    let author = c.in_ok-author.author in
    let state = c.new.ensures in
    let log = c.args.appender.now.log in
    let before : AreNotByAuthor author log = below_not_by author author log (omega arith) c.in_ok-author.ensures.new.1 in
    let number : author ≡ c.new.result.session = sym (ap (λ (s : SessionState). s.session) state ∙ c.number.ensures) in
    let told : log ≡ c.position.result = sym (c.position.ensures.told ∙ c.in_ok-author.ensures.log) in (
      ap (λ (s : SessionState). s.worker) state,
      ap (λ (s : SessionState). s.planned) state,
      subst (λ (a : ℕ). AreNotByAuthor a c.position.result) number (subst (λ (l : List LogEntry). AreNotByAuthor author l) told before),
    )

use Rattle.std.proofs.Common.{sym, subst, ◌∙◌}
use Rattle.std.specs.Prelude.{string_bytes}
use Rattle.rme_durable_epochs.specs.EpochStates.{EpochState}
use Rattle.rme_durable_lookups.specs.LookupAnswers.{LookupShows}
use Rattle.rme_durable_server.specs.DurableAnswers.{shown_state}
use Rattle.rme_durable_server.specs.ServerHistories.{server_state}
use Rattle.rme_durable_server.proofs.Leading.{shown_at}
use Rattle.rme_durable_server.proofs.durable_server.DurableServer.write_lookup.Goals as goal

pub returns-clause-moment : goal.returns-clause-moment
returns-clause-moment g c =
    let epoch = c.deref-3.result.now in
    let server = c.args.self.now in
    let S = λ (e : EpochState). LookupShows server.names server.leader (shown_state (server_state e)) c.args.look (string_bytes c.write_lookup.new.out) in
    shown_at c.position_after.result g.J.ServerTag.opening server.names server.leader (server_state epoch) c.args.look (string_bytes c.write_lookup.new.out) server.named server.led c.position_after.ensures.leads
    (subst S (c.executor.ensures ∙ (c.deref-2.ensures ∙ sym c.deref-3.ensures)) c.in_ok-write_lookup.ensures)

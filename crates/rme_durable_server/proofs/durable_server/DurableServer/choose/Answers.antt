use Rattle.std.proofs.Common.{rules}
use Rattle.rme_durable_server.specs.DurableChoices.{IsWhyNoneChosen}
use Rattle.rme_durable_server.specs.ServerHistories.{server_state}
use Rattle.rme_durable_server.proofs.Choosing.{none_chosen}
use Rattle.rme_durable_server.proofs.durable_server.DurableServer.choose.Goals as goal

pub returns : goal.returns
returns g c =
    let before = c.deref-2.result.now in
    let none : IsWhyNoneChosen c.args.self.now.clients before.executor c.args.session.now.session c.args.choice c.in-Err.why = search rules in
    none_chosen g.J.ServerTag.opening c.args.self.now.clients g.L.LogStore.shared c.args.session.now c.args.choice c.in-Err.why c.in_ok-end.end (server_state before) c.in_ok-end.ensures.leads c.in_ok-end.ensures.others none

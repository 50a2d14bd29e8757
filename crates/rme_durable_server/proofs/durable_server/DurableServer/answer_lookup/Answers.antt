use Rattle.std.proofs.Common.{List, subst}
use Rattle.std.specs.Prelude.{IfSome, Option, string_bytes}
use Rattle.rme_durable_log.specs.Logs.{GrowsByOthers}
use Rattle.rme_durable_log.specs.declared.log_entry.LogEntry.{LogEntry}
use Rattle.rme_durable_server.specs.DurableAnswers.{LookupMoment}
use Rattle.rme_durable_server.specs.DurableOrders.{client_terms}
use Rattle.rme_durable_server.proofs.Leading.{looked_up}
use Rattle.rme_durable_server.proofs.durable_server.DurableServer.answer_lookup.Goals as goal

pub returns-in-Ok-clause-answers : goal.returns-in-Ok-clause-answers
returns-in-Ok-clause-answers g c =
    let end = c.in-Ok-Some.end in
    let M = λ (found : Option (List LogEntry)). IfSome found (λ (e : List LogEntry). LookupMoment g.J.ServerTag.opening c.args.look (string_bytes c.write_lookup.new.out) e) in
    let L = λ (found : Option (List LogEntry)). IfSome found (λ (e : List LogEntry). GrowsByOthers c.args.session.session.session c.args.session.log e) in
    let moment = subst M c.in-Ok-Some.field-0-is c.in-Ok-Some.ensures.moment in
    let others = subst L c.in-Ok-Some.field-0-is c.in-Ok-Some.ensures.others in
    looked_up g.L.LogStore.holds (client_terms c.args.self.now.clients g.L.LogStore.shared g.J.ServerTag.opening) c.args.session c.args.look (string_bytes c.write_lookup.new.out) end c.moved_to.result c.moved_to.ensures others moment c.in-Ok.ensures

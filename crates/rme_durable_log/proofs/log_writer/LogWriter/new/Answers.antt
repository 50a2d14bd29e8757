use Rattle.std.proofs.Common.{List, sym, subst}
use Rattle.rme_durable_log.specs.declared.log_entry.LogEntry.{LogEntry}
use Rattle.rme_durable_log.specs.Logs.{IsLogDurable, StoreHolds}
use Rattle.rme_durable_log.proofs.Holding.{held_first, holds_first}
use Rattle.rme_durable_log.proofs.log_writer.LogWriter.new.Goals as goal

pub invariant_of-result : goal.invariant_of-result
invariant_of-result g c =
    let holds = g.L.LogStore.holds in
    let store = c.args.store in
    subst (λ (l : List LogEntry). StoreHolds (holds store) l × IsLogDurable holds l) (sym c.requires.first) (holds_first (holds store) c.requires.works c.requires.barriers, held_first holds store c.requires.works c.requires.barriers)

use Rattle.std.proofs.Common.{◌≡◌, List, ◌++◌, refl, sym, ap, ◌∙◌, subst}
use Rattle.rme_durable_log.specs.declared.log_entry.LogEntry.{LogEntry}
use Rattle.rme_durable_log.specs.Logs.{IsLogDurable, StoreHolds, barrier_count}
use Rattle.rme_durable_log.specs.StoreCalls.{barriers_after}
use Rattle.rme_durable_log.proofs.Holding.{held_more, holds_more}
use Rattle.rme_durable_log.proofs.log_writer.LogWriter.append.Goals as goal

pub invariant_of-result : goal.invariant_of-result
invariant_of-result g c =
    let holds = g.L.LogStore.holds in
    let store = c.append.new.self in
    let before = c.self.inside.upto in
    let batch = c.parts.ensures.since in
    let since = batch.since in
    let entries = since.entries in
    let same : c.again.result ≡ before ++ entries = c.again.ensures ∙ (since.told ∙ ap (λ (l : List LogEntry). l ++ entries) (c.if-not-is_same.ensures refl)) in
    let from : c.parts.result.0.now ≡ before = c.if-not-is_same.ensures refl in
    let counted : barrier_count (before ++ entries) ≡ barriers_after g.L.LogStore.shared (barrier_count before) = subst (λ (l : List LogEntry). barrier_count (l ++ entries) ≡ barriers_after g.L.LogStore.shared (barrier_count l)) from (ap barrier_count (sym since.told) ∙ batch.barriers) in
    let now : StoreHolds (holds store) (before ++ entries) = holds_more g.L.LogStore.shared (holds c.self.inside.store) (holds store) before entries _ since.all c.self.invariant.0 c.in-Ok.ensures.kept since.come counted in
    subst (λ (l : List LogEntry). StoreHolds (holds store) l × IsLogDurable holds l) (sym same) (now, held_more holds store before entries since.all c.self.invariant.1 now)

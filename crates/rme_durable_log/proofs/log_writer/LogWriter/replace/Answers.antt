use Rattle.std.proofs.Common.{◌≡◌, List, [], ◌∷◌, ◌++◌, refl, sym, ap, ◌∙◌, subst}
use Rattle.rme_durable_log.specs.declared.log_entry.LogEntry.{LogEntry}
use Rattle.rme_durable_log.specs.declared.log_entry.LogEntry.TheVariants.{Whole}
use Rattle.rme_durable_log.specs.Logs.{IsLogDurable, StoreHolds}
use Rattle.rme_durable_log.proofs.Holding.{held_last, holds_whole}
use Rattle.rme_durable_log.proofs.log_writer.LogWriter.replace.Goals as goal

pub invariant_of-result-in-Some : goal.invariant_of-result-in-Some
invariant_of-result-in-Some g c =
    let holds = g.L.LogStore.holds in
    let store = c.replace.new.self in
    let before = c.self.inside.upto in
    let whole : LogEntry = Whole c.args.bytes.now in
    let same : c.in-Some.told ≡ before ++ whole ∷ [] = c.in-Some.ensures.is ∙ ap (λ (l : List LogEntry). l ++ whole ∷ []) (c.if-not-is_at.ensures refl) in
    let now : StoreHolds (holds store) (before ++ whole ∷ []) = holds_whole (holds c.self.inside.store) (holds store) before c.args.bytes.now c.self.invariant.0 c.in-Ok.ensures.replaced in
    subst (λ (l : List LogEntry). StoreHolds (holds store) l × IsLogDurable holds l) (sym same) (now, held_last holds store before whole c.self.invariant.1 now)

use Rattle.std.proofs.Common.{List, [], ◌∷◌, refl, sym, subst}
use Rattle.rme_durable_log.specs.declared.log_entry.LogEntry.{LogEntry}
use Rattle.rme_durable_log.specs.declared.log_entry.LogEntry.TheVariants.{Whole}
use Rattle.rme_durable_log.specs.LogRules.{IsDurableMark, known_bytes}
use Rattle.rme_durable_log.proofs.Holding.{held_first}
use Rattle.rme_durable_log.proofs.Marking.{mark_of}
use Rattle.rme_durable_log.proofs.open_log.OpenLog.new.Goals as goal

pub hint-requires : goal.hint-requires
hint-requires g c =
    let holds = g.L.LogStore.holds in
    let store = c.args.store in
    subst (λ (l : List LogEntry). IsDurableMark holds 0 l) (sym c.open_row-seen.ensures.1) (mark_of holds (Whole (known_bytes (holds store).bytes) ∷ []) 0 refl (held_first holds store c.requires.works c.requires.barriers))

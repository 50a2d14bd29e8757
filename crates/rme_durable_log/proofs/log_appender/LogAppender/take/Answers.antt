use Rattle.std.proofs.Common.{◌≡◌, ◌∙◌, ◌<◌, ℕ, List, length, sym, subst, string_bytes, arith, ap, length-append}
use Rattle.rme_durable_log.specs.declared.log_entry.LogEntry.{LogEntry}
use Rattle.rme_durable_log.specs.LogRules.{AppenderState, AreLinesSince, IsBatch, entries_behind, entry_lines, log_as_taken}
use Rattle.rme_durable_log.proofs.Texts.{appender_takes, batch_taken}
use Rattle.rme_durable_log.proofs.log_appender.LogAppender.take.Goals as goal

pub invariant_of-result : goal.invariant_of-result
invariant_of-result g c =
    let it = c.self.inside in
    let was = c.self.invariant.0 in
    let shared = g.L.LogStore.shared in
    let is : c.in_ok-upto.upto ≡ log_as_taken shared it.told = c.in_ok-upto.ensures ∙ ap (λ (a : AppenderState). log_as_taken shared a.log) (sym c.self.view_is) in
    let text : string_bytes c.args.lines ≡ entry_lines (entries_behind it.taken it.told) = c.requires.lines ∙ ap (λ (a : AppenderState). a.waits) (sym c.self.view_is) in
    let since : AreLinesSince it.taken it.told (string_bytes c.args.lines) = subst (λ (lines : List ℕ). AreLinesSince it.taken it.told lines) (sym text) was.since in
    subst (λ (from : List LogEntry). IsBatch shared from c.in_ok-upto.upto (string_bytes c.args.lines)) (sym c.again-from.ensures) (batch_taken shared it.taken it.told c.in_ok-upto.upto (string_bytes c.args.lines) since was.barriers is)

pub invariant_of-self : goal.invariant_of-self
invariant_of-self g c =
    let it = c.self.inside in
    let was = c.self.invariant.0 in
    let shared = g.L.LogStore.shared in
    let is : c.in_ok-upto.upto ≡ log_as_taken shared it.told = c.in_ok-upto.ensures ∙ ap (λ (a : AppenderState). log_as_taken shared a.log) (sym c.self.view_is) in
    let some : 0 < length it.told = omega (arith, was.some, ap length was.since.told, length-append it.taken was.since.entries) in
    (appender_takes shared g.J.LogTag.book it.head it.taken it.told c.again.result c.again-2.result it.authors it.lasts was some (c.again.ensures ∙ is) (c.again-2.ensures ∙ is), c.self.invariant.1)

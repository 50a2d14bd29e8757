use Rattle.std.proofs.Common.{◌≡◌, ◌<◌, ◌∷◌, ◌++◌, [], ℕ, List, suc, length, Some, sym, ap, refl, subst, ◌∙◌}
use Rattle.std.specs.Prelude.{IsSome, Option}
use Rattle.std.specs.BTreeMap.{get}
use Rattle.std.specs.Ordering.{nat_cmp}
use Rattle.rme_durable_log.specs.declared.log_entry.LogEntry.{LogEntry}
use Rattle.rme_durable_log.specs.declared.log_entry.LogEntry.TheVariants.{Lines}
use Rattle.rme_durable_log.specs.LogRules.{AreLastOfAuthors}
use Rattle.rme_durable_log.proofs.Authors.{author_below, lasts_appended}
use Rattle.rme_durable_log.proofs.Texts.{appender_appends, waits_more}
use Rattle.rme_durable_log.proofs.log_appender.LogAppender.append.Goals as goal

pub invariant_of-self-in-Some-append_entry : goal.invariant_of-self-in-Some-append_entry
invariant_of-self-in-Some-append_entry g c =
    let it = c.self.inside in
    let author = c.number-number.result in
    let told = c.in-Some-append_entry.told in
    let now = c.get_mut.follows.lender c.count.result in
    let more : told ≡ it.told ++ Lines author c.args.lines.now ∷ [] = c.in-Some-append_entry.ensures in
    let found : get nat_cmp it.lasts author ≡ Some c.in-Some.last.now = sym c.in-Some.ensures.value in
    let below : author < it.authors = author_below it.authors it.told it.lasts author c.in-Some.last.now c.self.invariant.0.lasts_are found in
    let counted : length (it.told ++ Lines author c.args.lines.now ∷ []) ≡ suc c.count.result = ap length (sym more) ∙ c.count.ensures in
    let updates = (c.get_mut.follows.holds c.count.result).3 (subst (λ (o : Option ℕ). IsSome o) (sym found) refl) in
    let lasts = lasts_appended it.authors it.told it.lasts now author c.count.result c.args.lines.now c.self.invariant.0.lasts_are below updates counted in
    (appender_appends g.J.LogTag.book it.head it.taken it.told told it.authors author it.lasts c.args.lines.now c.self.invariant.0 more now below (subst (λ (l : List LogEntry). AreLastOfAuthors it.authors l now) (sym more) lasts), c.self.invariant.1)

pub returns-in-Some-append_entry : goal.returns-in-Some-append_entry
returns-in-Some-append_entry g c =
    let it = c.self.inside in
    let by = ap (λ (author : ℕ). it.told ++ Lines author c.args.lines.now ∷ []) c.number-number.ensures in
    rw (← c.self.view_is) (c.in-Some-append_entry.ensures ∙ by, waits_more g.J.LogTag.book it.head it.taken it.told c.in-Some-append_entry.told it.authors c.number-number.result it.lasts c.args.lines.now c.self.invariant.0 c.in-Some-append_entry.ensures)

use Rattle.std.proofs.Common.{◌≡◌, ◌≤◌, ℕ, Some, sym, subst}
use Rattle.std.specs.BTreeMap.{get}
use Rattle.std.specs.Ordering.{nat_cmp}
use Rattle.rme_durable_log.specs.Logs.{GrowsByOthers}
use Rattle.rme_durable_log.proofs.Authors.{grows_by_others}
use Rattle.rme_durable_log.proofs.log_appender.LogAppender.position_after.Goals as goal

pub returns-clause-others : goal.returns-clause-others
returns-clause-others g c =
    let it = c.self.inside in
    let last = c.in_ok-last.field-0.now in
    let found : get nat_cmp it.lasts c.number.result ≡ Some last = sym c.in_ok-last.ensures.value in
    let le : last ≤ c.count.result = c.if-last-count.false in
    let grows : GrowsByOthers c.number.result c.args.earlier.now it.told = grows_by_others it.authors it.told c.args.earlier.now it.lasts c.number.result last c.count.result c.self.invariant.0.lasts_are found le c.count.ensures c.if-not-is_within.ensures in
    rw (← c.self.view_is) (subst (λ (author : ℕ). GrowsByOthers author c.args.earlier.now it.told) c.number.ensures grows)

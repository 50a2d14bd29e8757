use Rattle.std.proofs.Common.{◌≡◌, ap, subst, List, length, arith}
use Rattle.std.proofs.lemmas.Bool.Decides.{nat_tests}
use mathlib.Core.List.{IsPrefix}
use Rattle.rme_durable_log.specs.declared.log_entry.LogEntry.{LogEntry}
use Rattle.rme_durable_log.proofs.Fronts.{prefix_same}
use Rattle.rme_durable_log.proofs.log_position.LogPosition.is_same.Goals as goal

pub returns : goal.returns
returns g c = λ yes.
    let both = c.learn.new.self.log in
    let this : IsPrefix c.self.inside.seen.log both = subst (λ (l : List LogEntry). IsPrefix l both) (ap (λ s. s.log) c.again-both.ensures) c.learn.ensures.2 in
    let counts : c.self.inside.count ≡ c.other.inside.count = grind (arith, nat_tests) in
    let long : length c.self.inside.seen.log ≡ length c.other.inside.seen.log = omega (arith, c.self.invariant.0, c.other.invariant.0, counts) in
    rw (← c.self.view_is, ← c.other.view_is) (prefix_same c.self.inside.seen.log c.other.inside.seen.log both this c.learn.ensures.3 long)

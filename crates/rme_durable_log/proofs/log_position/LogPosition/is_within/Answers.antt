use Rattle.std.proofs.Common.{◌≤◌, ap, subst, List, arith}
use Rattle.std.proofs.lemmas.Bool.Decides.{nat_tests}
use mathlib.Core.List.{IsPrefix}
use Rattle.rme_durable_log.specs.declared.log_entry.LogEntry.{LogEntry}
use Rattle.rme_durable_log.proofs.Fronts.{prefix_shorter}
use Rattle.rme_durable_log.proofs.log_position.LogPosition.is_within.Goals as goal

pub returns : goal.returns
returns g c =
    let both = c.learn.new.self.log in
    let mine = c.self.inside.seen.log in
    let other = c.other.inside.seen.log in
    let this : IsPrefix mine both = subst (λ (l : List LogEntry). IsPrefix l both) (ap (λ s. s.log) c.again-both.ensures) c.learn.ensures.2 in
    let one : c.self.inside.count ≤ c.other.inside.count → IsPrefix mine other = λ le. prefix_shorter mine other both this c.learn.ensures.3 (omega (arith, le, c.self.invariant.0, c.other.invariant.0)) in
    let two : c.other.inside.count ≤ c.self.inside.count → IsPrefix other mine = λ le. prefix_shorter other mine both c.learn.ensures.3 this (omega (arith, le, c.self.invariant.0, c.other.invariant.0)) in
    rw (← c.self.view_is, ← c.other.view_is) (grind (arith, nat_tests, one, two))

use Rattle.std.proofs.Common.{◌≤◌, ◌<◌, ap, subst, List, arith}
use Rattle.std.proofs.lemmas.Bool.Decides.{nat_tests}
use mathlib.Core.List.{IsPrefix}
use Rattle.rme_durable_log.specs.declared.log_entry.LogEntry.{LogEntry}
use Rattle.rme_durable_log.proofs.Marking.{confirmed_by_mark, held_by_mark}
use Rattle.rme_durable_log.proofs.log_position.LogPosition.is_confirmed.Goals as goal

pub returns-clause-durable : goal.returns-clause-durable
returns-clause-durable g c = λ yes.
    let seen = c.load_hint.ensures in
    let this : IsPrefix c.self.inside.seen.log c.load_hint.new.seen.log = subst (λ (l : List LogEntry). IsPrefix l c.load_hint.new.seen.log) (ap (λ s. s.log) c.again-seen.ensures) seen.2 in
    let far : c.self.inside.count ≤ c.load_hint.result = grind (arith, nat_tests) in
    rw (← c.self.view_is) (held_by_mark g.L.LogStore.holds c.load_hint.result c.self.inside.seen.log c.load_hint.new.seen.log c.self.inside.count seen.3 this c.self.invariant.0 far)

pub returns-clause-confirmed : goal.returns-clause-confirmed
returns-clause-confirmed g c = λ yes.
    let seen = c.load_hint.ensures in
    let this : IsPrefix c.self.inside.seen.log c.load_hint.new.seen.log = subst (λ (l : List LogEntry). IsPrefix l c.load_hint.new.seen.log) (ap (λ s. s.log) c.again-seen.ensures) seen.2 in
    let far : c.self.inside.count < c.load_hint.result = grind (arith, nat_tests) in
    rw (← c.self.view_is) (confirmed_by_mark g.L.LogStore.holds c.load_hint.result c.self.inside.seen.log c.load_hint.new.seen.log c.self.inside.count seen.3 this c.self.invariant.0 far)

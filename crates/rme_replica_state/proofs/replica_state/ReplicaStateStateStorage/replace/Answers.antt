use Rattle.std.proofs.Common.{◌≡◌, ℕ, List, option_map, is_some, false, ap, subst, sym, ◌∙◌}
use Rattle.rme_durable_writes.specs.Writes.{Write}
use Rattle.rme_replica_state.specs.LogStates.{IsLogOf}
use Rattle.rme_replica_state.proofs.Adding.{lines_replaced, log_replaced}
use Rattle.rme_replica_state.proofs.Claiming.{stays_claimed}
use Rattle.rme_replica_state.proofs.replica_state.ReplicaStateStateStorage.replace.Goals as goal

pub invariant_of-self-2 : goal.invariant_of-self-2
invariant_of-self-2 g c =
    let inside = c.self.inside in
    let none : is_some inside.found ≡ false = sym c.is_some.ensures ∙ c.if-is_some.false in
    let write : Write = record { kept = 0; lines = c.args.bytes.now } in
    let sealed = c.in_ok-seal_first.ensures.sealed in
    let replaced : c.replace.new.self.bytes ≡ option_map (λ (_ : List ℕ). c.seal_first.new.write.items) inside.log.bytes =
    c.in-Ok.ensures.replaced.replaced ∙ ap (λ (more : List ℕ). option_map (λ (_ : List ℕ). more) inside.log.bytes) c.as_slice.ensures.value in
    let log : IsLogOf c.replace.new.self.bytes 1 = log_replaced inside.log.bytes c.replace.new.self.bytes write c.seal_first.new.write.items sealed.is sealed.are replaced in
    stays_claimed inside.found c.replace.new.self.owns c.replace.new.self.bytes c.begin_log.new.self.number none (λ owns. subst (λ (n : ℕ). IsLogOf c.replace.new.self.bytes n) (sym c.begin_log.ensures.number) log)

pub returns-clause-replaced : goal.returns-clause-replaced
returns-clause-replaced g c =
    let inside = c.self.inside in
    let write : Write = record { kept = 0; lines = c.args.bytes.now } in
    let sealed = c.in_ok-seal_first.ensures.sealed in
    let replaced : c.replace.new.self.bytes ≡ option_map (λ (_ : List ℕ). c.seal_first.new.write.items) inside.log.bytes =
    c.in-Ok.ensures.replaced.replaced ∙ ap (λ (more : List ℕ). option_map (λ (_ : List ℕ). more) inside.log.bytes) c.as_slice.ensures.value in
    rw (← c.self.view_is) (lines_replaced inside.log.bytes c.replace.new.self.bytes write c.seal_first.new.write.items sealed.is sealed.are replaced)

use Rattle.std.proofs.Common.{◌≡◌, ◌++◌, ℕ, List, option_map, is_some, false, ap, subst, sym, ◌∙◌}
use Rattle.rme_replica_state.specs.SealedLogs.{IsNextRecord}
use Rattle.rme_replica_state.specs.LogStates.{IsLogOf}
use Rattle.rme_replica_state.proofs.Adding.{lines_added, log_added}
use Rattle.rme_replica_state.proofs.Claiming.{claimed, stays_claimed}
use Rattle.rme_replica_state.proofs.replica_state.ReplicaState.add.Goals as goal

pub invariant_of-self-2 : goal.invariant_of-self-2
invariant_of-self-2 g c =
    let inside = c.self.inside in
    let next = c.mark_durable.new.self.number in
    let none : is_some inside.found ≡ false = sym c.is_some.ensures ∙ c.if-is_some.false in
    let log : IsLogOf inside.log.bytes inside.sealer.number = claimed inside.found inside.log.owns inside.log.bytes inside.sealer.number none c.self.invariant c.in-Ok.ensures.fenced in
    let made : IsNextRecord inside.sealer.number c.args.lines.now c.make_record.new.write.items next =
    subst (λ (n : ℕ). IsNextRecord inside.sealer.number c.args.lines.now c.make_record.new.write.items n) (sym c.mark_durable.ensures.number) c.in_default.ensures.made in
    let grows : c.append.new.self.bytes ≡ option_map (λ (bytes : List ℕ). bytes ++ c.make_record.new.write.items) inside.log.bytes =
    c.in-Ok.ensures.kept.bytes ∙ ap (λ (more : List ℕ). option_map (λ (bytes : List ℕ). bytes ++ more) inside.log.bytes) c.as_slice.ensures.value in
    stays_claimed inside.found c.append.new.self.owns c.append.new.self.bytes next none (λ owns. log_added inside.sealer.number next inside.log.bytes c.append.new.self.bytes c.args.lines.now c.make_record.new.write.items log made grows)

pub returns-clause-kept : goal.returns-clause-kept
returns-clause-kept g c =
    let inside = c.self.inside in
    let none : is_some inside.found ≡ false = sym c.is_some.ensures ∙ c.if-is_some.false in
    let log : IsLogOf inside.log.bytes inside.sealer.number = claimed inside.found inside.log.owns inside.log.bytes inside.sealer.number none c.self.invariant c.in-Ok.ensures.fenced in
    let grows : c.append.new.self.bytes ≡ option_map (λ (bytes : List ℕ). bytes ++ c.make_record.new.write.items) inside.log.bytes =
    c.in-Ok.ensures.kept.bytes ∙ ap (λ (more : List ℕ). option_map (λ (bytes : List ℕ). bytes ++ more) inside.log.bytes) c.as_slice.ensures.value in
    rw (← c.self.view_is) (lines_added inside.sealer.number c.make_record.new.sealer.number inside.log.bytes c.append.new.self.bytes c.args.lines.now c.make_record.new.write.items log c.in_default.ensures.made grows)

use Rattle.std.proofs.Common.{◌≡◌, ◌++◌, ℕ, List, option_map, Bool, is_some, not, true, ap, subst, sym, ◌∙◌}
use Rattle.rme_replica_state.specs.SealedLogs.{IsNextRecord}
use Rattle.rme_replica_state.specs.LogStates.{IsLogOf}
use Rattle.rme_replica_state.proofs.Adding.{lines_added, log_added}
use Rattle.rme_replica_state.proofs.Claiming.{now_claimed, to_claim}
use Rattle.rme_replica_state.proofs.replica_state.ReplicaState.claim.Goals as goal

pub invariant_of-self-2 : goal.invariant_of-self-2
invariant_of-self-2 g c =
    let inside = c.self.inside in
    let next = c.mark_durable.new.self.number in
    let read : is_some c.in-Some.found.lines ≡ true = c.is_none.ensures ∙ ap (λ (b : Bool). not b) c.if-is_none.false in
    let log : IsLogOf inside.log.bytes inside.sealer.number = to_claim c.in-Some.found inside.found inside.log.owns inside.log.bytes inside.sealer.number (sym c.in-Some.ensures.value) read c.self.invariant in
    let made : IsNextRecord inside.sealer.number c.args.lines.now c.make_record.new.write.items next =
    subst (λ (n : ℕ). IsNextRecord inside.sealer.number c.args.lines.now c.make_record.new.write.items n) (sym c.mark_durable.ensures.number) c.in_default-make_record.ensures.made in
    let grows : c.claim.new.self.bytes ≡ option_map (λ (bytes : List ℕ). bytes ++ c.make_record.new.write.items) inside.log.bytes =
    c.in-Ok.ensures.made.bytes ∙ ap (λ (more : List ℕ). option_map (λ (bytes : List ℕ). bytes ++ more) inside.log.bytes) c.as_slice.ensures.value in
    now_claimed c.take.new.self c.claim.new.self.owns c.claim.new.self.bytes next c.take.ensures.after (log_added inside.sealer.number next inside.log.bytes c.claim.new.self.bytes c.args.lines.now c.make_record.new.write.items log made grows)

pub returns-clause-kept : goal.returns-clause-kept
returns-clause-kept g c =
    let inside = c.self.inside in
    let read : is_some c.in-Some.found.lines ≡ true = c.is_none.ensures ∙ ap (λ (b : Bool). not b) c.if-is_none.false in
    let log : IsLogOf inside.log.bytes inside.sealer.number = to_claim c.in-Some.found inside.found inside.log.owns inside.log.bytes inside.sealer.number (sym c.in-Some.ensures.value) read c.self.invariant in
    let grows : c.claim.new.self.bytes ≡ option_map (λ (bytes : List ℕ). bytes ++ c.make_record.new.write.items) inside.log.bytes =
    c.in-Ok.ensures.made.bytes ∙ ap (λ (more : List ℕ). option_map (λ (bytes : List ℕ). bytes ++ more) inside.log.bytes) c.as_slice.ensures.value in
    rw (← c.self.view_is) (lines_added inside.sealer.number c.make_record.new.sealer.number inside.log.bytes c.claim.new.self.bytes c.args.lines.now c.make_record.new.write.items log c.in_default-make_record.ensures.made grows)

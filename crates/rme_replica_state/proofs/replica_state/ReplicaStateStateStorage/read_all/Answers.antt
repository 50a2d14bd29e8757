use Rattle.std.proofs.Common.{◌≡◌, ℕ, List, length, Option, Some, ap, subst, ◌∙◌}
use Rattle.rme_durable_writes.specs.Reading.{ReadsWrites}
use Rattle.rme_replica_state.specs.LogStates.{IsStateOfLog}
use Rattle.rme_replica_state.specs.declared.replica_state.FoundLog.{FoundLog}
use Rattle.rme_replica_state.proofs.Claiming.{found_lines, found_log, found_within}
use Rattle.rme_replica_state.proofs.replica_state.ReplicaStateStateStorage.read_all.Goals as goal

pub invariant_of-self-2 : goal.invariant_of-self-2
invariant_of-self-2 g c =
    let inside = c.self.inside in
    let bytes = inside.log.bytes in
    let found = c.in-Some.found.bytes.items in
    let read = c.in-Ok.read in
    let known : IsStateOfLog (Some c.in-Some.found) inside.log.owns bytes inside.sealer.number = subst (λ (f : Option FoundLog). IsStateOfLog f inside.log.owns bytes inside.sealer.number) c.in-Some.is c.self.invariant in
    let reads : ReadsWrites found read.lines.items read.length read.sealer.number read.sealer.kept = subst (λ (all : List ℕ). ReadsWrites all read.lines.items read.length read.sealer.number read.sealer.kept) c.as_slice-bytes.ensures.value c.in-Ok.ensures.ok in
    let whole : read.length ≡ length found = c.if-length-bytes.false ∙ ap (λ (all : List ℕ). length all) c.as_slice-bytes.ensures.value in
    let full : c.len.result ≡ length read.lines.items = c.len.ensures ∙ read.lines.ok.0 in
    (known.0, (found_log bytes found read.lines.items read.length read.sealer.number read.sealer.kept known.0 reads whole, found_within bytes found read.lines.items read.length read.sealer.number read.sealer.kept c.len.result known.0 reads whole full))

pub returns-clause-found : goal.returns-clause-found
returns-clause-found g c =
    let inside = c.self.inside in
    let bytes = inside.log.bytes in
    let found = c.in-Some.found.bytes.items in
    let read = c.in-Ok.read in
    let known : IsStateOfLog (Some c.in-Some.found) inside.log.owns bytes inside.sealer.number = subst (λ (f : Option FoundLog). IsStateOfLog f inside.log.owns bytes inside.sealer.number) c.in-Some.is c.self.invariant in
    let reads : ReadsWrites found read.lines.items read.length read.sealer.number read.sealer.kept = subst (λ (all : List ℕ). ReadsWrites all read.lines.items read.length read.sealer.number read.sealer.kept) c.as_slice-bytes.ensures.value c.in-Ok.ensures.ok in
    let whole : read.length ≡ length found = c.if-length-bytes.false ∙ ap (λ (all : List ℕ). length all) c.as_slice-bytes.ensures.value in
    rw (← c.self.view_is) (found_lines bytes found read.lines.items read.length read.sealer.number read.sealer.kept known.0 reads whole)

use Rattle.std.proofs.Common.{ap, ◌∙◌, ◌++◌, ◌<◌, ◌≡◌, min, map, take, arith, length, List, ℕ}
use Rattle.std.specs.List.{concat}
use Rattle.rme_replica.specs.KnownLogs.{log_of}
use Rattle.rme_replica.proofs.Memory.{all_joined, one_more_joined}
use Rattle.rme_replica.proofs.memory_log.MemoryLog.join_parts.Goals as goal

pub loop-index-preserved : goal.loop-index-preserved
loop-index-preserved c =
    let below : c.loop-index.index < length c.as_slice-parts.result.now = omega (arith, c.min-end.ensures, c.loop-index-test.true) in
    one_more_joined (λ part. part.items) c.as_slice-parts.result.now c.loop-index.index c.index-parts-index.result c.loop-index.bytes.items c.extend_from_slice.new.self.items
    below c.loop-index.invariant
    (c.in_ok-extend_from_slice.ensures.items ∙ ap (λ (b : List ℕ). c.loop-index.bytes.items ++ b) (c.as_slice.ensures.value ∙ ap (λ part. part.items) c.index-parts-index.is))

pub returns : goal.returns
unfolding log_of
returns c =
    let same : c.loop-index.index ≡ c.min-end.result = omega (arith, c.loop-index.auto.index-end, c.loop-index-test.false) in
    all_joined (λ part. part.items) c.args.self.now.parts.items c.args.count c.loop-index.index c.loop-index.bytes.items
    (same ∙ (c.min-end.ensures ∙ ap (λ parts. min c.args.count (length parts)) c.as_slice-parts.ensures.value))
    (c.loop-index.invariant ∙ ap (λ parts. concat (map (λ part. part.items) (take c.loop-index.index parts))) c.as_slice-parts.ensures.value)

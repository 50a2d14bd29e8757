use Rattle.std.proofs.Common.{◌∙◌, arith}
use Rattle.std.specs.Int.{w8, w16, w32, to_be_bytes}
use Rattle.rme_core_image.proofs.Appends.{six_parts, byte_whole}
use Rattle.rme_core_image.proofs.encoding.put_header.Goals as goal

pub returns : goal.returns
returns c =
    let limits = c.args.shape.counted.limits in
    let locks = c.to_be_bytes-4.ensures ∙ byte_whole c.args.shape.locks (omega (arith, limits.few_locks)) in
    let cells = c.to_be_bytes-5.ensures ∙ byte_whole c.args.shape.cells (omega (arith, limits.few_cells)) in
    let p = rw c.to_be_bytes.ensures at c.in_ok-put.ensures in
    let q = rw c.to_be_bytes-2.ensures at c.in_ok-put-2.ensures in
    let r = rw c.to_be_bytes-3.ensures at c.in_ok-put-3.ensures in
    let s = rw locks at c.in_ok-put-4.ensures in
    let t = rw cells at c.in_ok-put-5.ensures in
    let u = rw c.to_be_bytes-6.ensures at c.in_ok-put-6.ensures in
    let shape = c.args.shape in
    six_parts c.args.out.now.items c.put.new.out.items c.put-2.new.out.items c.put-3.new.out.items c.put-4.new.out.items c.put-5.new.out.items c.put-6.new.out.items
    (to_be_bytes w32 0x524d4549) (to_be_bytes w8 2) (to_be_bytes w16 shape.workers) (to_be_bytes w8 shape.locks) (to_be_bytes w8 shape.cells) (to_be_bytes w32 shape.jobs) p q r s t u

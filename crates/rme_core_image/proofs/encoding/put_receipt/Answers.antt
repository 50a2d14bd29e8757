use Rattle.std.proofs.Common.{◌∙◌}
use Rattle.rme_core_image.proofs.Appends.{five_parts, byte_whole}
use Rattle.rme_core_image.proofs.encoding.put_receipt.Goals as goal

pub returns-clause-put : goal.returns-clause-put
returns-clause-put c =
    let lock = c.to_be_bytes-3.ensures ∙ byte_whole c.args.receipt.lock c.requires.lock in
    let p = rw c.to_be_bytes.ensures at c.in_ok-put.ensures in
    let q = rw c.to_be_bytes-2.ensures at c.in_ok-put-2.ensures in
    let r = rw lock at c.in_ok-put-3.ensures in
    let s = rw c.to_be_bytes-4.ensures at c.in_ok-put-4.ensures in
    let t = rw c.to_be_bytes-5.ensures at c.in_ok-put-5.ensures in
    five_parts _ _ _ _ _ _ _ _ _ _ _ p q r s t

pub returns-clause-small : goal.returns-clause-small
returns-clause-small c = record { worker = c.requires.worker; number = search; lock = c.requires.lock; place = search; reply = search }

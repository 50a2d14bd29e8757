use Rattle.std.proofs.Common.{sym, ◌∙◌}
use Rattle.rme_core_image.specs.Images.{IsSmallEntry, entry_bytes, script_of_ops}
use Rattle.rme_core_image.proofs.Appends.{all_next, items_more, two_parts}
use Rattle.rme_core_image.proofs.Listed.{entry_read}
use Rattle.rme_core_image.proofs.encoding.put_entries.Goals as goal

pub put_receipt-requires-clause-worker : goal.put_receipt-requires-clause-worker
put_receipt-requires-clause-worker c =
    (entry_read c.args.entries.now.entries c.loop-i.i _ _ (sym c.receipt.ensures ∙ c.in-Some.is) c.in-Some-operations.ensures c.requires.within).1.worker

pub put_receipt-requires-clause-lock : goal.put_receipt-requires-clause-lock
put_receipt-requires-clause-lock c =
    (entry_read c.args.entries.now.entries c.loop-i.i _ _ (sym c.receipt.ensures ∙ c.in-Some.is) c.in-Some-operations.ensures c.requires.within).1.lock

pub put_script-requires : goal.put_script-requires
put_script-requires c =
    (entry_read c.args.entries.now.entries c.loop-i.i _ _ (sym c.receipt.ensures ∙ c.in-Some.is) c.in-Some-operations.ensures c.requires.within).1.script

pub loop-i-preserved : goal.loop-i-preserved
loop-i-preserved c =
    let here = (entry_read c.args.entries.now.entries c.loop-i.i _ _ (sym c.receipt.ensures ∙ c.in-Some.is) c.in-Some-operations.ensures c.requires.within).0 in (
      items_more entry_bytes _ _ _ c.args.entries.now.entries c.loop-i.i record { receipt = c.in-Some.receipt; script = script_of_ops c.in-Some-operations.ops.now } here c.loop-i.invariant.0
          (two_parts _ _ _ _ _ c.in_ok-put_receipt.ensures.put c.in_ok-put_script.ensures.put),
      all_next IsSmallEntry c.args.entries.now.entries c.loop-i.i _ here c.loop-i.invariant.1
          record { receipt = c.in_ok-put_receipt.ensures.small; script = c.in_ok-put_script.ensures.small },
    )

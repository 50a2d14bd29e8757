use Rattle.std.proofs.Common.{◌+◌, ◌∙◌, ap, sym, arith, length, take}
use Rattle.std.specs.Prelude.{Bool, if◌then◌else◌}
use Rattle.std.proofs.lemmas.Bool.{eq-eqb, ne_eqb}
use Rattle.rme_machine.specs.Histories.{history_of_lock}
use Rattle.rme_table.proofs.Entries.{count_more}
use Rattle.rme_table.proofs.close_room.count_in.Goals as goal
use Rattle.rme_table.proofs.close_room.count_in.Goals.{then-receipt-lock, else-receipt-lock}

pub loop-at-preserved : goal.loop-at-preserved
loop-at-preserved c =
    let before = length (history_of_lock (take c.loop-at.at c.args.entries.now.entries) c.args.lock) in
    let more = count_more c.args.lock c.args.entries.now.entries c.loop-at.at c.in-Some.receipt (sym c.receipt.ensures ∙ c.in-Some.is) in
    let (so_far, few) = c.loop-at.invariant in
    elim c.if-receipt-lock.branch [
      | then-receipt-lock w ↦
          let one = more ∙ ap (λ (b : Bool). before + (if b then 1 else 0)) (eq-eqb _ _ w.if-receipt-lock.true) in
          (omega (arith, one, so_far, w.count-is), omega (arith, few, w.count-is))
      | else-receipt-lock w ↦
          let none = more ∙ ap (λ (b : Bool). before + (if b then 1 else 0)) (ne_eqb _ _ w.if-receipt-lock.false) in
          (omega (arith, none, so_far, w.count-is), omega (arith, few, w.count-is))
    ]

use Rattle.std.proofs.Common.{rules, length-append, arith}
use Rattle.rme_session_threads.proofs.Ordering.{in_order_on, in_order_put}
use Rattle.rme_session_threads.proofs.slots.gather_downs.Goals.{in-Some-into_down, in_default}
use Rattle.rme_session_threads.proofs.slots.gather_downs.Goals as goal

pub loop-slot-preserved : goal.loop-slot-preserved
loop-slot-preserved g c =
    let so = c.loop-slot.invariant in
    elim c.match-into_down.branch [
      | in-Some-into_down w ↦
          let put = w.push_reserved.ensures.items in
          rw w.downs-is (
            search rules,
            search rules,
            search rules,
            rw put (rw (length-append c.loop-slot.downs.items _) (omega (arith, so.3))),
            rw put (in_order_put g.K.Tag.ident c.loop-slot.worker c.loop-slot.downs.items w.in-Some-into_down.down so.4 w.in-Some-into_down.ensures),
          )
      | in_default w ↦ rw w.downs-is (search rules, search rules, so.2, omega (arith, so.3), in_order_on g.K.Tag.ident c.loop-slot.worker c.loop-slot.downs.items so.4)
    ]

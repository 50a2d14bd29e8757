use Rattle.std.proofs.Common.{sym, ◌∙◌, arith}
use Rattle.rme_service_steps.specs.Closing.{entries_given}
use Rattle.rme_service_steps.proofs.Opened.{one_longer}
use Rattle.rme_table.proofs.Filled.{one_room}
use Rattle.rme_table.proofs.Entries.{lock_counted}
use Rattle.rme_table.proofs.close_room.room_for_locks.Goals as goal

pub loop-lock-preserved : goal.loop-lock-preserved
loop-lock-preserved c =
    let i = c.loop-lock.invariant in (
      omega (arith, i.0, c.push_reserved.ensures.capacity),
      one_longer _ _ _ _ c.push_reserved.ensures.items i.1,
      one_room c.args.shape (entries_given c.args.downs.now) c.loop-lock.locks.items _ c.in_ok-room_for_lock.field-0 c.loop-lock.lock c.in-Some.count i.1 i.2 c.in_ok-room_for_lock.ensures
          (c.in-Some.ensures ∙ sym (lock_counted c.loop-lock.lock c.args.downs.now)) c.push_reserved.ensures.items,
    )

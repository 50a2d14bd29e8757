use Rattle.std.proofs.Common.{arith}
use Rattle.rme_table.proofs.Entries.{room_kept}
use Rattle.rme_table.proofs.filling.put_entries.Goals as goal

pub push_reserved-requires : goal.push_reserved-requires
push_reserved-requires c =
    let room = room_kept c.args.lock c.args.entries.now c.loop-entry.own.items c.loop-entry.entry-index c.entry-item.result _ c.loop-entry.invariant.0 c.loop-entry-test.true c.entry-item.is c.if-entry-lock.true c.requires.room in
    omega (arith, room, c.loop-entry.own.ok.0, c.loop-entry.invariant.1)

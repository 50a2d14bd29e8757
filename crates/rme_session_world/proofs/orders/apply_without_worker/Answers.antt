use Rattle.std.proofs.Common.{refl, subst, sym}
use Rattle.std.specs.Prelude.{None}
use Rattle.rme_session_protocol.specs.declared.order.Order.{Order}
use Rattle.rme_session_world.specs.AppliedOrders.{AppliesOrder}
use Rattle.rme_session_world.proofs.orders.apply_without_worker.Goals as goal

pub returns-in-Attach : goal.returns-in-Attach
returns-in-Attach c =
    let P = λ (its : Order). AppliesOrder c.args.world.now None c.args.planned its c.attach.result c.attach.new.world in
    subst P (sym c.in-Attach.is) (c.attach.ensures c.args.planned c.in-Attach.asked refl)

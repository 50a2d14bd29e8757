use Rattle.std.proofs.Common.{refl}
use mathlib.Core.Option.{none}
use Rattle.atomic_table.specs.Table.{step}
use Rattle.rme_service_steps.proofs.Seats.{at_table, may_look, look_sees}
use Rattle.rme_service_steps.proofs.seat.WorkerSeat.load_as_reader.Goals as goal

pub load-requires : goal.load-requires
load-requires c =
    let table = at_table c.self.invariant c.self.view_is c.service.view_is c.requires.ours c.service.invariant in
    may_look _ _ _ _ _ _ _ table _ c.args.at (step c.service.inside.table.shared.table_id.slots c.args.at 0 0 none) refl c.requires.address

pub returns-clause-sees : goal.returns-clause-sees
returns-clause-sees c address within lies =
    let table = at_table c.self.invariant c.self.view_is c.service.view_is c.requires.ours c.service.invariant in
    look_sees _ _ _ _ _ _ _ table c.args.at _ (step c.service.inside.table.shared.table_id.slots c.args.at 0 0 none) refl _ c.load.ensures.2 address within lies

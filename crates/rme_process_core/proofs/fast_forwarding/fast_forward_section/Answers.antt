use Rattle.rme_process_core.proofs.Led.{jumps_none}
use Rattle.rme_process_core.proofs.fast_forwarding.fast_forward_section.Goals as goal

pub returns-in_default : goal.returns-in_default
returns-in_default c = jumps_none c.args.shape.now c.args.private.now c.args.values.now c.args.outcome.now c.requires.private

pub returns-in_default-log : goal.returns-in_default-log
returns-in_default-log c = jumps_none c.args.shape.now c.args.private.now c.args.values.now c.args.outcome.now c.requires.private

pub returns-in-LoadTurn : goal.returns-in-LoadTurn
returns-in-LoadTurn c = c.fast_forward_loads.ensures c.args.outcome.now

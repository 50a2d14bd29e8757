use Rattle.rme_process_core.proofs.Led.{jumps_none}
use Rattle.rme_process_core.proofs.fast_forwarding.fast_forward.Goals as goal

pub returns-in_default : goal.returns-in_default
returns-in_default c = jumps_none c.args.shape.now c.args.private.now c.args.values.now c.args.outcome.now c.requires.private

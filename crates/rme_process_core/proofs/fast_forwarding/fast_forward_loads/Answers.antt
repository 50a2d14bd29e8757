use Rattle.std.proofs.Common.{[], arith}
use Rattle.rme_program.specs.declared.stage.Stage.TheVariants.{Logging}
use Rattle.rme_program.specs.declared.stage.Log.TheVariants.{LoadTurn}
use Rattle.rme_process_core.specs.Runs.{private_at_stage}
use Rattle.rme_process_core.proofs.Led.{writes_none}
use Rattle.rme_process_core.proofs.Jumping.{jumps_at}
use Rattle.rme_process_core.proofs.fast_forwarding.fast_forward_loads.Goals as goal

pub returns : goal.returns
returns c = λ outcome.
    let private = c.args.private.now in let stage = c.accept_loads.new.stage in
    jumps_at c.args.shape.now private (Logging (LoadTurn c.args.lock)) c.requires.here c.args.values.now c.accept_loads.result outcome (private_at_stage private.worker private.begun stage) outcome record {
      within = c.accept_loads.ensures.within;
      notes = [];
      takes = c.accept_loads.ensures.loads private.worker private.begun;
      few = omega arith;
      writes = writes_none outcome;
      private = record { worker = c.requires.private.worker; begun = c.requires.private.begun; stage = c.accept_loads.ensures.stage private.begun };
    }

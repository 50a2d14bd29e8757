use Rattle.std.proofs.Common.{refl, sym, subst, arith}
use Rattle.rme_program.specs.declared.private.Private.{Private}
use Rattle.rme_program.specs.Conditions.{IsPrivate}
use Rattle.rme_process_core.proofs.worker.CoreWorker.restarted.Goals as goal

pub returns-clause-worker : goal.returns-clause-worker
returns-clause-worker c =
    let P : Private → Type 0 = λ p. IsPrivate c.args.shape p in
    record { private = subst P (sym c.restart.ensures) record { worker = c.requires; begun = omega arith; stage = tt }; few = omega arith; ready = λ rests. refl; guess = c.of_empty_script.ensures c.args.shape }

use Rattle.rme_supervisor.proofs.Lives.{unlived}
use Rattle.rme_supervisor.proofs.worker_slot.SupervisedWorker.new.Goals as goal

pub invariant_of-result : goal.invariant_of-result
invariant_of-result g c = unlived g.K.Tag.ident.shape g.K.RunTag.run c.args.kept.down c.requires.given

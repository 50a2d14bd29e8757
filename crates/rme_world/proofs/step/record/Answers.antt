use Rattle.rme_machine.specs.Views.{worker_words}
use Rattle.rme_words.specs.Words.{memory_of}
use Rattle.rme_world.proofs.Slated.{slate_short}
use Rattle.rme_world.proofs.step.record.Goals as goal

pub push-requires-clause-few : goal.push-requires-clause-few
push-requires-clause-few c = rw c.slate.ensures (slate_short (worker_words (memory_of c.args.bank.now) c.args.worker))

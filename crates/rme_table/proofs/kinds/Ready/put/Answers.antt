use Rattle.rme_service_steps.proofs.Leading.{led_submit}
use Rattle.rme_table.proofs.Holding.{rests_at}
use Rattle.rme_table.proofs.kinds.Ready.put.Goals as goal

pub returns-then-is_err-clause-lead : goal.returns-then-is_err-clause-lead
returns-then-is_err-clause-lead g c = led_submit c.args.service.now.shape c.args.self.part c.args.job.now (rests_at _ c.self.view_is c.self.invariant) c.requires.few c.requires.good

pub returns-clause-lead : goal.returns-clause-lead
returns-clause-lead g c = led_submit c.args.service.now.shape c.args.self.part c.args.job.now (rests_at _ c.self.view_is c.self.invariant) c.requires.few c.requires.good

use Rattle.rme_replica.proofs.Once.{made_once, told_by_head}
use Rattle.rme_replica.proofs.laws.lost_add_is_made_once.Goals as goal

pub returns-clause-once : goal.returns-clause-once
returns-clause-once c = made_once

pub returns-clause-told : goal.returns-clause-told
returns-clause-told c = told_by_head

use Rattle.rme_service_steps.proofs.Opened.{may_deal, dealt_rest, dealt_seated, dealt_stand}
use Rattle.rme_service_steps.proofs.word_table.WordTable.split_off_worker.Goals as goal

pub split_seat-own-requires : goal.split_seat-own-requires
split_seat-own-requires c = may_deal _ _ _ c.requires.parts c.requires.worker _ _ _ _ _ c.self.view_is c.self.invariant c.requires.own

pub invariant_of-result : goal.invariant_of-result
invariant_of-result c =
    dealt_seated c.args.self.now _ _ c.requires.parts c.requires.worker _ _ _ c.split_seat-own.ensures.4 c.requires.none c.requires.room

pub returns-clause-parts : goal.returns-clause-parts
returns-clause-parts c = dealt_rest c.args.self.now _ _ c.requires.parts c.requires.worker _ c.split_seat-own.ensures.2

pub returns-clause-fresh : goal.returns-clause-fresh
returns-clause-fresh c = dealt_stand _ _ _ c.requires.parts c.requires.worker _ _ _ c.split_seat-own.ensures.3 c.requires.own c.split_seat-own.ensures.4

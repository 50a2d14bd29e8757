use Rattle.rme_words.proofs.Loads.{stored}
use Rattle.rme_words.proofs.bank.Bank.store.Goals as goal

pub returns-clause-stored : goal.returns-clause-stored
returns-clause-stored c = stored _ _ _ _ _ _ c.self.view_is c.self.invariant c.requires c.word-at.ensures.number

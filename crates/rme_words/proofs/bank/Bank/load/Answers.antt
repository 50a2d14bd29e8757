use Rattle.rme_words.proofs.Loads.{loaded}
use Rattle.rme_words.proofs.bank.Bank.load.Goals as goal

pub returns : goal.returns
returns c = loaded _ _ _ _ _ _ c.self.view_is c.self.invariant c.requires c.word.ensures.number c.index.ensures

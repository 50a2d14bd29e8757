use Rattle.std.proofs.Common.{◌∙◌}
use Rattle.rme_words.proofs.Places.{same_address, word_below}
use Rattle.rme_words.proofs.shape.Shape.word.Goals as goal

pub returns-clause-below : goal.returns-clause-below
returns-clause-below c = rw c.number.ensures (word_below c.args.self.now c.args.address c.requires)

pub returns-clause-distinct : goal.returns-clause-distinct
returns-clause-distinct c = λ other h e. same_address c.args.self.now other c.args.address h c.requires (e ∙ c.number.ensures)

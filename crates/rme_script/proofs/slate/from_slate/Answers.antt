use Rattle.std.proofs.Common.{refl}
use Rattle.rme_script.proofs.Slates.{exact_answer}
use Rattle.rme_script.proofs.slate.from_slate.Goals as goal

pub returns-then-read_slate-clause-exact : goal.returns-then-read_slate-clause-exact
returns-then-read_slate-clause-exact c = exact_answer c.args.n c.args.words.now _ (c.if-read_slate.ensures.read refl)

pub returns-clause-exact : goal.returns-clause-exact
returns-clause-exact c = exact_answer c.args.n c.args.words.now _ (c.if-read_slate.ensures.none refl)

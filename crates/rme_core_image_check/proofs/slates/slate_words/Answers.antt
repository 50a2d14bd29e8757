use Rattle.std.proofs.Common.{◌∙◌, arith}
use Rattle.std.proofs.lemmas.List.{length-set}
use Rattle.rme_words.specs.Words.{memory_of}
use Rattle.rme_core_image_check.proofs.Filling.{slate_next, slate_front}
use Rattle.rme_core_image_check.proofs.slates.slate_words.Goals as goal

pub loop-i-preserved : goal.loop-i-preserved
loop-i-preserved c = (
  length-set c.loop-i.words c.loop-i.i c.load.result ∙ c.loop-i.invariant.0,
  slate_next (memory_of c.args.bank.now) c.args.worker c.loop-i.words c.loop-i.i c.load.result c.loop-i.invariant.0 (omega (arith, c.loop-i-test.true, c.requires.count)) c.load.ensures c.loop-i.invariant.1,
)

pub returns : goal.returns
returns c = slate_front (memory_of c.args.bank.now) c.args.worker c.loop-i.words c.loop-i.i c.args.count c.loop-i-test.false c.loop-i.auto.i-end c.loop-i.invariant.1

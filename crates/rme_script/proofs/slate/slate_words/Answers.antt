use Rattle.std.proofs.Common.{◌∙◌, arith}
use Rattle.rme_script.proofs.Slating.{slating_words, slating_within, slated_back}
use Rattle.rme_script.proofs.slate.slate_words.Goals as goal

pub loop-i-preserved : goal.loop-i-preserved
loop-i-preserved c = record {
  words = slating_words c.args.script.now.ops c.loop-i.i c.op.result c.op.ensures c.loop-i.words c.copy_from_slice.new.self c.loop-i.invariant.words (c.copy_from_slice.ensures.after ∙ c.op_words.ensures.words);
  within = slating_within c.args.script.now.ops c.loop-i.i c.op.result c.op.ensures c.loop-i.invariant.within c.op_words.ensures.within;
}

pub returns-clause-back : goal.returns-clause-back
returns-clause-back c =
    slated_back c.args.script.now c.loop-i.i c.loop-i.words c.requires (omega arith) (omega arith) c.loop-i.invariant.words c.loop-i.invariant.within

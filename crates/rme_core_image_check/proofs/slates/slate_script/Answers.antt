use Rattle.std.proofs.Common.{◌∙◌}
use Rattle.rme_words.specs.Words.{memory_of}
use Rattle.rme_core_image_check.proofs.Filling.{slate_is}
use Rattle.rme_core_image_check.proofs.slates.slate_script.Goals as goal

pub returns : goal.returns
returns c = c.from_slate.ensures.decoded ∙ slate_is (memory_of c.args.bank.now) c.args.worker c.load-n.result c.slate_words.result c.load-n.ensures c.slate_words.ensures

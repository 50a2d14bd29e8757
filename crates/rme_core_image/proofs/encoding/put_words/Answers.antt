use Rattle.std.proofs.Common.{◌≡◌, take}
use Rattle.std.proofs.lemmas.List.{take_all}
use Rattle.rme_core_image.proofs.Appends.{words_skip_none}
use Rattle.rme_core_image.proofs.encoding.put_words.Goals as goal

pub returns : goal.returns
returns c =
    let all : take c.loop-word.word-index c.args.words.now ≡ c.args.words.now = take_all c.loop-word.word-index c.args.words.now c.loop-word-test.false in
    rw (words_skip_none c.args.shape 0 c.args.words.now) (rw all at c.loop-word.invariant)

use Rattle.std.proofs.Common.{◌+◌, ◌≡◌, ◌∷◌, ◌++◌, [], length, arith}
use Rattle.std.proofs.lemmas.List.{length-append}
use Rattle.rme_core_image.specs.Parsing.{parse_word, parse_many}
use Rattle.rme_core_image.proofs.Loops.{many_more, many_ends}
use Rattle.rme_core_image.proofs.words.read_words.Goals as goal

pub loop-preserved : goal.loop-preserved
loop-preserved c =
    let r = parse_word c.args.version c.args.shape in
    let longer : length (c.loop.words.items ++ c.in-Some.next ∷ []) ≡ c.loop.counter + 1 = omega (arith, length-append c.loop.words.items (c.in-Some.next ∷ []), c.loop.invariant.counted) in
    rw c.in-Ok.ensures.items (record {
      counted = longer;
      so_far = many_more r c.words-end.result c.loop.counter c.loop.words.items c.loop.rest.now (parse_many r c.words-end.result [] c.args.bytes.now) c.in-Some.next c.in-Some.after.now c.loop-test.true (rw c.as_slice.ensures.value at c.in-Some.ensures) c.loop.invariant.so_far;
    })

pub returns-in_default : goal.returns-in_default
returns-in_default c =
    let r = parse_word c.args.version c.args.shape in
    let none = many_ends r c.words-end.result c.loop.counter c.loop.words.items c.loop.rest.now (parse_many r c.words-end.result [] c.args.bytes.now) c.loop-test.true (rw c.as_slice.ensures.value at c.in_default.ensures) c.loop.invariant.so_far in
    rw c.words-end.ensures at none

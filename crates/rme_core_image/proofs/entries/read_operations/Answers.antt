use Rattle.std.proofs.Common.{◌<◌, [], take, length, ◌∙◌, arith}
use Rattle.std.proofs.lemmas.List.{take_more_set, length-set}
use Rattle.rme_core_image.specs.Parsing.{parse_op, parse_many}
use Rattle.rme_core_image.proofs.Loops.{many_more}
use Rattle.rme_core_image.proofs.entries.read_operations.Goals as goal

pub loop-i-preserved : goal.loop-i-preserved
loop-i-preserved c =
    let inside : c.loop-i.i < length c.loop-i.ops = omega (arith, c.loop-i-test.true, c.requires, c.loop-i.invariant.room) in
    record {
      room = length-set c.loop-i.ops c.loop-i.i c.in-Some.op ∙ c.loop-i.invariant.room;
      so_far = rw (take_more_set c.loop-i.ops c.loop-i.i c.in-Some.op inside)
          (many_more (λ _. parse_op) c.args.count c.loop-i.i (take c.loop-i.i c.loop-i.ops) c.loop-i.rest.now (parse_many (λ _. parse_op) c.args.count [] c.args.bytes.now) c.in-Some.op c.in-Some.after.now c.loop-i-test.true c.in-Some.ensures c.loop-i.invariant.so_far);
    }

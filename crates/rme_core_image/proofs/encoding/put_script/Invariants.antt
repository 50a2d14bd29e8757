use Rattle.std.proofs.Common.{◌≡◌, ◌++◌, length, take}
use Rattle.std.specs.List.{All, flat_map}
use Rattle.std.specs.Int.{w8, to_be_bytes}
use Rattle.rme_core_image.specs.Images.{IsSmallOp, op_bytes}
use Rattle.rme_core_image.proofs.encoding.put_script.Given as goal

abbrev pub invariant-loop-op : goal.invariant-loop-op
invariant-loop-op l = (l.out.items ≡ l.fn.out.items ++ to_be_bytes w8 (length l.ops) ++ flat_map op_bytes (take l.op-index l.ops)) × All IsSmallOp (take l.op-index l.ops)

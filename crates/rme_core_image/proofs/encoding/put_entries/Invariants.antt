use Rattle.std.proofs.Common.{◌≡◌, ◌++◌, length, take}
use Rattle.std.specs.List.{All, flat_map}
use Rattle.std.specs.Int.{w32, to_be_bytes}
use Rattle.rme_core_image.specs.Images.{IsSmallEntry, entry_bytes}
use Rattle.rme_core_image.proofs.encoding.put_entries.Given as goal

abbrev pub invariant-loop-i : goal.invariant-loop-i
invariant-loop-i l = (l.out.items ≡ l.fn.out.items ++ to_be_bytes w32 (length l.entries.entries) ++ flat_map entry_bytes (take l.i l.entries.entries)) × All IsSmallEntry (take l.i l.entries.entries)

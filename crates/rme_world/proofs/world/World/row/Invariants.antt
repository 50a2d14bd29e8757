use Rattle.std.proofs.Common.{◌≡◌, length, take}
use Rattle.rme_machine.specs.Views.{lock_words}
use Rattle.rme_world.specs.WorldViews.{world_memory}
use Rattle.rme_world.proofs.world.World.row.Given as goal

abbrev pub invariant-loop-cell : goal.invariant-loop-cell
invariant-loop-cell l = (length l.row ≡ l.cell-end) × (take l.cell l.row ≡ take l.cell (lock_words l.self.shape (world_memory l.self) l.lock).cells)

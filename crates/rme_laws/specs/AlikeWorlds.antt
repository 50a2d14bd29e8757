-- When two worlds are alike: nothing that a worker finds, owns, knows or is answered distinguishes them.
use Rattle.std.specs.Prelude.{◌≡◌}
use Rattle.rme_world.specs.WorldViews.{WorldView, world_memory}

-- The same words, private states and history. The reserved room for entries and the counts of own steps may differ.
pub record AreWorldsAlike (one other : WorldView) : Type 0 where
  pub shape : one.shape ≡ other.shape
  pub words : world_memory one ≡ world_memory other
  pub privates : one.privates ≡ other.privates
  pub history : one.history ≡ other.history

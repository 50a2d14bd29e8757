-- Two histories of a server by the same log, recovery from its bytes, the checkpoints in it, and the lives of workers.
use Rattle.std.specs.Prelude.{◌≡◌, ℕ, ◌+◌, ◌<◌, ◌≤◌, ◌^◌, List, [], ◌∷◌}
use Rattle.rme_durable_log.specs.declared.log_entry.LogEntry.{LogEntry}
use Rattle.rme_durable_log.specs.declared.log_entry.LogEntry.TheVariants.{Barrier, Lines, Whole}
use Rattle.rme_durable_server.specs.ServerHistories.{ServerState}
use Rattle.rme_world.specs.WorldViews.{WorldView}
use Rattle.rme_durable_format.specs.Lives.{life_of}
use Rattle.rme_durable_format.specs.Recovery.{RecoversWorld}
use Rattle.rme_laws.specs.AlikeWorlds.{AreWorldsAlike}

-- The same sessions have the same workers, the epochs have the same number and the same places of their locks, each worker
-- was restarted as often, and nothing that a worker finds, owns, knows or is answered distinguishes the worlds.
pub record AreStatesAlike (one other : ServerState) : Type 0 where
  pub world : AreWorldsAlike one.executor.world other.executor.world
  pub holders : one.executor.holders ≡ other.executor.holders
  pub lives : one.lives ≡ other.lives
  pub epoch : one.epoch ≡ other.epoch
  pub places : one.base.places.items ≡ other.base.places.items

-- Recovery of these bytes leads to a world like that of a state.
pub record RecoversState (names : List (List ℕ)) (bytes : List ℕ) (state : ServerState) : Type 0 where
  pub world : WorldView
  pub recovers : RecoversWorld bytes names world
  pub alike : AreWorldsAlike state.executor.world world

-- The number of checkpoints among entries.
abbrev pub checkpoint_count : List LogEntry → ℕ
checkpoint_count [] = 0
checkpoint_count (Lines author lines ∷ log) = checkpoint_count log
checkpoint_count (Whole bytes ∷ log) = checkpoint_count log + 1
checkpoint_count (Barrier ∷ log) = checkpoint_count log

-- Each life is a number of 64 bits; and no worker's life is less than before.
abbrev pub AreLivesWhole : List ℕ → Type 0
AreLivesWhole lives = (worker : ℕ) → life_of lives worker < 2 ^ 64

abbrev pub HaveLivesGrown : List ℕ → List ℕ → Type 0
HaveLivesGrown old new = (worker : ℕ) → life_of old worker ≤ life_of new worker

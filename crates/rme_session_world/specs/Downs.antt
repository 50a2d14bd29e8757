-- Workers that are down.
use Rattle.std.specs.Prelude.{◌≡◌, ℕ, Some, None, slice_get}
use Rattle.rme_world.specs.WorldViews.{WorldView}

-- A worker is down.
abbrev pub IsWorkerDown : WorldView → ℕ → Type 0
IsWorkerDown seen worker = slice_get seen.privates worker ≡ Some None

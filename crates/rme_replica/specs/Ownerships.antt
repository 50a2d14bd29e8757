-- Whether a store of this ownership takes lines.
use Rattle.std.specs.Prelude.{◌≡◌, Bool, true, false}
use Rattle.rme_replica.specs.declared.ownership.Ownership.{Ownership}
use Rattle.rme_replica.specs.declared.ownership.Ownership.TheVariants.{Owner, Fenced, Unreachable, Full, Stopped}

abbrev pub owns : Ownership → Bool
owns Owner = true
owns Fenced = false
owns Unreachable = false
owns Full = false
owns Stopped = false

-- A store of this ownership takes no lines.
abbrev pub StopsOwner : Ownership → Type 0
StopsOwner ownership = owns ownership ≡ false

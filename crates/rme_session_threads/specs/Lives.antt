-- The life of a worker: the number of its restarts since the service was made. Its slot counts them.
use Rattle.std.specs.Prelude.{◌≡◌, ℕ, ◌+◌, ◌-◌, ◌^◌, ◌<◌, ◌≤◌, min, Option, Some, None}

-- The worker was restarted since the life `after`.
abbrev pub IsLate : Option ℕ → ℕ → Type 0
IsLate None counted = ⊥
IsLate (Some after) counted = after < counted

-- It was not, or no such life is given.
abbrev pub IsInTime : Option ℕ → ℕ → Type 0
IsInTime None counted = Unit {0}
IsInTime (Some after) counted = counted ≤ after

-- An attachment that is in time begins the next life. The count stops at the greatest number of 64 bits.
abbrev pub BeginsLife : Option ℕ → ℕ → ℕ → Type 0
BeginsLife after counted life = IsInTime after counted × (life ≡ min (counted + 1) (2 ^ 64 - 1))

-- Each life up to this one is over: an attachment after it is late. (The count may stand at the greatest number.)
abbrev pub EndsEarlierLives : ℕ → ℕ → Type 0
EndsEarlierLives before now = before < 2 ^ 64 - 1 → (life : ℕ) → life ≤ before → IsLate (Some life) now

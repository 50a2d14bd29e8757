-- The size of the registry that the sessions of a service share.
use Rattle.std.specs.Prelude.{ℕ}

-- The numbers of workers and of locks that a registry is for. Both are numbered from 0.
pub record RegistrySize : Type 0 where
  pub workers : ℕ
  pub locks : ℕ

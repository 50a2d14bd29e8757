-- What a key is, and what it allows.
use Rattle.std.specs.Prelude.{◌≡◌, ◌≢◌, ◌↔◌, ℕ, List, Option, Some, None, string_bytes, true}
use Rattle.std.specs.List.{All, Contains}
use Rattle.rme_keys.specs.Spaces.{CoverName, is_space_name}
use Rattle.rme_keys.specs.Workers.{HaveWorker}
use Rattle.rme_keys.specs.declared.key.Key.{Key}
use Rattle.rme_keys.specs.declared.keys.Keys.{Keys}

-- The name of a key.
abbrev pub name_of : Key → List ℕ
name_of key = string_bytes key.name

-- The digest of a key.
abbrev pub digest_of : Key → List ℕ
digest_of key = key.digest

-- THE WORKERS THAT MAY BE ATTACHED: those of the key's ranges.
abbrev pub AllowsWorker : Key → ℕ → Type 0
AllowsWorker key worker = HaveWorker key.workers.items worker

-- THE SPACES THAT MAY BE USED: those whose names a pattern of the key covers.
abbrev pub AllowsSpace : Key → List ℕ → Type 0
AllowsSpace key name = (is_space_name name ≡ true) × CoverName key.spaces.items name

-- The spaces that may be used may also be created and dropped.
abbrev pub MayCreate : Key → Type 0
MayCreate key = key.may_create ≡ true

-- A COPY OF A KEY: it has the key's name and digest, and it allows what the key allows.
pub record IsCopy (key copy : Key) : Type 0 where
  pub same_name : name_of copy ≡ name_of key
  pub same_digest : digest_of copy ≡ digest_of key
  pub same_workers : (worker : ℕ) → AllowsWorker copy worker ↔ AllowsWorker key worker
  pub same_spaces : (name : List ℕ) → AllowsSpace copy name ↔ AllowsSpace key name
  pub same_creating : MayCreate copy ↔ MayCreate key

-- The keys of a file, in its order.
abbrev pub keys_of : Keys → List Key
keys_of keys = keys.keys.items

-- THE KEY THAT IS FOUND: one with this digest. None is found only if no key has it.
abbrev pub FindsKey : List Key → List ℕ → Option Key → Type 0
FindsKey keys digest None = All (λ key. digest_of key ≢ digest) keys
FindsKey keys digest (Some key) = Contains keys key × (digest_of key ≡ digest)

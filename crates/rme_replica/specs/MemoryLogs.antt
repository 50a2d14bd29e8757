-- A log in memory.
use Rattle.std.specs.Prelude.{◌≡◌, ◌≢◌, ◌==◌, ◌&&◌, ◌⊎◌, ℕ, Bool, List, [], ◌∷◌, take, if◌then◌else◌}
use Rattle.std.specs.List.{concat}
use Rattle.std.specs.Str.{bytes_eq}
use Rattle.rme_replica.specs.EngineLogs.{EngineLog, HeadValue, WasTakenOver}
use Rattle.rme_replica.specs.declared.named_bytes.NamedBytes.{NamedBytes}

-- Whether two heads are equal.
abbrev pub head_eq : HeadValue → HeadValue → Bool
head_eq a b = bytes_eq a.address b.address && ((a.epoch == b.epoch) && ((a.sequence == b.sequence)
    && ((a.term == b.term) && bytes_eq a.writer b.writer)))

-- The bytes that a head names, by the latest entry for it.
abbrev pub named_bytes : List NamedBytes → HeadValue → List ℕ
named_bytes [] head = []
named_bytes (named ∷ past) head = if head_eq named.head head then named.bytes.items else named_bytes past head

-- The bytes that a head names, where the log's own head names these bytes.
unfoldable pub bytes_named : HeadValue → List ℕ → List NamedBytes → HeadValue → List ℕ
bytes_named own bytes past head = if head_eq own head then bytes else named_bytes past head

-- The first parts, joined.
abbrev pub joined_parts : ℕ → EngineLog → List ℕ
joined_parts count log = concat (take count log.parts)

-- A head was put that names these bytes.
pub record WasPut (next : HeadValue) (bytes : List ℕ) (log to : EngineLog) : Type 0 where
  pub head : to.head ≡ next
  pub names : to.bytes_at next ≡ bytes
  pub past : (head : HeadValue) → head ≢ next → to.bytes_at head ≡ log.bytes_at head
  pub parts : to.parts ≡ []

-- Another writer took the log over, or nothing changed. It does not put a head that the call knows.
abbrev pub RivalMayCome : HeadValue → HeadValue → EngineLog → EngineLog → Type 0
RivalMayCome seen next log to = (to ≡ log) ⊎ (WasTakenOver seen log to × (to.head ≢ next))

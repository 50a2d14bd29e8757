-- A log on an engine, and the effect of one call on it, if the log is known.
use Rattle.std.specs.Prelude.{◌≡◌, ◌≢◌, ℕ, ◌+◌, ◌-◌, ◌≤◌, eqb, Bool, true, false, List, [], ◌∷◌, ◌++◌, take, length, Option, Some, None, ◌⊎◌, ⊤}
use Rattle.std.specs.List.{concat}

-- The head of a log: where its writer is reached, its epoch, the number of the epoch's records, its term, and the mark
-- of the writer's run.
pub record HeadValue : Type 0 where
  pub address : List ℕ
  pub epoch : ℕ
  pub sequence : ℕ
  pub term : ℕ
  pub writer : List ℕ

-- The head of the same writer and term, with another number of records, in this epoch.
abbrev pub placed : HeadValue → ℕ → ℕ → HeadValue
placed head epoch sequence = record {
  address = head.address;
  epoch = epoch;
  sequence = sequence;
  term = head.term;
  writer = head.writer;
}

-- A head that one add may put in the place of another: one more record in the same epoch, or the next epoch.
pub record IsNextHead (seen next : HeadValue) : Type 0 where
  pub same : next.epoch ≡ seen.epoch → next.sequence ≡ seen.sequence + 1
  pub other : next.epoch ≢ seen.epoch → next.epoch ≡ seen.epoch + 1

-- A log: its head; the bytes of the records that each head names that was ever put, which are never changed; and the
-- parts for the next epoch that were staged while it had this head. Recovery reads the bytes of the head.
pub record EngineLog : Type 0 where
  pub head : HeadValue
  pub bytes_at : HeadValue → List ℕ
  pub parts : List (List ℕ)

-- What an add of this head puts its lines behind: in the same epoch all bytes, and else the parts that the head names.
abbrev pub base_bytes : Bool → HeadValue → EngineLog → List ℕ
base_bytes true next log = log.bytes_at log.head
base_bytes false next log = concat (take (next.sequence - 1) log.parts)

-- AN ADD WAS MADE: the log had exactly the head that the add saw, and now has the next head and the lines.
pub record WasAdded (seen next : HeadValue) (lines : List ℕ) (log to : EngineLog) : Type 0 where
  pub saw : log.head ≡ seen
  pub head : to.head ≡ next
  pub bytes : to.bytes_at next ≡ base_bytes (eqb next.epoch seen.epoch) next log ++ lines
  pub past : (head : HeadValue) → head ≢ next → to.bytes_at head ≡ log.bytes_at head
  pub parts : to.parts ≡ []

-- Other writers' calls came to the log: its head is no more the one that was seen, which names the same bytes still.
pub record WasTakenOver (seen : HeadValue) (log to : EngineLog) : Type 0 where
  pub other : to.head ≢ seen
  pub kept : to.bytes_at seen ≡ log.bytes_at seen

-- The answer of an add was lost: it was made, or nothing changed, or other writers took the log over. They do not put
-- the head that this add puts.
abbrev pub MayBeAdded : HeadValue → HeadValue → List ℕ → EngineLog → EngineLog → Type 0
MayBeAdded seen next lines log to =
    (to ≡ log) ⊎ (WasAdded seen next lines log to ⊎ (WasTakenOver seen log to × (to.head ≢ next)))

-- An add found another head than it saw. Only tries of this add put its next head: if that was found, an earlier try
-- was made, before this call or during it, and other writers have not come to the log since.
pub record FindsMoved (seen next found : HeadValue) (lines : List ℕ) (log to : EngineLog) : Type 0 where
  pub taken : WasTakenOver seen log to
  pub has : to.head ≡ found
  pub own : found ≡ next → (to ≡ log) ⊎ WasAdded seen next lines log to

-- A part was staged, behind those with lower numbers.
pub record WasStaged (seen : HeadValue) (part : ℕ) (bytes : List ℕ) (log to : EngineLog) : Type 0 where
  pub saw : log.head ≡ seen
  pub head : to.head ≡ seen
  pub past : to.bytes_at ≡ log.bytes_at
  pub parts : to.parts ≡ take part log.parts ++ bytes ∷ []

abbrev pub MayBeStaged : HeadValue → ℕ → List ℕ → EngineLog → EngineLog → Type 0
MayBeStaged seen part bytes log to = (to ≡ log) ⊎ (WasStaged seen part bytes log to ⊎ WasTakenOver seen log to)

-- THE SAME FOR A LOG THAT IS KNOWN, OR NOT.
abbrev pub HasHead : Option EngineLog → HeadValue → Type 0
HasHead None head = ⊤
HasHead (Some log) head = log.head ≡ head

-- A log has this head, and these are its bytes.
abbrev pub ReadsLog : Option EngineLog → HeadValue → List ℕ → Type 0
ReadsLog None head bytes = ⊤
ReadsLog (Some log) head bytes = (log.head ≡ head) × (log.bytes_at head ≡ bytes)

-- All parts with lower numbers are staged, if the log has this head.
abbrev pub HasPartsBefore : HeadValue → ℕ → Option EngineLog → Type 0
HasPartsBefore seen part None = ⊤
HasPartsBefore seen part (Some log) = log.head ≡ seen → part ≤ length log.parts

-- This head names the same bytes still.
abbrev pub KeepsHead : HeadValue → Option EngineLog → Option EngineLog → Type 0
KeepsHead seen None None = ⊤
KeepsHead seen (Some log) (Some to) = to.bytes_at seen ≡ log.bytes_at seen
KeepsHead seen None (Some to) = ⊥
KeepsHead seen (Some log) None = ⊥

abbrev pub MakesAdd : HeadValue → HeadValue → List ℕ → Option EngineLog → Option EngineLog → Type 0
MakesAdd seen next lines None None = ⊤
MakesAdd seen next lines (Some log) (Some to) = WasAdded seen next lines log to
MakesAdd seen next lines None (Some to) = ⊥
MakesAdd seen next lines (Some log) None = ⊥

abbrev pub LosesAdd : HeadValue → HeadValue → List ℕ → Option EngineLog → Option EngineLog → Type 0
LosesAdd seen next lines None None = ⊤
LosesAdd seen next lines (Some log) (Some to) = MayBeAdded seen next lines log to
LosesAdd seen next lines None (Some to) = ⊥
LosesAdd seen next lines (Some log) None = ⊥

abbrev pub MovesAdd : HeadValue → HeadValue → HeadValue → List ℕ → Option EngineLog → Option EngineLog → Type 0
MovesAdd seen next found lines None None = ⊤
MovesAdd seen next found lines (Some log) (Some to) = FindsMoved seen next found lines log to
MovesAdd seen next found lines None (Some to) = ⊥
MovesAdd seen next found lines (Some log) None = ⊥

abbrev pub StagesPart : HeadValue → ℕ → List ℕ → Option EngineLog → Option EngineLog → Type 0
StagesPart seen part bytes None None = ⊤
StagesPart seen part bytes (Some log) (Some to) = WasStaged seen part bytes log to
StagesPart seen part bytes None (Some to) = ⊥
StagesPart seen part bytes (Some log) None = ⊥

abbrev pub LosesPart : HeadValue → ℕ → List ℕ → Option EngineLog → Option EngineLog → Type 0
LosesPart seen part bytes None None = ⊤
LosesPart seen part bytes (Some log) (Some to) = MayBeStaged seen part bytes log to
LosesPart seen part bytes None (Some to) = ⊥
LosesPart seen part bytes (Some log) None = ⊥

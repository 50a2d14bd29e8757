-- Line 1 of a file: the base that earlier epochs left.
use Rattle.std.specs.Prelude.{◌≡◌, ◌≢◌, ◌⊎◌, ℕ, ◌+◌, ◌-◌, ◌^◌, ◌<◌, ◌≤◌, true, ℤ, pos, unsigned_abs, List, [], ◌∷◌, length, replicate, slice_get, codes, Option, Some, None, option_map, option_and_then}
use Rattle.std.specs.List.{All}
use Rattle.serde_json.specs.Data.{Data, null, boolean, number, string, array, unsigned, Items, no_items, item}
use Rattle.serde_json.specs.Events.{members_len}
use Rattle.serde_json.specs.Find.{get, as_i64, as_number, as_object}
use Rattle.rme_line_json.specs.Values.{json_value_of}
use Rattle.rme_words.specs.declared.shape.Shape.{Shape}
use Rattle.rme_wire.specs.Commands.{member_count}
use Rattle.rme_line_text.specs.Names.{name_number}
use Rattle.rme_line_text.specs.declared.client_receipt.ClientReceipt.{ClientReceipt}
use Rattle.rme_durable_format.specs.declared.header.LastJob.{LastJob}
use Rattle.rme_durable_format.specs.declared.header.LastJob.TheVariants.{Nothing, Withdrawn, Receipt}
use Rattle.rme_durable_format.specs.declared.header.LogHeader.{LogHeader}

-- The number of earlier epochs; for each worker but the checkpoint worker its last job, how often it was restarted, and
-- how many numbers it had; and for each lock how many sections it had, less those that the checkpoint worker made in
-- this epoch.
pub record HeaderValues : Type 0 where
  pub epoch : ℕ
  pub last : List LastJob
  pub lives : List ℕ
  pub numbers : List ℕ
  pub places : List ℤ

abbrev pub header_values : LogHeader → HeaderValues
header_values header =
    record {
      epoch = header.epoch;
      last = header.last.items;
      lives = header.lives.items;
      numbers = header.numbers.items;
      places =
          header.places.items;
    }

-- ---- the values of a JSON value

-- An object with this number of members, all with different names.
abbrev pub HasMemberCount : ℕ → Data → Type 0
HasMemberCount count value = option_map members_len (as_object value) ≡ Some count

-- Its member of this name is this whole number.
abbrev pub HasNumberMember : List ℕ → Data → ℕ → Type 0
HasNumberMember name value n = get name value ≡ Some (number (unsigned n))

-- `{"lock":..,"number":..,"place":..,"reply":..,"worker":..}`, of a lock with one of these names
pub record IsReceiptObject (names : List (List ℕ)) (value : Data) (receipt : ClientReceipt) : Type 0 where
  pub five : HasMemberCount 5 value
  pub worker : HasNumberMember (codes "worker") value receipt.worker × (receipt.worker < 2 ^ 32)
  pub lock : (name : List ℕ) × (get (codes "lock") value ≡ Some (string name))
      × (name_number names name ≡ Some receipt.lock)
  pub number : HasNumberMember (codes "number") value receipt.number × (receipt.number ≤ 2 ^ 53)
  pub place : HasNumberMember (codes "place") value receipt.place × (receipt.place ≤ 2 ^ 53)
  pub reply : HasNumberMember (codes "reply") value receipt.reply

-- `{"withdrawn":true}`
abbrev pub IsWithdrawalObject : Data → Type 0
IsWithdrawalObject value = HasMemberCount 1 value × (get (codes "withdrawn") value ≡ Some (boolean true))

-- A worker's last job: `null` if it had none, a withdrawal, or its receipt.
abbrev pub IsLastJobObject : List (List ℕ) → Data → LastJob → Type 0
IsLastJobObject names value Nothing = value ≡ null
IsLastJobObject names value Withdrawn = IsWithdrawalObject value
IsLastJobObject names value (Receipt receipt) = IsReceiptObject names value receipt

-- The count of numbers or of restarts that a worker had: a whole number up to 2^53.
abbrev pub IsJobCount : Data → ℕ → Type 0
IsJobCount value n = (value ≡ number (unsigned n)) × (n ≤ 2 ^ 53)

-- The count of sections that a lock had: a whole number from -2^53 to 2^53.
abbrev pub IsPlaceCount : Data → ℤ → Type 0
IsPlaceCount value place = (option_and_then as_i64 (as_number value) ≡ Some place) × (unsigned_abs place ≤ 2 ^ 53)

-- The items of a list have these values, in order.
abbrev pub AreItemsOf : {A : Type 0} → (Data → A → Type 0) → Items → List A → Type 0
AreItemsOf Tells no_items [] = Unit {0}
AreItemsOf Tells no_items (a ∷ rest) = ⊥
AreItemsOf Tells (item value items) [] = ⊥
AreItemsOf Tells (item value items) (a ∷ rest) = Tells value a × AreItemsOf Tells items rest

-- The member of this name is a list whose items have these values.
abbrev pub IsListMember : {A : Type 0} → (Data → A → Type 0) → List ℕ → Data → List A → Type 0
IsListMember Tells name value list =
    (items : Items) × (get name value ≡ Some (array items)) × AreItemsOf Tells items list

-- The member `lives` of this number of workers. A log that was written before there were lives has none; then no worker
-- was restarted.
abbrev pub AreLivesFound : Option Data → Data → ℕ → List ℕ → Type 0
AreLivesFound None value workers lives = lives ≡ replicate workers 0
AreLivesFound (Some list) value workers lives = IsListMember IsJobCount (codes "lives") value lives

abbrev pub AreHeaderLives : Data → ℕ → List ℕ → Type 0
AreHeaderLives value = AreLivesFound (get (codes "lives") value) value

-- `{"epoch":..,"last":[..],"lives":[..],"numbers":[..],"places":[..],"rme":..,"version":..}`, with these names of the
-- locks
pub record HasHeaderMembers (names : List (List ℕ)) (value : Data) (past : HeaderValues) : Type 0 where
  pub epoch : HasNumberMember (codes "epoch") value past.epoch
  pub last : IsListMember (IsLastJobObject names) (codes "last") value past.last
  pub lives : AreHeaderLives value (length past.numbers) past.lives
  pub numbers : IsListMember IsJobCount (codes "numbers") value past.numbers
  pub places : IsListMember IsPlaceCount (codes "places") value past.places

-- The versions of logs that are read. They differ in what stands between the lines: in version 2 each write ends with
-- its checksum.
abbrev pub IsReadVersion : Data → Type 0
IsReadVersion value = HasNumberMember (codes "version") value 1 ⊎ HasNumberMember (codes "version") value 2

-- The object has the fields of a log header of such a version, among which `lives` may be absent.
pub record IsLogVersion (value : Data) : Type 0 where
  pub members : HasMemberCount (6 + member_count (get (codes "lives") value)) value
  pub rme : get (codes "rme") value ≡ Some (string (codes "kept"))
  pub version : IsReadVersion value

-- A line has the JSON value of a log header of such a version.
pub record HasLogVersion (line : List ℕ) : Type 0 where
  pub value : Data
  pub reads : json_value_of line ≡ Some value
  pub version : IsLogVersion value

-- ---- the bases that earlier epochs may have left

-- If a worker had numbers it has a last job, and a receipt there is its own, of its last number.
abbrev pub IsPossibleLastJob : ℕ → ℕ → LastJob → Type 0
IsPossibleLastJob worker n Nothing = n ≡ 0
IsPossibleLastJob worker n Withdrawn = n ≢ 0
IsPossibleLastJob worker n (Receipt receipt) = (n ≢ 0) × (receipt.worker ≡ worker) × (receipt.number ≡ n)

-- A possible base of a world of this shape: it has each worker but the last one, the checkpoint worker, and each lock.
-- In the first epoch no worker has had a number, and no lock a section.
pub record IsPossibleHeader (shape : Shape) (past : HeaderValues) : Type 0 where
  pub words : length past.last ≡ shape.workers - 1
  pub lived : length past.lives ≡ shape.workers - 1
  pub counts : length past.numbers ≡ shape.workers - 1
  pub locks : length past.places ≡ shape.locks
  pub own : (worker n : ℕ) (word : LastJob) → slice_get past.numbers worker ≡ Some n
      → slice_get past.last worker ≡ Some word → IsPossibleLastJob worker n word
  pub beginning : past.epoch ≡ 0 → All (λ n. n ≡ 0) past.numbers × All (λ place. place ≡ pos 0) past.places

-- The base of a first epoch of a world of this shape: no worker has had a number or was restarted, and no lock has had
-- a section.
abbrev pub first_header_values : Shape → HeaderValues
first_header_values shape =
    record {
      epoch = 0;
      last = replicate (shape.workers - 1) Nothing;
      lives = replicate (shape.workers - 1) 0;
      numbers = replicate (shape.workers - 1) 0;
      places =
          replicate shape.locks (pos 0);
    }

-- ---- headers

-- A line is the header of a world of this shape with these names of the locks, and has these values.
pub record IsLogHeader (names : List (List ℕ)) (shape : Shape) (line : List ℕ) (past : HeaderValues) : Type 0 where
  pub value : Data
  pub reads : json_value_of line ≡ Some value
  pub version : IsLogVersion value
  pub tells : HasHeaderMembers names value past
  pub may : IsPossibleHeader shape past

-- ---- the results of reading

-- A value that was found is the member's, and if none was found there is none.
abbrev pub HeaderSearch : {A : Type 0} → (A → Type 0) → Option A → Type 0
HeaderSearch {A} Tells None = (a : A) → Tells a → ⊥
HeaderSearch Tells (Some a) = Tells a

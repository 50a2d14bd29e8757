-- The text of line 1 of a file: compact JSON with sorted keys, which is read as the header that it was written for.
use Rattle.std.specs.Prelude.{◌≡◌, ℕ, ◌^◌, ◌<◌, ◌≤◌, ℤ, unsigned_abs, List, [], ◌∷◌, ◌++◌, length, false, true, codes}
use Rattle.std.specs.Fmt.{decimal, signed_decimal}
use Rattle.std.specs.List.{All}
use Rattle.rme_line_text.specs.Names.{is_name}
use Rattle.rme_line_text.specs.declared.client_receipt.ClientReceipt.{ClientReceipt}
use Rattle.rme_line_text.specs.ClientReceipts.{as_receipt}
use Rattle.rme_line_text.specs.Texts.{lock_name, receipt_text, separated_text}
use Rattle.rme_durable_format.specs.declared.header.LastJob.{LastJob}
use Rattle.rme_durable_format.specs.declared.header.LastJob.TheVariants.{Nothing, Withdrawn, Receipt}
use Rattle.rme_durable_format.specs.Headers.{HeaderValues}

-- a worker's last job: `null` if it had none, a withdrawal, or its receipt
abbrev pub last_job_text : List (List ℕ) → LastJob → List ℕ
last_job_text names Nothing = codes "null"
last_job_text names Withdrawn = codes "{\"withdrawn\":true}"
last_job_text names (Receipt receipt) = receipt_text names (as_receipt receipt)

abbrev pub last_jobs_text : List (List ℕ) → List LastJob → List ℕ
last_jobs_text names last = separated_text (last_job_text names) false last

abbrev pub numbers_text : List ℕ → List ℕ
numbers_text numbers = separated_text decimal false numbers

abbrev pub places_text : List ℤ → List ℕ
places_text places = separated_text signed_decimal false places

-- `{"epoch":..,"last":[..],"lives":[..],"numbers":[..],"places":[..],"rme":"kept","version":2}`, with these names of the
-- locks
abbrev pub header_text : List (List ℕ) → HeaderValues → List ℕ
header_text names past =
    codes "{\"epoch\":" ++ (decimal past.epoch ++
    (codes ",\"last\":[" ++ (last_jobs_text names past.last
    ++ (codes "],\"lives\":[" ++ (numbers_text past.lives
    ++ (codes "],\"numbers\":[" ++ (numbers_text past.numbers
    ++ (codes "],\"places\":[" ++ (places_text past.places
    ++ codes "],\"rme\":\"kept\",\"version\":2}")))))))))

-- The line of a header, with its newline.
abbrev pub header_line : List (List ℕ) → HeaderValues → List ℕ
header_line names past = header_text names past ++ 10 ∷ []

-- ---- the headers whose line is read back

-- The names of the locks: each is a name, and no two are equal.
pub record AreLockNames (names : List (List ℕ)) : Type 0 where
  pub valid : (lock : ℕ) → lock < length names → is_name (lock_name names lock) ≡ true
  pub once : (one other : ℕ) → one < length names → other < length names
      → lock_name names one ≡ lock_name names other → one ≡ other

-- A receipt of a lock with a name; its number and its place are at most 2^53.
pub record IsWritableReceipt (names : List (List ℕ)) (receipt : ClientReceipt) : Type 0 where
  pub worker : receipt.worker < 2 ^ 32
  pub lock : receipt.lock < length names
  pub number : receipt.number ≤ 2 ^ 53
  pub place : receipt.place ≤ 2 ^ 53
  pub reply : receipt.reply < 2 ^ 64

abbrev pub IsWritableLastJob : List (List ℕ) → LastJob → Type 0
IsWritableLastJob names Nothing = Unit {0}
IsWritableLastJob names Withdrawn = Unit {0}
IsWritableLastJob names (Receipt receipt) = IsWritableReceipt names receipt

-- Each receipt has a lock with a name, and the counts are at most 2^53.
pub record IsWritableHeader (names : List (List ℕ)) (past : HeaderValues) : Type 0 where
  pub epoch : past.epoch < 2 ^ 64
  pub last : All (IsWritableLastJob names) past.last
  pub lives : All (λ n. n ≤ 2 ^ 53) past.lives
  pub numbers : All (λ n. n ≤ 2 ^ 53) past.numbers
  pub places : All (λ place. unsigned_abs place ≤ 2 ^ 53) past.places

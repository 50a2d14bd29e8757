-- The base of an epoch, by the header of its log.
use Rattle.std.specs.Prelude.{◌≡◌, ◌<◌, ◌≤◌, ◌-◌, ◌^◌, ℕ, ℤ, pos, int_lt, unsigned_abs, List, length, get_or, Option, Some, None, if◌then◌else◌}
use Rattle.std.specs.List.{All}
use Rattle.rme_line_text.specs.declared.client_receipt.ClientReceipt.{ClientReceipt}
use Rattle.rme_durable_format.specs.Headers.{HeaderValues}
use Rattle.rme_durable_format.specs.declared.header.LastJob.{LastJob}
use Rattle.rme_durable_format.specs.declared.header.LastJob.TheVariants.{Nothing, Withdrawn, Receipt}
use Rattle.rme_durable_epochs.specs.declared.epoch_base.Base.{Base}
use Rattle.rme_durable_epochs.specs.declared.epoch_base.PlaceOffset.{PlaceOffset}
use Rattle.rme_durable_epochs.specs.declared.epoch_base.WorkerBase.{WorkerBase}

-- The receipt of a worker's last job, if it has one.
abbrev pub receipt_of_last_job : LastJob → Option ClientReceipt
receipt_of_last_job Nothing = None
receipt_of_last_job Withdrawn = None
receipt_of_last_job (Receipt receipt) = Some receipt

abbrev pub header_worker : ℕ → LastJob → WorkerBase
header_worker numbers word = record { numbers = numbers; last = receipt_of_last_job word }

-- The offset of a lock's places: sections that it had before, or, if negative, some that are not counted.
abbrev pub header_offset : ℤ → PlaceOffset
header_offset place =
    if int_lt place (pos 0) then record { more = 0; less = unsigned_abs place } else
    record { more = unsigned_abs place; less = 0 }

abbrev pub AreHeaderWorkers : List ℕ → List LastJob → List WorkerBase → Type 0
AreHeaderWorkers numbers last workers =
    (length workers ≡ length numbers)
    × ((worker : ℕ) (none : WorkerBase) → worker < length numbers
    → get_or workers worker none ≡ header_worker (get_or numbers worker 0) (get_or last worker Nothing))

abbrev pub AreHeaderPlaces : List ℤ → List PlaceOffset → Type 0
AreHeaderPlaces places offsets =
    (length offsets ≡ length places)
    × ((lock : ℕ) (none : PlaceOffset) → lock < length places
    → get_or offsets lock none ≡ header_offset (get_or places lock (pos 0)))

-- The base has the numbers, the last receipts and the places of the header.
pub record IsHeaderBase (past : HeaderValues) (base : Base) : Type 0 where
  pub workers : AreHeaderWorkers past.numbers past.last base.workers.items
  pub places : AreHeaderPlaces past.places base.places.items

-- A header leaves room for one more epoch: with a million jobs of each worker, no number and no place passes 2^53.
abbrev pub LeavesRoom : HeaderValues → Type 0
LeavesRoom past =
    All (λ n. n ≤ 2 ^ 53 - 1000000) past.numbers × All (λ place. unsigned_abs place ≤ 2 ^ 53 - 256000000) past.places

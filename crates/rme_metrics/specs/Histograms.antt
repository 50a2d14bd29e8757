-- What a histogram of times is.
use Rattle.std.specs.Prelude.{◌≡◌, ℕ, length, slice_index_or}
use Rattle.std.specs.List.Sorted.{IsNonDecreasingBy}
use Rattle.rme_metrics.specs.declared.label.LabelledCount.{LabelledCount}
use Rattle.rme_metrics.specs.declared.time_counter.TimeHistogram.{TimeHistogram}

abbrev pub bucket_count : LabelledCount → ℕ
bucket_count bucket = bucket.count

-- It has a count for each of the 14 bounds; no bucket has more than a later one; and the last has all times.
pub record IsHistogram (times : TimeHistogram) : Type 0 where
  pub long : length times.buckets.items ≡ 14
  pub rising : IsNonDecreasingBy bucket_count times.buckets.items
  pub whole : (d : LabelledCount) → bucket_count (slice_index_or times.buckets.items 13 d) ≡ times.count

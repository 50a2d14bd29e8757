-- The words of one worker and of one lock, read from a memory, and what follows from them.
use Rattle.std.specs.Prelude.{ℕ, ◌/◌, ◌%◌, Bool, nat_lt, List, [], Option, map, if◌then◌else◌, unwrap_or}
use Rattle.std.specs.List.{range_with_len}
use Rattle.rme_words.specs.declared.shape.Shape.{Shape}
use Rattle.rme_words.specs.declared.address.Address.{Address}
use Rattle.rme_words.specs.declared.address.Address.TheVariants.{Begun, Done, Reply, Place, At, SlateLock, SlateLen, SlateWord, Turn, Cell, Shadow, ShadowReply, Mask}
use Rattle.rme_script.specs.declared.job.Job.{Job}
use Rattle.rme_script.specs.Programs.{Program}
use Rattle.rme_script.specs.Slates.{script_from_words}

-- The words of a worker; `slate` are the words of its operations, in order.
pub record WorkerWords : Type 0 where
  pub begun : ℕ
  pub done : ℕ
  pub reply : ℕ
  pub place : ℕ
  pub at : ℕ
  pub slate_lock : ℕ
  pub slate_len : ℕ
  pub slate : List ℕ

unfoldable pub slate_of_worker : (Address → ℕ) → ℕ → List ℕ
slate_of_worker memory worker = map (λ (i : ℕ). memory (SlateWord worker (i / 3) (i % 3))) (range_with_len 0 24)

abbrev pub worker_words : (Address → ℕ) → ℕ → WorkerWords
worker_words memory worker = record {
  begun = memory (Begun worker);
  done = memory (Done worker);
  reply = memory (Reply worker);
  place = memory (Place worker);
  at = memory (At worker);
  slate_lock = memory (SlateLock worker);
  slate_len = memory (SlateLen worker);
  slate = slate_of_worker memory worker;
}

-- The words of a lock other than its nodes.
pub record LockWords : Type 0 where
  pub turn : ℕ
  pub cells : List ℕ
  pub shadows : List ℕ
  pub shadow_reply : ℕ
  pub mask : ℕ

abbrev pub lock_words : Shape → (Address → ℕ) → ℕ → LockWords
lock_words shape memory lock = record {
  turn = memory (Turn lock);
  cells = map (λ (c : ℕ). memory (Cell lock c)) (range_with_len 0 shape.cells);
  shadows = map (λ (c : ℕ). memory (Shadow lock c)) (range_with_len 0 shape.cells);
  shadow_reply = memory (ShadowReply lock);
  mask = memory (Mask lock);
}

-- Whether the worker's last job is begun and not done.
abbrev pub is_pending : WorkerWords → Bool
is_pending own = nat_lt own.done own.begun

-- The lock that the worker is at: its slate's while a job is pending, otherwise that of its last receipt.
abbrev pub current_lock : WorkerWords → ℕ
current_lock own = if is_pending own then own.slate_lock else own.at

-- The job of its slate. Words that encode no script (never those of a pending job) give an empty one.
abbrev pub slate_script : WorkerWords → Option Program
slate_script own = script_from_words own.slate_len own.slate

abbrev pub no_script : Program
no_script = record { n = 0; ops = [] }

abbrev pub slate_job : WorkerWords → Job
slate_job own = record { lock = own.slate_lock; script = unwrap_or (slate_script own) no_script }

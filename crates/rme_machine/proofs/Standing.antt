-- The lock that a worker is at.
use Rattle.std.proofs.Common.{◌≡◌, ℕ, ◌<◌, List, inl, inr, arith}
use Rattle.std.specs.Prelude.{false, ◌==◌}
use Rattle.std.proofs.lemmas.Bool.{cases_eq, cases_Bool}
use Rattle.rme_words.specs.declared.shape.Shape.{Shape}
use Rattle.rme_words.specs.declared.address.Address.{Address}
use Rattle.rme_tree.specs.Nodes.{held_levels_in}
use Rattle.rme_program.specs.declared.note.Entry.{Entry}
use Rattle.rme_program.specs.Steps.{withdrawn_place}
use Rattle.rme_machine.specs.Histories.{last_entry_of_worker, IsLegalNextEntry}
use Rattle.rme_machine.specs.Views.{worker_words, is_pending, current_lock}
use Rattle.rme_machine.specs.AbstractState.{Privates, last_entry_job}
use Rattle.rme_machine.specs.Invariant.{Invariant, IsLastReceiptWords}
use Rattle.rme_machine.proofs.Lasts.{IsLast, last_stands, last_due}
use Rattle.rme_machine.proofs.Ended.{IsEnded, ended}

-- The word At of a worker with begun jobs and none pending is a lock.
pub at_lock : (s : Shape) (mem : Address → ℕ) (privs : Privates) (es : List Entry) (w : ℕ) → Invariant s mem privs es → w < s.workers
    → is_pending (worker_words mem w) ≡ false → 0 < (worker_words mem w).begun → (worker_words mem w).at < s.locks
at_lock s mem privs es w fact worker past some =
    elim (cases_eq (worker_words mem w).place withdrawn_place) [
      | inl gone ↦ ((fact.accounts w worker).withdrawn past some gone).at
      | inr there ↦
          (let receipt : IsLastReceiptWords (worker_words mem w) es w = (fact.accounts w worker).receipt past some there in
          let last : IsLast (λ (e : Entry). e.receipt.worker == w) es receipt.last = last_stands _ es receipt.last receipt.found in
          let due : IsLegalNextEntry s last.before receipt.last = last_due s _ es receipt.last fact.legal last in
          let below = due.follows.job.lock in
          omega (arith, receipt.at, below))
    ]

-- The lock that a worker is at is one of the shape's.
pub site_small : (s : Shape) (mem : Address → ℕ) (privs : Privates) (es : List Entry) (w : ℕ) → Invariant s mem privs es → w < s.workers
    → 0 < (worker_words mem w).begun → current_lock (worker_words mem w) < s.locks
site_small s mem privs es w fact worker some =
    elim (cases_Bool (is_pending (worker_words mem w))) [
      | inl pending ↦ rw pending ((fact.accounts w worker).slate pending).job.lock
      | inr past ↦ rw past (at_lock s mem privs es w fact worker past some)
    ]

-- The last entry of a worker that owns a lock, its job being finished, is of that lock.
pub finished_lock : (s : Shape) (mem : Address → ℕ) (privs : Privates) (es : List Entry) (w l : ℕ) → Invariant s mem privs es → w < s.workers
    → l < s.locks → held_levels_in s mem w l ≡ s.height → 0 < (worker_words mem w).begun → is_pending (worker_words mem w) ≡ false → (worker_words mem w).at ≡ l
    → (last_entry_job (last_entry_of_worker es w)).lock ≡ l
finished_lock s mem privs es w l fact worker lock holds some past at =
    let end : IsEnded es w l = ended s mem privs es w l fact worker lock holds past some at in
    rw end.found end.at

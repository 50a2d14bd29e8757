-- The laws of histories. Each is the contract of a function of the module `laws`.
use Rattle.std.specs.Prelude.{◌≡◌, ◌↔◌, ℕ, ◌<◌, List}
use Rattle.std.specs.List.{All}
use Rattle.std.specs.List.Sorted.{IsPermutation, IsSorted}
use Rattle.rme_words.specs.declared.shape.Shape.{Shape}
use Rattle.rme_program.specs.declared.note.Entry.{Entry}
use Rattle.rme_machine.specs.Histories.{history_of_lock, HistoryIsLegal}
use Rattle.rme_history.specs.Legal.{LockHistoriesAreLegal}
use Rattle.rme_history.specs.Places.{place_order}

-- A history is legal in the abstract machine if and only if its workers and jobs are of the shape, and each lock's
-- entries are a legal history.
abbrev pub LegalByLockLaw : Type 0
LegalByLockLaw =
    (shape : Shape) (history : List Entry)
    → HistoryIsLegal shape history
    ↔ (All (λ (e : Entry). e.receipt.worker < shape.workers) history × LockHistoriesAreLegal shape history)

-- Sorting a permuted legal history by place restores it lock by lock: each lock's entries are those of the history, in
-- order.
abbrev pub PlaceOrderLaw : Type 0
PlaceOrderLaw =
    (shape : Shape) (history mixed : List Entry) → LockHistoriesAreLegal shape history → IsPermutation history mixed
    → IsSorted place_order mixed → (lock : ℕ) → history_of_lock mixed lock ≡ history_of_lock history lock

-- A history of the abstract machine is one whose locks have legal histories, by workers of the shape.
use Rattle.std.proofs.Common.{◌<◌, List, [], ◌∷◌, ◌++◌, length, take, sym, subst, append_assoc}
use Rattle.std.specs.List.{All}
use Rattle.std.proofs.lemmas.List.{append-nil}
use Rattle.std.proofs.lemmas.List.Elements.{All-nil, All-cons, All-head, All-tail}
use Rattle.std.proofs.Math.Seq.{take-append_seam}
use Rattle.rme_words.specs.declared.shape.Shape.{Shape}
use Rattle.rme_script.proofs.Lists.{get_seam}
use Rattle.rme_program.specs.declared.note.Entry.{Entry}
use Rattle.rme_machine.specs.Histories.{EntryFollows, HistoryIsLegalAfter}
use Rattle.rme_history.specs.Legal.{LockHistoriesAreLegal}
use Rattle.rme_history.specs.Laws.{LegalByLockLaw}
use Rattle.rme_history.proofs.Legal.{legal_none, legal_more, follows_in}

abbrev IsWorker : Shape → Entry → Type 0
IsWorker s e = e.receipt.worker < s.workers

-- In a history of the machine each lock's entries are legal.
legal_from : (s : Shape) (earlier es : List Entry) → LockHistoriesAreLegal s earlier → HistoryIsLegalAfter s earlier es → LockHistoriesAreLegal s (earlier ++ es)
legal_from s earlier [] legal after = subst (λ (all : List Entry). LockHistoriesAreLegal s all) (sym (append-nil earlier)) legal
legal_from s earlier (e ∷ es) legal after =
    subst (λ (all : List Entry). LockHistoriesAreLegal s all) (append_assoc earlier (e ∷ []) es)
    (legal_from s (earlier ++ e ∷ []) es (legal_more s earlier e legal after.0.follows) after.1)

workers_from : (s : Shape) (earlier es : List Entry) → HistoryIsLegalAfter s earlier es → All (IsWorker s) es
workers_from s earlier [] after = All-nil (IsWorker s)
workers_from s earlier (e ∷ es) after = All-cons (IsWorker s) e es after.0.worker (workers_from s (earlier ++ e ∷ []) es after.1)

-- The converse.
machine_from : (s : Shape) (earlier es : List Entry) → All (IsWorker s) es → LockHistoriesAreLegal s (earlier ++ es) → HistoryIsLegalAfter s earlier es
machine_from s earlier [] workers legal = tt
machine_from s earlier (e ∷ es) workers legal =
    let this : EntryFollows s (take (length earlier) (earlier ++ e ∷ es)) e = follows_in s (earlier ++ e ∷ es) (length earlier) e legal (get_seam earlier es e) in
    let follows : EntryFollows s earlier e = subst (λ (front : List Entry). EntryFollows s front e) (take-append_seam earlier (e ∷ es)) this in (
      record { worker = All-head (IsWorker s) e es workers; follows = follows },
      machine_from s (earlier ++ e ∷ []) es (All-tail (IsWorker s) e es workers)
          (subst (λ (all : List Entry). LockHistoriesAreLegal s all) (sym (append_assoc earlier (e ∷ []) es)) legal),
    )

pub legal_both : LegalByLockLaw
legal_both s history = (
  λ legal. (workers_from s [] history legal, legal_from s [] history (legal_none s) legal),
  λ both. machine_from s [] history both.0 both.1,
)

-- A worker's last entry, and the receipt of a number.
use Rattle.std.proofs.Common.{◌≡◌, ◌≢◌, ℕ, ◌<◌, ◌≤◌, List, [], ◌∷◌, refl, sym, ◌∙◌, ap, inl, inr, arith}
use Rattle.std.specs.Prelude.{true, false, ◌&&◌, ◌==◌, Option, Some, None, Ok, is_some, nat_lt}
use Rattle.std.proofs.lemmas.Bool.{cases_Bool, cases_eq, eq-eqb, eqb-true, ne_eqb, and_from, and_left, and_right, or_from, or_left, or_right, le-ltb, ltb-true, ltb-false}
use Rattle.std.proofs.lemmas.Option.{none-some, same_Some}
use Rattle.rme_program.specs.declared.note.Entry.{Entry}
use Rattle.rme_program.specs.declared.note.Receipt.{Receipt}
use Rattle.rme_program.specs.Steps.{withdrawn_place}
use Rattle.rme_machine.specs.Histories.{NumbersRise, has_entry, last_entry_of_worker, last_entry_passing, numbers_of_worker}
use Rattle.rme_machine.specs.Views.{is_pending}
use Rattle.rme_machine.proofs.Historical.{no_entry}
use Rattle.rme_world.specs.WorldViews.{WorldView}
use Rattle.rme_world.specs.WorldInvariants.{WorldInvariant}
use Rattle.rme_world.specs.Calls.{LastContract}
use Rattle.rme_world.specs.Queries.{world_worker_words}
use Rattle.rme_session_world.specs.WorkerSessions.{last_receipt_under, receipt_of_number}

one_more : (d : Entry) (es : List Entry) (worker : ℕ) (e : Entry) (rest : Option Entry) → last_entry_of_worker es worker ≡ rest → last_entry_of_worker (d ∷ es) worker ≡ Some e
    → (rest ≡ Some e → has_entry es worker e.receipt.number ≡ true) → has_entry (d ∷ es) worker e.receipt.number ≡ true
unfolding last_entry_passing
one_more d es worker e (Some later) at is before =
    let found : Some later ≡ Some e = rw at at is in
    or_right ((d.receipt.worker == worker) && (d.receipt.number == e.receipt.number)) (has_entry es worker e.receipt.number) (before found)
one_more d es worker e None at is before = elim (cases_Bool (d.receipt.worker == worker)) [
  | inl t ↦
      (let found : Some d ≡ Some e = rw (at, t) at is in
      let same : d ≡ e = same_Some _ _ found in
      or_left ((d.receipt.worker == worker) && (d.receipt.number == e.receipt.number)) (has_entry es worker e.receipt.number)
      (and_from (d.receipt.worker == worker) (d.receipt.number == e.receipt.number) t (eq-eqb d.receipt.number e.receipt.number (ap (λ (x : Entry). x.receipt.number) same))))
  | inr f ↦ (let found : None ≡ Some e = rw (at, f) at is in absurd (none-some e found))
]

-- A worker's last entry is one of its number.
pub last_has : (es : List Entry) (worker : ℕ) (e : Entry) → last_entry_of_worker es worker ≡ Some e → has_entry es worker e.receipt.number ≡ true
unfolding last_entry_passing
last_has [] worker e is = absurd (none-some e is)
last_has (d ∷ es) worker e is = one_more d es worker e (last_entry_of_worker es worker) refl is (λ found. last_has es worker e found)

-- A number without an entry has no receipt.
pub none_under : (es : List Entry) (worker number : ℕ) → has_entry es worker number ≡ false → last_receipt_under es worker number ≡ None
none_under es worker number none = by_last (last_entry_of_worker es worker) refl
  where
    by_last : (last : Option Entry) → last_entry_of_worker es worker ≡ last → receipt_of_number number last ≡ None
    by_last None at = refl
    by_last (Some e) at = elim (cases_Bool (e.receipt.number == number)) [
      | inl t ↦
          (let has : has_entry es worker number ≡ true = ap (has_entry es worker) (sym (eqb-true _ _ t)) ∙ last_has es worker e at in
          let no_ : true ≡ false = sym has ∙ none in absurd (cc))
      | inr f ↦ rw f refl
    ]

-- A worker's numbers begin above 0.
no_first : (es : List Entry) (worker low most k : ℕ) → NumbersRise low most (numbers_of_worker es worker) → k ≤ low → has_entry es worker k ≡ false
unfolding numbers_of_worker
no_first [] worker low most k rises under = refl
no_first (d ∷ es) worker low most k rises under = elim (cases_Bool (d.receipt.worker == worker)) [
  | inl t ↦
      let parts : NumbersRise low most (d.receipt.number ∷ numbers_of_worker es worker) = rw t at rises in
      let apart : d.receipt.number ≢ k = λ q. omega (arith, q, parts.0, under) in
      or_from ((d.receipt.worker == worker) && (d.receipt.number == k)) (has_entry es worker k)
      (and_right (d.receipt.worker == worker) (d.receipt.number == k) (ne_eqb d.receipt.number k apart)) (no_first es worker d.receipt.number most k parts.2 (omega (arith, parts.0, under)))
  | inr f ↦
      let parts : NumbersRise low most (numbers_of_worker es worker) = rw f at rises in
      or_from ((d.receipt.worker == worker) && (d.receipt.number == k)) (has_entry es worker k)
      (and_left (d.receipt.worker == worker) (d.receipt.number == k) f) (no_first es worker low most k parts under)
]

module _ (seen : WorldView) (worker : ℕ) (kept : WorldInvariant seen) (within : worker < seen.shape.workers) where
  -- While a job is pending its number has no receipt.
  pub none_pending : is_pending (world_worker_words seen worker) ≡ true → last_receipt_under seen.history worker (world_worker_words seen worker).begun ≡ None
  none_pending pending =
      let account = kept.fact.accounts worker within in
      none_under seen.history worker (world_worker_words seen worker).begun
      (no_entry seen.history worker 0 (world_worker_words seen worker).done (world_worker_words seen worker).begun account.numbered (ltb-true _ _ pending))

  -- The receipt by the words is that of the history.
  pub last_is : (last : Option Receipt) → is_pending (world_worker_words seen worker) ≡ false → LastContract seen worker (Ok last) → last_receipt_under seen.history worker (world_worker_words seen worker).begun ≡ last
  last_is (Some receipt) past shows =
      let is = shows.receipt in
      let has = shows.some.0 refl in
      let account = kept.fact.accounts worker within in
      let its = account.receipt (le-ltb _ _ (omega (arith, has.done))) (omega (arith, has.some)) has.kept in
      let same : its.last ≡ is.entry = same_Some _ _ (sym its.found ∙ is.last) in
      let number : is.entry.receipt.number ≡ (world_worker_words seen worker).begun = ap (λ (e : Entry). e.receipt.number) (sym same) ∙ its.number ∙ has.done in
      let whole : receipt_of_number (world_worker_words seen worker).begun (Some is.entry) ≡ Some is.entry.receipt = rw (eq-eqb _ _ number) refl in
      ap (receipt_of_number (world_worker_words seen worker).begun) is.last ∙ whole ∙ ap (λ (r : Receipt). Some r) (sym is.same)
  last_is None past shows =
      let account = kept.fact.accounts worker within in
      let done : (world_worker_words seen worker).done ≡ (world_worker_words seen worker).begun = omega (arith, account.done, not_less _ _ past) in
      elim (cases_eq (world_worker_words seen worker).begun 0) [
        | inl none ↦ none_under seen.history worker (world_worker_words seen worker).begun (no_first seen.history worker 0 (world_worker_words seen worker).done (world_worker_words seen worker).begun account.numbered (omega (arith, none)))
        | inr some ↦ elim (cases_eq (world_worker_words seen worker).place withdrawn_place) [
          | inl gone ↦
              (let its = account.withdrawn past (omega (arith, some)) gone in
              none_under seen.history worker (world_worker_words seen worker).begun (ap (has_entry seen.history worker) (sym done) ∙ its.no_entry))
          | inr kept_place ↦ absurd (no_some (shows.some.1 record { done = done; some = some; kept = kept_place }))
        ]
      ]
    where
      not_less : (a b : ℕ) → nat_lt a b ≡ false → b ≤ a
      not_less a b no_ = omega (arith, ltb-false a b no_)

      no_some : is_some {T = Receipt} None ≡ true → ⊥
      no_some is = let e : false ≡ true = is in cc

-- The effect of one more entry on the legal histories of a list, and the properties of each entry of a legal list.
use Rattle.std.proofs.Common.{◌≡◌, ◌≢◌, ℕ, zero, suc, ◌+◌, ◌<◌, List, [], ◌∷◌, ◌++◌, length, take, drop, refl, sym, ◌∙◌, ap, subst, inl, inr, arith}
use Rattle.std.specs.Prelude.{◌==◌, ◌⊎◌, slice_get, Some, replicate}
use Rattle.std.proofs.lemmas.Bool.{cases_eq, eq-eqb, ne_eqb}
use Rattle.std.proofs.lemmas.List.{append-nil, take-append-drop, take-append-le}
use Rattle.std.proofs.lemmas.List.Elements.{filter-append, All-nil, All-push, All-get_or}
use Rattle.std.proofs.lemmas.Option.{get_or_from_slice_get, slice_get_within, same_Some}
use Rattle.std.proofs.Math.Seq.{take-append_seam}
use Rattle.rme_words.specs.declared.shape.Shape.{Shape}
use Rattle.rme_script.specs.Eval.{eval_of}
use Rattle.rme_script.proofs.Lists.{drop_at, get_seam}
use Rattle.rme_program.specs.declared.note.Entry.{Entry}
use Rattle.rme_script.specs.Jobs.{IsJob}
use Rattle.rme_machine.specs.Histories.{history_of_lock, entry_job, EntryFollows}
use Rattle.rme_machine.proofs.Sections.{place_count, row_entries}
use Rattle.rme_history.specs.Legal.{IsLegalLockEntry, IsLegalLockHistory, LockHistoriesAreLegal}

-- One more entry is one more entry of its lock.
entries_same : (es : List Entry) (e : Entry) (lock : ℕ) → e.receipt.lock ≡ lock → history_of_lock (es ++ e ∷ []) lock ≡ history_of_lock es lock ++ e ∷ []
entries_same es e lock at =
    filter-append (λ (d : Entry). d.receipt.lock == lock) es (e ∷ [])
    ∙ (rw (eq-eqb e.receipt.lock lock at) refl)

entries_other : (es : List Entry) (e : Entry) (lock : ℕ) → e.receipt.lock ≢ lock → history_of_lock (es ++ e ∷ []) lock ≡ history_of_lock es lock
entries_other es e lock off =
    filter-append (λ (d : Entry). d.receipt.lock == lock) es (e ∷ [])
    ∙ (rw (ne_eqb e.receipt.lock lock off) (append-nil (history_of_lock es lock)))

-- The item at an index of a list with one item appended.
get_more : {A : Type 0} (xs : List A) (x y : A) (i : ℕ) → slice_get (xs ++ x ∷ []) i ≡ Some y
    → ((i < length xs) × (slice_get xs i ≡ Some y)) ⊎ ((i ≡ length xs) × (x ≡ y))
get_more [] x y zero at = inr (refl, same_Some x y at)
get_more [] x y (suc i) at = cc
get_more (z ∷ zs) x y zero at = inl (omega arith, at)
get_more (z ∷ zs) x y (suc i) at = elim (get_more zs x y i at) [
  | inl old ↦ inl (omega (arith, old.0), old.1)
  | inr new ↦ inr (ap suc new.0, new.1)
]

module _ (s : Shape) where
  pub legal_none : LockHistoriesAreLegal s []
  legal_none = record { jobs = All-nil (λ (e : Entry). IsJob s (entry_job e)); histories = λ lock i e at. cc }

  history_more : (lock : ℕ) (es : List Entry) (e : Entry) → IsLegalLockHistory s lock es → IsLegalLockEntry s lock (length es) es e
      → IsLegalLockHistory s lock (es ++ e ∷ [])
  history_more lock es e legal new i d at = elim (get_more es e d i at) [
    | inl old ↦ subst (λ (front : List Entry). IsLegalLockEntry s lock i front d) (sym (take-append-le i es (e ∷ []) (omega (arith, old.0)))) (legal i d old.1)
    | inr last ↦
        let front : take i (es ++ e ∷ []) ≡ es = ap (λ (k : ℕ). take k (es ++ e ∷ [])) last.0 ∙ take-append_seam es (e ∷ []) in
        let there : IsLegalLockEntry s lock i es e = subst (λ (k : ℕ). IsLegalLockEntry s lock k es e) (sym last.0) new in
        let this : IsLegalLockEntry s lock i es d = subst (λ (x : Entry). IsLegalLockEntry s lock i es x) last.1 there in
        subst (λ (earlier : List Entry). IsLegalLockEntry s lock i earlier d) (sym front) this
  ]

  -- An entry that follows from legal ones is legal for its lock.
  own_entry : (es : List Entry) (e : Entry) → EntryFollows s es e
      → IsLegalLockEntry s e.receipt.lock (length (history_of_lock es e.receipt.lock)) (history_of_lock es e.receipt.lock) e
  own_entry es e follows = record {
    of_lock = refl;
    at_place = follows.place ∙ place_count es e.receipt.lock;
    reply = follows.reply ∙ ap (λ (row : List ℕ). (eval_of e.script.ops row).reply) (row_entries (replicate s.cells 0) es e.receipt.lock);
  }

  pub legal_more : (es : List Entry) (e : Entry) → LockHistoriesAreLegal s es → EntryFollows s es e → LockHistoriesAreLegal s (es ++ e ∷ [])
  legal_more es e legal follows = record {
    jobs = All-push (λ (d : Entry). IsJob s (entry_job d)) es e legal.jobs follows.job;
    histories = λ lock. elim (cases_eq e.receipt.lock lock) [
      | inl here ↦
          let new : IsLegalLockEntry s lock (length (history_of_lock es lock)) (history_of_lock es lock) e =
          subst (λ (l : ℕ). IsLegalLockEntry s l (length (history_of_lock es l)) (history_of_lock es l) e) here (own_entry es e follows) in
          let more : IsLegalLockHistory s lock (history_of_lock es lock ++ e ∷ []) = history_more lock (history_of_lock es lock) e (legal.histories lock) new in
          subst (λ (own : List Entry). IsLegalLockHistory s lock own) (sym (entries_same es e lock here)) more
      | inr apart ↦ subst (λ (own : List Entry). IsLegalLockHistory s lock own) (sym (entries_other es e lock apart)) (legal.histories lock)
    ];
  }

  -- Each entry of a legal list follows from those before it.
  pub follows_in : (es : List Entry) (i : ℕ) (e : Entry) → LockHistoriesAreLegal s es → slice_get es i ≡ Some e → EntryFollows s (take i es) e
  follows_in es i e legal at =
      let lock = e.receipt.lock in
      let own : List Entry = history_of_lock (take i es) lock in
      let later : List Entry = history_of_lock (drop (i + 1) es) lock in
      let cut : es ≡ take i es ++ e ∷ drop (i + 1) es =
      sym (take-append-drop i es) ∙ ap (λ (rest : List Entry). take i es ++ rest) (drop_at es i e at) in
      let parts : history_of_lock es lock ≡ own ++ e ∷ later =
      ap (λ (all : List Entry). history_of_lock all lock) cut
      ∙ filter-append (λ (d : Entry). d.receipt.lock == lock) (take i es) (e ∷ drop (i + 1) es)
      ∙ ap (λ (rest : List Entry). own ++ rest) (rw (eq-eqb lock lock refl) refl) in
      let here : slice_get (history_of_lock es lock) (length own) ≡ Some e = ap (λ (all : List Entry). slice_get all (length own)) parts ∙ get_seam own later e in
      let front : take (length own) (history_of_lock es lock) ≡ own = ap (λ (all : List Entry). take (length own) all) parts ∙ take-append_seam own (e ∷ later) in
      let entry : IsLegalLockEntry s lock (length own) own e =
      subst (λ (earlier : List Entry). IsLegalLockEntry s lock (length own) earlier e) front (legal.histories lock (length own) e here) in
      record {
        job = subst (λ (d : Entry). IsJob s (entry_job d)) (get_or_from_slice_get es i e e at) (All-get_or (λ (d : Entry). IsJob s (entry_job d)) es i e (slice_get_within es i e at) legal.jobs);
        place = entry.at_place ∙ sym (place_count (take i es) lock);
        reply = entry.reply ∙ ap (λ (row : List ℕ). (eval_of e.script.ops row).reply) (sym (row_entries (replicate s.cells 0) (take i es) lock));
      }

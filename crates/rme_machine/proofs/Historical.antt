-- The effect of one more entry on a history, and the greatest number of entries.
use Rattle.std.proofs.Common.{◌≡◌, ◌≢◌, ℕ, zero, suc, ◌+◌, ◌*◌, ◌^◌, ◌<◌, ◌≤◌, List, [], ◌∷◌, ◌++◌, length, refl, sym, ◌∙◌, ap, subst, inl, inr, arith, append_assoc}
use Rattle.std.specs.Prelude.{Bool, true, false, not, ◌&&◌, ◌||◌, ◌==◌, if◌then◌else◌, Some, filter}
use Rattle.std.specs.List.{range_with_len}
use Rattle.std.proofs.lemmas.Bool.{cases_eq, cases_Bool, eq-eqb, ne_eqb, and_from, and_left, and_right, or_from, or_left, or_right}
use Rattle.std.proofs.Math.Nat.{mul-le-mul, suc-mul}
use Rattle.std.proofs.lemmas.List.{append-nil, map-id}
use Rattle.std.proofs.lemmas.List.FromFn.{filter_of_map_range_with_len_more}
use Rattle.std.proofs.lemmas.List.Folds.{list_any-append}
use Rattle.std.proofs.lemmas.List.Elements.{filter_agree}
use Rattle.rme_words.specs.declared.shape.Shape.{Shape}
use Rattle.rme_words.specs.declared.address.Address.{Address}
use Rattle.rme_script.specs.Eval.{eval_of}
use Rattle.rme_program.specs.declared.note.Entry.{Entry}
use Rattle.rme_machine.specs.Histories.{place_of, row_after_entries, last_entry_passing, last_entry_of_lock, last_entry_of_worker, has_entry, withdrawn_numbers, numbers_of_worker, NumbersRise, IsLegalNextEntry, HistoryIsLegalAfter, HistoryIsLegal}
use Rattle.rme_machine.specs.Views.{worker_words}
use Rattle.rme_machine.specs.Invariant.{Invariant, WorkerInvariant}
use Rattle.rme_machine.specs.AbstractState.{Privates}
use Rattle.rme_tree.specs.Nodes.{held_levels_in}

-- The next place of the entry's lock is one more, and that of every other lock is the same.
pub place_same : (es : List Entry) (e : Entry) (lock : ℕ) → e.receipt.lock ≡ lock → place_of (es ++ e ∷ []) lock ≡ place_of es lock + 1
unfolding place_of
place_same [] e lock at = rw (eq-eqb e.receipt.lock lock at) refl
place_same (d ∷ es) e lock at = elim (cases_Bool (d.receipt.lock == lock)) [
  | inl t ↦ rw t (omega (arith, place_same es e lock at))
  | inr f ↦ rw f (place_same es e lock at)
]

pub place_other : (es : List Entry) (e : Entry) (lock : ℕ) → e.receipt.lock ≢ lock → place_of (es ++ e ∷ []) lock ≡ place_of es lock
unfolding place_of
place_other [] e lock off = rw (ne_eqb e.receipt.lock lock off) refl
place_other (d ∷ es) e lock off = elim (cases_Bool (d.receipt.lock == lock)) [
  | inl t ↦ rw t (omega (arith, place_other es e lock off))
  | inr f ↦ rw f (place_other es e lock off)
]

-- The row of the entry's lock is the result of its script, and every other lock's row is the same.
pub row_same : (row : List ℕ) (es : List Entry) (e : Entry) (lock : ℕ) → e.receipt.lock ≡ lock
    → row_after_entries row (es ++ e ∷ []) lock ≡ (eval_of e.script.ops (row_after_entries row es lock)).row
unfolding row_after_entries
row_same row [] e lock at = rw (eq-eqb e.receipt.lock lock at) refl
row_same row (d ∷ es) e lock at = elim (cases_Bool (d.receipt.lock == lock)) [
  | inl t ↦ rw t (row_same (eval_of d.script.ops row).row es e lock at)
  | inr f ↦ rw f (row_same row es e lock at)
]

pub row_other : (row : List ℕ) (es : List Entry) (e : Entry) (lock : ℕ) → e.receipt.lock ≢ lock
    → row_after_entries row (es ++ e ∷ []) lock ≡ row_after_entries row es lock
unfolding row_after_entries
row_other row [] e lock off = rw (ne_eqb e.receipt.lock lock off) refl
row_other row (d ∷ es) e lock off = elim (cases_Bool (d.receipt.lock == lock)) [
  | inl t ↦ rw t (row_other (eval_of d.script.ops row).row es e lock off)
  | inr f ↦ rw f (row_other row es e lock off)
]

-- The last entry that passes a test is the new one, if it passes.
pub last_same : (test : Entry → Bool) (es : List Entry) (e : Entry) → test e ≡ true → last_entry_passing test (es ++ e ∷ []) ≡ Some e
unfolding last_entry_passing
last_same test [] e t = rw t refl
last_same test (d ∷ es) e t = rw (last_same test es e t) refl

pub last_other : (test : Entry → Bool) (es : List Entry) (e : Entry) → test e ≡ false → last_entry_passing test (es ++ e ∷ []) ≡ last_entry_passing test es
unfolding last_entry_passing
last_other test [] e f = rw f refl
last_other test (d ∷ es) e f = rw (last_other test es e f) refl

pub last_at_same : (es : List Entry) (e : Entry) (lock : ℕ) → e.receipt.lock ≡ lock → last_entry_of_lock (es ++ e ∷ []) lock ≡ Some e
last_at_same es e lock at = last_same (λ (d : Entry). d.receipt.lock == lock) es e (eq-eqb e.receipt.lock lock at)

pub last_at_other : (es : List Entry) (e : Entry) (lock : ℕ) → e.receipt.lock ≢ lock → last_entry_of_lock (es ++ e ∷ []) lock ≡ last_entry_of_lock es lock
last_at_other es e lock off = last_other (λ (d : Entry). d.receipt.lock == lock) es e (ne_eqb e.receipt.lock lock off)

pub last_by_same : (es : List Entry) (e : Entry) (worker : ℕ) → e.receipt.worker ≡ worker → last_entry_of_worker (es ++ e ∷ []) worker ≡ Some e
last_by_same es e worker by = last_same (λ (d : Entry). d.receipt.worker == worker) es e (eq-eqb e.receipt.worker worker by)

pub last_by_other : (es : List Entry) (e : Entry) (worker : ℕ) → e.receipt.worker ≢ worker → last_entry_of_worker (es ++ e ∷ []) worker ≡ last_entry_of_worker es worker
last_by_other es e worker off = last_other (λ (d : Entry). d.receipt.worker == worker) es e (ne_eqb e.receipt.worker worker off)

-- The numbers of the entry's worker end with its number, and those of every other worker are the same.
pub numbers_same : (es : List Entry) (e : Entry) (worker : ℕ) → e.receipt.worker ≡ worker
    → numbers_of_worker (es ++ e ∷ []) worker ≡ numbers_of_worker es worker ++ e.receipt.number ∷ []
unfolding numbers_of_worker
numbers_same [] e worker by = rw (eq-eqb e.receipt.worker worker by) refl
numbers_same (d ∷ es) e worker by = elim (cases_Bool (d.receipt.worker == worker)) [
  | inl t ↦ rw (t, numbers_same es e worker by) refl
  | inr f ↦ rw (f, numbers_same es e worker by) refl
]

pub numbers_other : (es : List Entry) (e : Entry) (worker : ℕ) → e.receipt.worker ≢ worker → numbers_of_worker (es ++ e ∷ []) worker ≡ numbers_of_worker es worker
unfolding numbers_of_worker
numbers_other [] e worker off = rw (ne_eqb e.receipt.worker worker off) refl
numbers_other (d ∷ es) e worker off = elim (cases_Bool (d.receipt.worker == worker)) [
  | inl t ↦ rw (t, numbers_other es e worker off) refl
  | inr f ↦ rw (f, numbers_other es e worker off) refl
]

-- Rising numbers stay rising when a number above them all is appended.
pub rises_more : (low most k : ℕ) (ks : List ℕ) → low < k → most < k → NumbersRise low most ks → NumbersRise low k (ks ++ k ∷ [])
rises_more low most k [] above over rises = (above, omega arith, tt)
rises_more low most k (j ∷ ks) above over rises =
    (rises.0, omega (arith, rises.1, over), rises_more j most k ks (omega (arith, rises.1, over)) over rises.2)

-- The upper bound may be greater.
pub rises_wider : (low most more : ℕ) (ks : List ℕ) → most ≤ more → NumbersRise low most ks → NumbersRise low more ks
rises_wider low most more [] wide rises = tt
rises_wider low most more (k ∷ ks) wide rises = (rises.0, omega (arith, rises.1, wide), rises_wider k most more ks wide rises.2)

-- There are at most as many of them as numbers in their range.
pub rises_few : (low most : ℕ) (ks : List ℕ) → low ≤ most → NumbersRise low most ks → length ks + low ≤ most
rises_few low most [] room rises = omega (arith, room)
rises_few low most (k ∷ ks) room rises = omega (arith, rises.0, rises_few k most ks rises.1 rises.2)

-- If an entry is due after a legal history, the history with it is legal.
legal_after : (s : Shape) (earlier es : List Entry) (e : Entry) → HistoryIsLegalAfter s earlier es → IsLegalNextEntry s (earlier ++ es) e → HistoryIsLegalAfter s earlier (es ++ e ∷ [])
legal_after s earlier [] e legal due =
    let here : IsLegalNextEntry s earlier e = subst (λ (before : List Entry). IsLegalNextEntry s before e) (append-nil earlier) due in (here, tt)
legal_after s earlier (d ∷ es) e legal due =
    let later : IsLegalNextEntry s ((earlier ++ d ∷ []) ++ es) e = subst (λ (before : List Entry). IsLegalNextEntry s before e) (sym (append_assoc earlier (d ∷ []) es)) due in
    (legal.0, legal_after s (earlier ++ d ∷ []) es e legal.1 later)

pub legal_more : (s : Shape) (es : List Entry) (e : Entry) → HistoryIsLegal s es → IsLegalNextEntry s es e → HistoryIsLegal s (es ++ e ∷ [])
legal_more s es e legal due = legal_after s [] es e legal due

-- The entries of a worker after one more.
pub entry_same : (es : List Entry) (e : Entry) (worker k : ℕ) → e.receipt.worker ≡ worker → e.receipt.number ≡ k → has_entry (es ++ e ∷ []) worker k ≡ true
entry_same es e worker k by under =
    list_any-append (λ (d : Entry). (d.receipt.worker == worker) && (d.receipt.number == k)) es (e ∷ [])
    ∙ or_right (has_entry es worker k) (((e.receipt.worker == worker) && (e.receipt.number == k)) || false)
    (or_left ((e.receipt.worker == worker) && (e.receipt.number == k)) false (and_from (e.receipt.worker == worker) (e.receipt.number == k) (eq-eqb e.receipt.worker worker by) (eq-eqb e.receipt.number k under)))

or_false : (x y : Bool) → y ≡ false → (x || (y || false)) ≡ x
or_false true y none = refl
or_false false y none = rw none refl

entry_else : (es : List Entry) (e : Entry) (worker k : ℕ) → ((e.receipt.worker == worker) && (e.receipt.number == k)) ≡ false → has_entry (es ++ e ∷ []) worker k ≡ has_entry es worker k
entry_else es e worker k none =
    list_any-append (λ (d : Entry). (d.receipt.worker == worker) && (d.receipt.number == k)) es (e ∷ [])
    ∙ or_false (has_entry es worker k) ((e.receipt.worker == worker) && (e.receipt.number == k)) none

pub entry_other : (es : List Entry) (e : Entry) (worker k : ℕ) → e.receipt.worker ≢ worker → has_entry (es ++ e ∷ []) worker k ≡ has_entry es worker k
entry_other es e worker k off = entry_else es e worker k (and_left (e.receipt.worker == worker) (e.receipt.number == k) (ne_eqb e.receipt.worker worker off))

pub entry_under : (es : List Entry) (e : Entry) (worker k : ℕ) → e.receipt.number ≢ k → has_entry (es ++ e ∷ []) worker k ≡ has_entry es worker k
entry_under es e worker k off = entry_else es e worker k (and_right (e.receipt.worker == worker) (e.receipt.number == k) (ne_eqb e.receipt.number k off))

-- A worker has no entry above the bound of its numbers.
pub no_entry : (es : List Entry) (worker low most k : ℕ) → NumbersRise low most (numbers_of_worker es worker) → most < k → has_entry es worker k ≡ false
unfolding numbers_of_worker
no_entry [] worker low most k rises over = refl
no_entry (d ∷ es) worker low most k rises over = elim (cases_Bool (d.receipt.worker == worker)) [
  | inl t ↦
      let parts : NumbersRise low most (d.receipt.number ∷ numbers_of_worker es worker) = rw t at rises in
      let apart : d.receipt.number ≢ k = λ q. omega (arith, q, parts.1, over) in
      or_from ((d.receipt.worker == worker) && (d.receipt.number == k)) (has_entry es worker k)
      (and_right (d.receipt.worker == worker) (d.receipt.number == k) (ne_eqb d.receipt.number k apart)) (no_entry es worker d.receipt.number most k parts.2 over)
  | inr f ↦
      let parts : NumbersRise low most (numbers_of_worker es worker) = rw f at rises in
      or_from ((d.receipt.worker == worker) && (d.receipt.number == k)) (has_entry es worker k)
      (and_left (d.receipt.worker == worker) (d.receipt.number == k) f) (no_entry es worker low most k parts over)
]

-- The numbers of a range that pass a test, and of a range with one more number.
filter_range : (p q : ℕ → Bool) (a n : ℕ) → ((k : ℕ) → k < a + n → p k ≡ q k) → filter p (range_with_len a n) ≡ filter q (range_with_len a n)
filter_range p q a zero same = refl
filter_range p q a (suc n) same =
    let rest : filter p (range_with_len (a + 1) n) ≡ filter q (range_with_len (a + 1) n) = filter_range p q (a + 1) n (λ k l. same k (omega (arith, l))) in
    let here : p a ≡ q a = same a (omega arith) in
    rw (here, rest) refl

filter_more : (p : ℕ → Bool) (n j : ℕ) → j ≡ n + 1 → filter p (range_with_len 1 (n + 1)) ≡ filter p (range_with_len 1 n) ++ (if p j then j ∷ [] else [])
filter_more p n j next =
    ap (filter p) (sym (map-id (range_with_len 1 (n + 1)))) ∙ filter_of_map_range_with_len_more p (λ (k : ℕ). k) 1 n j (omega (arith, next))
    ∙ ap (λ (ks : List ℕ). filter p ks ++ (if p j then j ∷ [] else [])) (map-id (range_with_len 1 n))

-- A number with an entry is not withdrawn, one without an entry is, and another worker's withdrawn numbers stay.
pub withdrawn_finished : (es : List Entry) (e : Entry) (worker done : ℕ) → e.receipt.worker ≡ worker → e.receipt.number ≡ done + 1
    → withdrawn_numbers (es ++ e ∷ []) worker (done + 1) ≡ withdrawn_numbers es worker done
withdrawn_finished es e worker done by under =
    let test : (ℕ → Bool) = λ (k : ℕ). not (has_entry (es ++ e ∷ []) worker k) in
    let has : test (done + 1) ≡ false = ap not (entry_same es e worker (done + 1) by under) in
    let more : filter test (range_with_len 1 (done + 1)) ≡ filter test (range_with_len 1 done) ++ (if test (done + 1) then (done + 1) ∷ [] else []) = filter_more test done (done + 1) refl in
    let dropped : filter test (range_with_len 1 done) ++ (if test (done + 1) then (done + 1) ∷ [] else []) ≡ filter test (range_with_len 1 done) = rw has (append-nil (filter test (range_with_len 1 done))) in
    more ∙ dropped
    ∙ filter_range test (λ (k : ℕ). not (has_entry es worker k)) 1 done
    (λ k l. ap not (entry_under es e worker k (λ q. omega (arith, q, l, under))))

pub withdrawn_more : (es : List Entry) (worker done number : ℕ) → number ≡ done + 1 → has_entry es worker number ≡ false
    → withdrawn_numbers es worker number ≡ withdrawn_numbers es worker done ++ number ∷ []
withdrawn_more es worker done number next none =
    ap (λ (n : ℕ). withdrawn_numbers es worker n) next ∙ filter_more (λ (k : ℕ). not (has_entry es worker k)) done number next ∙ (rw none refl)

pub withdrawn_other : (es : List Entry) (e : Entry) (worker done : ℕ) → e.receipt.worker ≢ worker → withdrawn_numbers (es ++ e ∷ []) worker done ≡ withdrawn_numbers es worker done
withdrawn_other es e worker done off =
    filter_agree (λ (k : ℕ). not (has_entry (es ++ e ∷ []) worker k)) (λ (k : ℕ). not (has_entry es worker k))
    (λ k. ap not (entry_other es e worker k off)) (range_with_len 1 done)

-- The number of entries of the workers below a number.
total : List Entry → ℕ → ℕ
total es zero = 0
total es (suc n) = total es n + length (numbers_of_worker es n)

total_none : (n : ℕ) → total [] n ≡ 0
unfolding total numbers_of_worker
total_none zero = refl
total_none (suc n) = omega (arith, total_none n)

numbers_hit : (e : Entry) (es : List Entry) (n : ℕ) → e.receipt.worker ≡ n → length (numbers_of_worker (e ∷ es) n) ≡ length (numbers_of_worker es n) + 1
unfolding numbers_of_worker
numbers_hit e es n by = rw (eq-eqb e.receipt.worker n by) (omega arith)

numbers_miss : (e : Entry) (es : List Entry) (n : ℕ) → e.receipt.worker ≢ n → length (numbers_of_worker (e ∷ es) n) ≡ length (numbers_of_worker es n)
unfolding numbers_of_worker
numbers_miss e es n off = rw (ne_eqb e.receipt.worker n off) refl

total_past : (e : Entry) (es : List Entry) (n : ℕ) → n ≤ e.receipt.worker → total (e ∷ es) n ≡ total es n
unfolding total
total_past e es zero past = refl
total_past e es (suc n) past = omega (arith, total_past e es n (omega (arith, past)), numbers_miss e es n (λ q. omega (arith, q, past)))

total_more : (e : Entry) (es : List Entry) (n : ℕ) → e.receipt.worker < n → total (e ∷ es) n ≡ total es n + 1
unfolding total
total_more e es zero below = absurd (omega (arith, below))
total_more e es (suc n) below = elim (cases_eq e.receipt.worker n) [
  | inl here ↦ omega (arith, numbers_hit e es n here, total_past e es n (omega (arith, here)))
  | inr off ↦ omega (arith, numbers_miss e es n off, total_more e es n (omega (arith, below, off)))
]

total_all : (s : Shape) (earlier es : List Entry) → HistoryIsLegalAfter s earlier es → length es ≡ total es s.workers
total_all s earlier [] legal = sym (total_none s.workers)
total_all s earlier (e ∷ es) legal = omega (arith, total_all s (earlier ++ e ∷ []) es legal.1, total_more e es s.workers legal.0.worker)

total_most : (es : List Entry) (most n : ℕ) → ((u : ℕ) → u < n → length (numbers_of_worker es u) ≤ most) → total es n ≤ n * most
unfolding total
total_most es most zero each = omega arith
total_most es most (suc n) each =
    let rest : total es n ≤ n * most = total_most es most n (λ u l. each u (omega (arith, l))) in
    let last : length (numbers_of_worker es n) ≤ most = each n (omega arith) in
    rw suc-mul (omega (arith, rest, last))

-- A history has at most as many entries as the workers have jobs.
pub entries_few : (s : Shape) (mem : Address → ℕ) (privs : Privates) (es : List Entry) → Invariant s mem privs es → length es ≤ s.workers * s.jobs
entries_few s mem privs es fact =
    let each : (u : ℕ) → u < s.workers → length (numbers_of_worker es u) ≤ s.jobs = λ u worker.
    let account : WorkerInvariant s (worker_words mem u) (held_levels_in s mem u) es u = fact.accounts u worker in
    omega (arith, rises_few 0 (worker_words mem u).done (numbers_of_worker es u) (omega arith) account.numbered, account.done, account.few) in
    omega (arith, total_all s [] es fact.legal, total_most es s.jobs s.workers each)

pub place_few : (es : List Entry) (lock : ℕ) → place_of es lock ≤ length es
unfolding place_of
place_few [] lock = omega arith
place_few (e ∷ es) lock = elim (cases_Bool (e.receipt.lock == lock)) [
  | inl t ↦ rw t (omega (arith, place_few es lock))
  | inr f ↦ rw f (omega (arith, place_few es lock))
]

-- So a place is far below the greatest value of a word.
pub place_small : (s : Shape) (mem : Address → ℕ) (privs : Privates) (es : List Entry) (lock : ℕ) → Invariant s mem privs es → place_of es lock ≤ 256000000
place_small s mem privs es lock fact =
    let most : s.workers * s.jobs ≤ 256 * 1000000 = mul-le-mul s.counted.limits.few_workers s.counted.limits.few_jobs in
    omega (arith, most, place_few es lock, entries_few s mem privs es fact)

pub turn_small : (s : Shape) (mem : Address → ℕ) (privs : Privates) (es : List Entry) (lock : ℕ) → Invariant s mem privs es → 2 * place_of es lock + 1 < 2 ^ 32
turn_small s mem privs es lock fact = let few = place_small s mem privs es lock fact in omega (arith, few)

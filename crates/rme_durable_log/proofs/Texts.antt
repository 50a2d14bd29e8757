-- The bytes of log entries, the pending lines, and the authors.
use Rattle.std.proofs.Common.{◌≡◌, ◌⊎◌, ℕ, ◌<◌, ◌≤◌, ◌+◌, true, false, List, [], ◌∷◌, ◌++◌, length, drop, refl, sym, ap, ◌∙◌, subst, inl, inr, arith, append_assoc, length-append}
use Rattle.std.proofs.lemmas.List.{append-nil}
use Rattle.std.proofs.Math.Seq.{drop-append_seam}
use mathlib.Core.List.{IsPrefix}
use Rattle.std.specs.Prelude.{Bool}
use Rattle.std.specs.BTreeMap.{BTreeMap}
use Rattle.logbook.specs.Pages.{Book, Named}
use Rattle.rme_durable_log.specs.declared.log_entry.LogEntry.{LogEntry}
use Rattle.rme_durable_log.specs.declared.log_entry.LogEntry.TheVariants.{Barrier, Lines, Whole}
use Rattle.rme_durable_log.specs.Logs.{KeepEarlierBytes, barrier_count, log_bytes_after, log_bytes}
use Rattle.rme_durable_log.specs.StoreCalls.{barriers_after}
use Rattle.rme_durable_log.specs.LogRules.{AppenderInvariant, AreAuthorsBelow, AreLastOfAuthors, AreLinesSince, IsBatch, entries_behind, entry_lines, log_as_taken}
use Rattle.rme_durable_log.proofs.Authors.{lasts_replaced}

-- ---- entries that are lines

pub all_lines-append : (xs ys : List LogEntry) → KeepEarlierBytes xs → KeepEarlierBytes ys → KeepEarlierBytes (xs ++ ys)
all_lines-append [] ys all more = more
all_lines-append (Lines a l ∷ xs) ys all more = all_lines-append xs ys all more
all_lines-append (Whole b ∷ xs) ys all more = absurd all
all_lines-append (Barrier ∷ xs) ys all more = all_lines-append xs ys all more

all_lines-rest : (x : LogEntry) (xs : List LogEntry) → KeepEarlierBytes (x ∷ xs) → KeepEarlierBytes xs
all_lines-rest (Lines a l) xs all = all
all_lines-rest (Whole b) xs all = absurd all
all_lines-rest Barrier xs all = all

pub entry_lines-append : (xs ys : List LogEntry) → entry_lines (xs ++ ys) ≡ entry_lines xs ++ entry_lines ys
entry_lines-append [] ys = refl
entry_lines-append (Lines a l ∷ xs) ys = ap (λ w. l ++ w) (entry_lines-append xs ys) ∙ sym (append_assoc l (entry_lines xs) (entry_lines ys))
entry_lines-append (Whole b ∷ xs) ys = entry_lines-append xs ys
entry_lines-append (Barrier ∷ xs) ys = entry_lines-append xs ys

-- ---- barriers

pub barrier_count-append : (xs ys : List LogEntry) → barrier_count (xs ++ ys) ≡ barrier_count xs + barrier_count ys
barrier_count-append [] ys = omega arith
barrier_count-append (Lines a l ∷ xs) ys = barrier_count-append xs ys
barrier_count-append (Whole b ∷ xs) ys = barrier_count-append xs ys
barrier_count-append (Barrier ∷ xs) ys = omega (arith, barrier_count-append xs ys)

-- An entry that is no barrier adds none.
pub barrier_count-line : (log : List LogEntry) (author : ℕ) (lines : List ℕ) → barrier_count (log ++ Lines author lines ∷ []) ≡ barrier_count log
barrier_count-line log author lines = omega (arith, barrier_count-append log (Lines author lines ∷ []))

pub barrier_count-whole : (log : List LogEntry) (bytes : List ℕ) → barrier_count (log ++ Whole bytes ∷ []) ≡ barrier_count log
barrier_count-whole log bytes = omega (arith, barrier_count-append log (Whole bytes ∷ []))

pub barrier_count-taken : (shared : Bool) (log : List LogEntry) → barrier_count (log_as_taken shared log) ≡ barriers_after shared (barrier_count log)
barrier_count-taken true log = omega (arith, barrier_count-append log (Barrier ∷ []))
barrier_count-taken false log = refl

-- ---- bytes

pub bytes_after-append : (before : List ℕ) (xs ys : List LogEntry) → log_bytes_after before (xs ++ ys) ≡ log_bytes_after (log_bytes_after before xs) ys
bytes_after-append before [] ys = refl
bytes_after-append before (Lines a l ∷ xs) ys = bytes_after-append (before ++ l) xs ys
bytes_after-append before (Whole b ∷ xs) ys = bytes_after-append b xs ys
bytes_after-append before (Barrier ∷ xs) ys = bytes_after-append before xs ys

bytes_after-lines : (before : List ℕ) (entries : List LogEntry) → KeepEarlierBytes entries → log_bytes_after before entries ≡ before ++ entry_lines entries
bytes_after-lines before [] all = sym (append-nil before)
bytes_after-lines before (Lines a l ∷ entries) all = bytes_after-lines (before ++ l) entries all ∙ append_assoc before l (entry_lines entries)
bytes_after-lines before (Whole b ∷ entries) all = absurd all
bytes_after-lines before (Barrier ∷ entries) all = bytes_after-lines before entries all

pub bytes_of-more : (log entries : List LogEntry) → KeepEarlierBytes entries → log_bytes (log ++ entries) ≡ log_bytes log ++ entry_lines entries
bytes_of-more log entries all = bytes_after-append [] log entries ∙ bytes_after-lines (log_bytes log) entries all

pub bytes_of-whole : (log : List LogEntry) (bytes : List ℕ) → log_bytes (log ++ Whole bytes ∷ []) ≡ bytes
bytes_of-whole log bytes = bytes_after-append [] log (Whole bytes ∷ [])

-- ---- authors

pub authors-append : (authors : ℕ) (xs ys : List LogEntry) → AreAuthorsBelow authors xs → AreAuthorsBelow authors ys → AreAuthorsBelow authors (xs ++ ys)
authors-append authors [] ys by more = more
authors-append authors (x ∷ xs) ys by more = (by.0, authors-append authors xs ys by.1 more)

pub authors-more : (authors more : ℕ) (log : List LogEntry) → authors ≤ more → AreAuthorsBelow authors log → AreAuthorsBelow more log
authors-more authors more [] le by = tt
authors-more authors more (Lines a l ∷ log) le by = (omega (arith, by.0, le), authors-more authors more log le by.1)
authors-more authors more (Whole b ∷ log) le by = (tt, authors-more authors more log le by.1)
authors-more authors more (Barrier ∷ log) le by = (tt, authors-more authors more log le by.1)

-- ---- the pending lines

waits_as : (taken log entries : List LogEntry) → log ≡ taken ++ entries → entry_lines (entries_behind taken log) ≡ entry_lines entries
waits_as taken log entries is = ap (λ l. entry_lines (drop (length taken) l)) is ∙ ap entry_lines (drop-append_seam taken entries)

module _ (book : Book) (head : Named) (taken log after : List LogEntry) (authors author : ℕ) (lasts : BTreeMap ℕ ℕ) (lines : List ℕ) (is : AppenderInvariant book head taken log authors lasts) (more : after ≡ log ++ Lines author lines ∷ []) where
  since_more : after ≡ taken ++ (is.since.entries ++ Lines author lines ∷ [])
  since_more = more ∙ (ap (λ l. l ++ Lines author lines ∷ []) is.since.told ∙ append_assoc taken is.since.entries (Lines author lines ∷ []))

  pub appender_appends : (now : BTreeMap ℕ ℕ) → author < authors → AreLastOfAuthors authors after now → AppenderInvariant book head taken after authors now
  appender_appends now less lasts_are =
      record {
        head_is = is.head_is;
        some = is.some;
        since = record {
          entries = is.since.entries ++ Lines author lines ∷ [];
          all = all_lines-append is.since.entries (Lines author lines ∷ []) is.since.all tt;
          told = since_more;
          come = waits_as taken after (is.since.entries ++ Lines author lines ∷ []) since_more;
        };
        barriers = ap barrier_count more ∙ (barrier_count-line log author lines ∙ is.barriers);
        by = subst (λ (l : List LogEntry). AreAuthorsBelow authors l) (sym more) (authors-append authors log (Lines author lines ∷ []) is.by (less, tt));
        lasts_are = lasts_are;
      }

  pub waits_more : entry_lines (entries_behind taken after) ≡ entry_lines (entries_behind taken log) ++ lines
  waits_more =
      let last : lines ++ [] ≡ lines = append-nil lines in
      waits_as taken after (is.since.entries ++ Lines author lines ∷ []) since_more ∙ (entry_lines-append is.since.entries (Lines author lines ∷ []) ∙ (ap (λ w. entry_lines is.since.entries ++ w) last ∙ ap (λ w. w ++ lines) (sym is.since.come)))

pub appender_authors : (book : Book) (head : Named) (taken log : List LogEntry) (authors more : ℕ) (lasts now : BTreeMap ℕ ℕ) → AppenderInvariant book head taken log authors lasts → authors ≤ more → AreLastOfAuthors more log now → AppenderInvariant book head taken log more now
appender_authors book head taken log authors more lasts now is le lasts_are = record { head_is = is.head_is; some = is.some; since = is.since; barriers = is.barriers; by = authors-more authors more log le is.by; lasts_are = lasts_are }

-- all entries are taken once other bytes replaced them
pub appender_replaces : (book : Book) (head : Named) (taken log one two : List LogEntry) (authors : ℕ) (lasts : BTreeMap ℕ ℕ) (bytes : List ℕ) → AppenderInvariant book head taken log authors lasts → one ≡ log ++ Whole bytes ∷ [] → two ≡ one → AppenderInvariant book head one two authors lasts
appender_replaces book head taken log one two authors lasts bytes is whole same =
    let told : two ≡ one ++ [] = same ∙ sym (append-nil one) in
    record {
      head_is = is.head_is;
      some = omega (arith, ap length whole, length-append log (Whole bytes ∷ []));
      since = record { entries = []; all = tt; told = told; come = waits_as one two [] told };
      barriers = ap barrier_count same;
      by = subst (λ (l : List LogEntry). AreAuthorsBelow authors l) (sym (same ∙ whole)) (authors-append authors log (Whole bytes ∷ []) is.by (tt, tt));
      lasts_are = subst (λ (l : List LogEntry). AreLastOfAuthors authors l lasts) (sym (same ∙ whole)) (lasts_replaced authors log (Whole bytes ∷ []) lasts is.lasts_are (λ _. (tt, tt)));
    }

-- all entries are taken, with a barrier behind them if the store is shared
taken_authors : (shared : Bool) (authors : ℕ) (log : List LogEntry) → AreAuthorsBelow authors log → AreAuthorsBelow authors (log_as_taken shared log)
taken_authors true authors log by = authors-append authors log (Barrier ∷ []) by (tt, tt)
taken_authors false authors log by = by

taken_lasts : (shared : Bool) (authors : ℕ) (log : List LogEntry) (lasts : BTreeMap ℕ ℕ) → AreLastOfAuthors authors log lasts → AreLastOfAuthors authors (log_as_taken shared log) lasts
taken_lasts true authors log lasts are = lasts_replaced authors log (Barrier ∷ []) lasts are (λ _. (tt, tt))
taken_lasts false authors log lasts are = are

taken_some : (shared : Bool) (log : List LogEntry) → 0 < length log → 0 < length (log_as_taken shared log)
taken_some true log some = omega (arith, length-append log (Barrier ∷ []))
taken_some false log some = some

pub appender_takes : (shared : Bool) (book : Book) (head : Named) (taken log one two : List LogEntry) (authors : ℕ) (lasts : BTreeMap ℕ ℕ) → AppenderInvariant book head taken log authors lasts → 0 < length log → one ≡ log_as_taken shared log → two ≡ log_as_taken shared log → AppenderInvariant book head one two authors lasts
appender_takes shared book head taken log one two authors lasts is some first second =
    let same : two ≡ one = second ∙ sym first in
    let told : two ≡ one ++ [] = same ∙ sym (append-nil one) in
    record {
      head_is = is.head_is;
      some = subst (λ (l : List LogEntry). 0 < length l) (sym first) (taken_some shared log some);
      since = record { entries = []; all = tt; told = told; come = waits_as one two [] told };
      barriers = ap barrier_count same;
      by = subst (λ (l : List LogEntry). AreAuthorsBelow authors l) (sym second) (taken_authors shared authors log is.by);
      lasts_are = subst (λ (l : List LogEntry). AreLastOfAuthors authors l lasts) (sym second) (taken_lasts shared authors log lasts is.lasts_are);
    }

-- The entries since the last batch are a batch, with that barrier.
taken_since : (shared : Bool) (from log after : List LogEntry) (lines : List ℕ) → AreLinesSince from log lines → after ≡ log_as_taken shared log → AreLinesSince from after lines
taken_since true from log after lines since is =
    record {
      entries = since.entries ++ Barrier ∷ [];
      all = all_lines-append since.entries (Barrier ∷ []) since.all tt;
      told = is ∙ (ap (λ l. l ++ Barrier ∷ []) since.told ∙ append_assoc from since.entries (Barrier ∷ []));
      come = since.come ∙ (sym (append-nil (entry_lines since.entries)) ∙ sym (entry_lines-append since.entries (Barrier ∷ [])));
    }
taken_since false from log after lines since is = subst (λ l. AreLinesSince from l lines) (sym is) since

pub batch_taken : (shared : Bool) (from log after : List LogEntry) (lines : List ℕ) → AreLinesSince from log lines → barrier_count log ≡ barrier_count from → after ≡ log_as_taken shared log → IsBatch shared from after lines
batch_taken shared from log after lines since none is =
    record {
      since = taken_since shared from log after lines since is;
      barriers = ap barrier_count is ∙ (barrier_count-taken shared log ∙ ap (barriers_after shared) none);
    }

-- ---- prefixes

-- a prefix of lines, and the rest of them
rest_lines : (p entries : List LogEntry) → KeepEarlierBytes entries → (pre : IsPrefix p entries) → KeepEarlierBytes pre.0
rest_lines [] entries all pre = subst KeepEarlierBytes (sym pre.1) all
rest_lines (x ∷ p) [] all pre = absurd (cc (pre.1))
rest_lines (x ∷ p) (e ∷ entries) all pre = rest_lines p entries (all_lines-rest e entries all) (pre.0, cc (pre.1))

-- a prefix of a log with lines after it is a prefix of the log, or has some of the lines
pub prefix_split : (p log entries : List LogEntry) → KeepEarlierBytes entries → IsPrefix p (log ++ entries) → IsPrefix p log ⊎ ((later : List LogEntry) × KeepEarlierBytes later × (p ++ later ≡ log ++ entries))
prefix_split [] log entries all pre = inl (log, refl)
prefix_split (x ∷ p) [] entries all pre = inr (pre.0, rest_lines (x ∷ p) entries all pre, pre.1)
prefix_split (x ∷ p) (y ∷ log) entries all pre = elim (prefix_split p log entries all (pre.0, cc (pre.1))) [
  | inl q ↦ inl (q.0, cc (pre.1, q.1))
  | inr q ↦ inr (q.0, q.1, cc (pre.1, q.2))
]

-- a prefix of a log with one more entry is a prefix of the log, or the whole
pub prefix_last : (p log : List LogEntry) (last : LogEntry) → IsPrefix p (log ++ last ∷ []) → IsPrefix p log ⊎ (p ≡ log ++ last ∷ [])
prefix_last [] log last pre = inl (log, refl)
prefix_last (x ∷ []) [] last pre = inr (cc (pre.1))
prefix_last (x ∷ y ∷ p) [] last pre = absurd (cc (pre.1))
prefix_last (x ∷ p) (y ∷ log) last pre = elim (prefix_last p log last (pre.0, cc (pre.1))) [
  | inl q ↦ inl (q.0, cc (pre.1, q.1))
  | inr q ↦ inr (cc (pre.1, q))
]

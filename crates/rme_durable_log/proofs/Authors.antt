-- The entries that are not by an author, and the last entries of the authors that may append.
use Rattle.std.proofs.Common.{◌≡◌, ◌≢◌, ℕ, zero, suc, ◌<◌, ◌≤◌, true, false, List, [], ◌∷◌, ◌++◌, length, drop, sym, subst, inl, inr, arith}
use Rattle.std.specs.Prelude.{IfSome, Option, Some, None, Bool, cond}
use Rattle.std.specs.BTreeMap.{BTreeMap, IsUnchanged, Updates, get, is_at}
use Rattle.std.specs.Map.{lookup}
use Rattle.std.specs.Ordering.{nat_cmp}
use Rattle.std.proofs.lemmas.Bool.{cases_eq}
use Rattle.std.proofs.lemmas.List.{append-nil}
use Rattle.std.proofs.lemmas.Bool.Decides.{nat_tests}
use mathlib.Core.List.{IsPrefix}
use Rattle.rme_durable_log.specs.declared.log_entry.LogEntry.{LogEntry}
use Rattle.rme_durable_log.specs.declared.log_entry.LogEntry.TheVariants.{Barrier, Lines, Whole}
use Rattle.rme_durable_log.specs.Logs.{AreNotByAuthor, GrowsByOthers}
use Rattle.rme_durable_log.specs.LogRules.{AreAuthorsBelow, AreLastOfAuthors, IsLastEntryOf}

-- ---- entries that are not by an author

not_by-append : (author : ℕ) (xs ys : List LogEntry) → AreNotByAuthor author xs → AreNotByAuthor author ys → AreNotByAuthor author (xs ++ ys)
not_by-append author [] ys one two = two
not_by-append author (x ∷ xs) ys one two = (one.0, not_by-append author xs ys one.1 two)

not_by-drop : (author n : ℕ) (xs : List LogEntry) → AreNotByAuthor author xs → AreNotByAuthor author (drop n xs)
not_by-drop author zero xs others = others
not_by-drop author (suc n) [] others = tt
not_by-drop author (suc n) (x ∷ xs) others = not_by-drop author n xs others.1

not_by-drop_append : (author n : ℕ) (xs ys : List LogEntry) → AreNotByAuthor author (drop n xs) → AreNotByAuthor author ys → AreNotByAuthor author (drop n (xs ++ ys))
not_by-drop_append author zero xs ys one two = not_by-append author xs ys one two
not_by-drop_append author (suc n) [] ys one two = not_by-drop author (suc n) ys two
not_by-drop_append author (suc n) (x ∷ xs) ys one two = not_by-drop_append author n xs ys one two

-- the entries after a prefix that is long enough
not_by-rest : (author n : ℕ) (xs ys : List LogEntry) → n ≤ length xs → AreNotByAuthor author (drop n (xs ++ ys)) → AreNotByAuthor author ys
not_by-rest author zero [] ys le others = others
not_by-rest author zero (x ∷ xs) ys le others = not_by-rest author zero xs ys (omega arith) others.1
not_by-rest author (suc n) [] ys le others = absurd (omega (arith, le))
not_by-rest author (suc n) (x ∷ xs) ys le others = not_by-rest author n xs ys (omega (arith, le)) others

-- nothing comes after the whole
not_by-none : (author n : ℕ) (xs : List LogEntry) → length xs ≤ n → AreNotByAuthor author (drop n xs)
not_by-none author zero [] le = tt
not_by-none author zero (x ∷ xs) le = absurd (omega (arith, le))
not_by-none author (suc n) [] le = tt
not_by-none author (suc n) (x ∷ xs) le = not_by-none author n xs (omega (arith, le))

pub below_not_by : (authors author : ℕ) (log : List LogEntry) → authors ≤ author → AreAuthorsBelow authors log → AreNotByAuthor author log
below_not_by authors author [] le by = tt
below_not_by authors author (Lines it lines ∷ log) le by = (λ (same : it ≡ author). omega (arith, by.0, le, same), below_not_by authors author log le by.1)
below_not_by authors author (Whole bytes ∷ log) le by = (tt, below_not_by authors author log le by.1)
below_not_by authors author (Barrier ∷ log) le by = (tt, below_not_by authors author log le by.1)

-- ---- the last entries

apart_keys : (key other : ℕ) → other ≢ key → is_at (nat_cmp key) other ≡ false
apart_keys key other apart = grind (arith, nat_tests, apart)

-- Further entries by others, and further authors.
last_more : (authors more author last : ℕ) (log ys : List LogEntry) → authors ≤ more → AreNotByAuthor author ys → IsLastEntryOf authors log author last → IsLastEntryOf more (log ++ ys) author last
last_more authors more author last log ys le others is = record { below = omega (arith, le, is.below); others = not_by-drop_append author (suc last) log ys is.others others }

some_last_more : (authors more author : ℕ) (found : Option ℕ) (log ys : List LogEntry) → authors ≤ more → AreNotByAuthor author ys → IfSome found (IsLastEntryOf authors log author) → IfSome found (IsLastEntryOf more (log ++ ys) author)
some_last_more authors more author None log ys le others is = tt
some_last_more authors more author (Some last) log ys le others is = last_more authors more author last log ys le others is

-- The author has its last entry here now, and the others as before.
module _ (authors more : ℕ) (log ys : List LogEntry) (old new : BTreeMap ℕ ℕ) (key last : ℕ) (are : AreLastOfAuthors authors log old) (le : authors ≤ more) (updates : Updates nat_cmp old new key (Some last)) where
  lasts_set : IsLastEntryOf more (log ++ ys) key last → ((author : ℕ) → author ≢ key → AreNotByAuthor author ys) → AreLastOfAuthors more (log ++ ys) new
  lasts_set its others author = elim (cases_eq author key) [
    | inl same ↦ subst (λ (a : ℕ). IfSome (get nat_cmp new a) (IsLastEntryOf more (log ++ ys) a)) (sym same) (subst (λ (found : Option ℕ). IfSome found (IsLastEntryOf more (log ++ ys) key)) (sym updates.1) its)
    | inr apart ↦ subst (λ (found : Option ℕ). IfSome found (IsLastEntryOf more (log ++ ys) author)) (sym (updates.2 author (apart_keys key author apart))) (some_last_more authors more author (get nat_cmp old author) log ys le (others author apart) (are author))
  ]

-- Further entries by no author.
pub lasts_replaced : (authors : ℕ) (log ys : List LogEntry) (lasts : BTreeMap ℕ ℕ) → AreLastOfAuthors authors log lasts → ((author : ℕ) → AreNotByAuthor author ys) → AreLastOfAuthors authors (log ++ ys) lasts
lasts_replaced authors log ys lasts are others author = some_last_more authors authors author (get nat_cmp lasts author) log ys (omega arith) (others author) (are author)

-- The author has appended this entry.
pub lasts_appended : (authors : ℕ) (log : List LogEntry) (old new : BTreeMap ℕ ℕ) (author last : ℕ) (lines : List ℕ) → AreLastOfAuthors authors log old → author < authors → Updates nat_cmp old new author (Some last) → length (log ++ Lines author lines ∷ []) ≡ suc last
    → AreLastOfAuthors authors (log ++ Lines author lines ∷ []) new
lasts_appended authors log old new author last lines are below updates counted =
    lasts_set authors authors log (Lines author lines ∷ []) old new author last are (omega arith) updates
    record { below = below; others = not_by-none author (suc last) (log ++ Lines author lines ∷ []) (omega (arith, counted)) }
    (λ (other : ℕ) (apart : other ≢ author). (λ (same : author ≡ other). apart (sym same), tt))

-- A new author.
pub lasts_begun : (authors more : ℕ) (log : List LogEntry) (old new : BTreeMap ℕ ℕ) → AreLastOfAuthors authors log old → AreAuthorsBelow authors log → authors < more → Updates nat_cmp old new authors (Some 0) → AreLastOfAuthors more log new
lasts_begun authors more log old new are by less updates =
    subst (λ (l : List LogEntry). AreLastOfAuthors more l new) (append-nil log)
    (lasts_set authors more log [] old new authors 0 are (omega (arith, less)) updates record { below = less; others = subst (λ (l : List LogEntry). AreNotByAuthor authors (drop 1 l)) (sym (append-nil log)) (not_by-drop authors 1 log (below_not_by authors authors log (omega arith) by)) } (λ _ _. tt))

-- An author that has ended.
some_last_less : (authors author : ℕ) (log : List LogEntry) (old new : Option ℕ) (ended : Bool) → new ≡ cond ended None old → IfSome old (IsLastEntryOf authors log author) → IfSome new (IsLastEntryOf authors log author)
some_last_less authors author log old new true is one = subst (λ (found : Option ℕ). IfSome found (IsLastEntryOf authors log author)) (sym is) tt
some_last_less authors author log old new false is one = subst (λ (found : Option ℕ). IfSome found (IsLastEntryOf authors log author)) (sym is) one

pub lasts_ended : (authors : ℕ) (log : List LogEntry) (old new : BTreeMap ℕ ℕ) (key : ℕ) → AreLastOfAuthors authors log old → Updates nat_cmp old new key None → AreLastOfAuthors authors log new
lasts_ended authors log old new key are updates author = some_last_less authors author log (get nat_cmp old author) (get nat_cmp new author) (is_at (nat_cmp key) author) (updates.0 author) (are author)

-- Nothing changes where memory was refused.
pub lasts_unchanged : (authors : ℕ) (log : List LogEntry) (old new : BTreeMap ℕ ℕ) → AreLastOfAuthors authors log old → IsUnchanged old new → AreLastOfAuthors authors log new
lasts_unchanged authors log old new are same author = subst (λ (es : List (ℕ × ℕ)). IfSome (lookup (is_at (nat_cmp author)) es) (IsLastEntryOf authors log author)) (sym same) (are author)

-- Since a position before which the author has its last entry, only others have appended.
pub grows_by_others : (authors : ℕ) (log earlier : List LogEntry) (lasts : BTreeMap ℕ ℕ) (author last count : ℕ) → AreLastOfAuthors authors log lasts → get nat_cmp lasts author ≡ Some last → last ≤ count → length earlier ≡ suc count → IsPrefix earlier log → GrowsByOthers author earlier log
grows_by_others authors log earlier lasts author last count are found le counted within =
    let its : IsLastEntryOf authors log author last = subst (λ (o : Option ℕ). IfSome o (IsLastEntryOf authors log author)) found (are author) in
    let others : AreNotByAuthor author (drop (suc last) (earlier ++ within.0)) = subst (λ (l : List LogEntry). AreNotByAuthor author (drop (suc last) l)) (sym within.1) its.others in
    record { between = within.0; grows = sym within.1; others = not_by-rest author (suc last) earlier within.0 (omega (arith, le, counted)) others }

pub author_below : (authors : ℕ) (log : List LogEntry) (lasts : BTreeMap ℕ ℕ) (author last : ℕ) → AreLastOfAuthors authors log lasts → get nat_cmp lasts author ≡ Some last → author < authors
author_below authors log lasts author last are found = let its : IsLastEntryOf authors log author last = subst (λ (o : Option ℕ). IfSome o (IsLastEntryOf authors log author)) found (are author) in its.below

-- Counts that rise, made one by one.
use Rattle.std.proofs.Common.{◌≡◌, ◌+◌, ◌-◌, ◌<◌, ◌≤◌, ◌^◌, ℕ, List, [], ◌∷◌, ◌++◌, length, get_or, arith, subst, sym, ap, ◌∙◌, refl, lit<}
use Rattle.std.proofs.lemmas.List.{get_or_push, length_push}
use Rattle.std.proofs.lemmas.List.Sorted.{IsNonDecreasingBy-push, IsNonDecreasingBy-short}
use Rattle.std.specs.List.Sorted.{IsNonDecreasingBy}
use Rattle.rme_metrics.specs.Histograms.{bucket_count}
use Rattle.rme_metrics.specs.declared.label.LabelledCount.{LabelledCount}

-- there are this many, they rise, and the last is this count
pub record RisesTo (buckets : List LabelledCount) (places count : ℕ) : Type 0 where
  pub long : length buckets ≡ places
  pub small : count < 2 ^ 64
  pub rising : IsNonDecreasingBy bucket_count buckets
  pub last : (d : LabelledCount) → 0 < places → bucket_count (get_or buckets (places - 1) d) ≡ count

-- one more, that is not below the last
pub rises_more : (buckets : List LabelledCount) (places count : ℕ) (next : LabelledCount) → RisesTo buckets places count
    → count ≤ next.count → next.count < 2 ^ 64 → RisesTo (buckets ++ next ∷ []) (places + 1) next.count
rises_more buckets places count next so_far more small =
    let long = so_far.long in
    let above = λ (d : LabelledCount) (some : 0 < length buckets).
    let P : ℕ → Type 0 = λ n. bucket_count (get_or buckets (n - 1) d) ≤ next.count in
    let Q : ℕ → Type 0 = λ n. n ≤ next.count in
    subst P (sym long) (subst Q (sym (so_far.last d (omega arith))) more) in
    record {
      small = small;
      long = length_push buckets next ∙ ap (λ n. n + 1) long;
      rising = IsNonDecreasingBy-push bucket_count buckets next so_far.rising above;
      last = λ d some. ap bucket_count (get_or_push buckets next d ((places + 1) - 1) (omega arith));
    }

-- none
pub rises_none : RisesTo [] 0 0
rises_none = record {
  small = lit< tt;
  long = refl;
  rising = IsNonDecreasingBy-short bucket_count [] (omega arith);
  last = λ d some. absurd (omega arith);
}

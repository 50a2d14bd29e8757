-- Workers in the places in which sessions left them.
use Rattle.std.proofs.Common.{◌≡◌, ℕ, ◌<◌, ◌+◌, List, length, ap, sym, ◌∙◌, subst, inl, inr, arith}
use Rattle.std.specs.Prelude.{Option, Some, None, slice_get}
use Rattle.std.proofs.lemmas.Bool.{cases_eq}
use Rattle.std.proofs.lemmas.Option.{same_Some, slice_get_within}
use Rattle.rme_world.specs.WorldViews.{WorldView}
use Rattle.rme_session_world.specs.ExecutorStates.{IsWorkerInPlace, ExecutorInvariant}

-- The workers so far are in place.
abbrev pub AreInPlace : WorldView → List (Option ℕ) → ℕ → Type 0
AreInPlace seen holders count = (worker : ℕ) (holder : Option ℕ) → worker < count → slice_get holders worker ≡ Some holder → IsWorkerInPlace seen worker holder

pub one_more : (seen : WorldView) (holders : List (Option ℕ)) (count : ℕ) (its : Option ℕ) → AreInPlace seen holders count → slice_get holders count ≡ Some its → IsWorkerInPlace seen count its → AreInPlace seen holders (count + 1)
one_more seen holders count its so_far found stands worker holder less at = elim (cases_eq worker count) [
  | inl same ↦
      (let here : Some its ≡ Some holder = sym found ∙ ap (slice_get holders) (sym same) ∙ at in
      let P : ℕ → Type 0 = λ w. IsWorkerInPlace seen w holder in
      subst P (sym same) (subst (IsWorkerInPlace seen count) (same_Some its holder here) stands))
  | inr apart ↦ so_far worker holder (omega (arith, less, apart)) at
]

pub all_tended : (seen : WorldView) (holders : List (Option ℕ)) → length holders ≡ seen.shape.workers → AreInPlace seen holders seen.shape.workers → ExecutorInvariant record { world = seen; holders = holders }
all_tended seen holders long all = record {
  all = long;
  held = λ worker session found. (let within = slice_get_within holders worker (Some session) found in all worker (Some session) (omega (arith, within, long)) found);
  free = λ worker found. (let within = slice_get_within holders worker None found in all worker None (omega (arith, within, long)) found);
}

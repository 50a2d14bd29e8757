-- The numbers of a file's locks and workers, in order.
use Rattle.std.proofs.Common.{◌≡◌, ℕ, ◌+◌, ◌<◌, ◌≤◌, [], ◌∷◌, drop, ◌∙◌, ap, arith}
use Rattle.std.specs.List.{range_with_len}
use Rattle.std.proofs.lemmas.List.{drop_all, drop_more}
use Rattle.std.proofs.lemmas.List.FromFn.{length-range_with_len, get_or-range_with_len}

-- One more number from 0 on is done.
pub next_of : (n i : ℕ) → i < n → drop i (range_with_len 0 n) ≡ i ∷ drop (i + 1) (range_with_len 0 n)
next_of n i less =
    drop_more (range_with_len 0 n) i 0 (omega (arith, less, length-range_with_len 0 n))
    ∙ ap (λ (k : ℕ). k ∷ drop (i + 1) (range_with_len 0 n)) (get_or-range_with_len 0 n i 0 less ∙ omega arith)

pub none_left : (n i : ℕ) → n ≤ i → drop i (range_with_len 0 n) ≡ []
none_left n i past = drop_all i (range_with_len 0 n) (omega (arith, past, length-range_with_len 0 n))

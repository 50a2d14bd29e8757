-- The loop of `check`: the check of the remaining operations is that of all operations.
use Rattle.std.proofs.Common.{◌≡◌, ℕ, ◌+◌, ◌≤◌, Bool, true, false, ◌&&◌, nat_lt, Some, List, [], ◌∷◌, drop, slice_get, refl, Err, sym, ap, ◌∙◌}
use Rattle.std.specs.List.{All, list_all}
use Rattle.std.proofs.lemmas.Bool.{and_parts, ltb-true, le-ltb}
use Rattle.std.proofs.lemmas.List.Elements.{All-nil, All-cons}
use Rattle.rme_script.specs.declared.op.Op.{Op}
use Rattle.rme_script.specs.declared.op.Op.TheVariants.{Get, Set, Add, Copy, Swap}
use Rattle.rme_words.specs.declared.refusal.Refusal.TheVariants.{NoCell}
use Rattle.rme_script.specs.Programs.{Program}
use Rattle.rme_script.specs.Scripts.{OpIsWithin, op_is_within, script_check}
use Rattle.rme_script.proofs.Lists.{drop_at}

module _ (cells i : ℕ) (ops : List Op) (o : Op) (here : slice_get ops i ≡ Some o) where
  pub check_next : op_is_within cells o ≡ true → list_all (op_is_within cells) (drop i ops) ≡ list_all (op_is_within cells) ops → list_all (op_is_within cells) (drop (i + 1) ops) ≡ list_all (op_is_within cells) ops
  check_next good so_far =
      let split : list_all (op_is_within cells) (drop i ops) ≡ (op_is_within cells o && list_all (op_is_within cells) (drop (i + 1) ops)) = ap (λ (xs : List Op). list_all (op_is_within cells) xs) (drop_at ops i o here) in
      let shorter : (op_is_within cells o && list_all (op_is_within cells) (drop (i + 1) ops)) ≡ list_all (op_is_within cells) (drop (i + 1) ops) = ap (λ (b : Bool). b && list_all (op_is_within cells) (drop (i + 1) ops)) good in
      sym (split ∙ shorter) ∙ so_far

  pub check_bad : op_is_within cells o ≡ false → list_all (op_is_within cells) (drop i ops) ≡ list_all (op_is_within cells) ops → list_all (op_is_within cells) ops ≡ false
  check_bad bad so_far =
      sym so_far
      ∙ ap (λ (xs : List Op). list_all (op_is_within cells) xs) (drop_at ops i o here)
      ∙ ap (λ (b : Bool). b && list_all (op_is_within cells) (drop (i + 1) ops)) bad

fits_within : (cells : ℕ) (o : Op) → op_is_within cells o ≡ true → OpIsWithin cells o
fits_within cells (Get c) t = ltb-true c cells t
fits_within cells (Set c v) t = ltb-true c cells t
fits_within cells (Add c v) t = ltb-true c cells t
fits_within cells (Copy a b) t = let both = and_parts (nat_lt a cells) (nat_lt b cells) t in (ltb-true a cells both.0, ltb-true b cells both.1)
fits_within cells (Swap a b) t = let both = and_parts (nat_lt a cells) (nat_lt b cells) t in (ltb-true a cells both.0, ltb-true b cells both.1)

pub all_within : (cells : ℕ) (ops : List Op) → list_all (op_is_within cells) ops ≡ true → All (OpIsWithin cells) ops
all_within cells [] t = All-nil (OpIsWithin cells)
all_within cells (o ∷ os) t =
    let both = and_parts (op_is_within cells o) (list_all (op_is_within cells) os) t in
    All-cons (OpIsWithin cells) o os (fits_within cells o both.0) (all_within cells os both.1)

-- The answers of `check`.
module _ (cells : ℕ) (p : Program) (few : p.n ≤ 8) where
  pub check_no_cell : list_all (op_is_within cells) p.ops ≡ false → Err NoCell ≡ script_check cells p
  check_no_cell bad = let short : nat_lt 8 p.n ≡ false = le-ltb 8 p.n few in rw (short, bad) refl

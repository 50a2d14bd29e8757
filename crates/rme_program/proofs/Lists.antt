-- The places of a row's actions: lists concatenated from pieces, made from the numbers below a bound, and made from the
-- cells of a mask.
use Rattle.std.proofs.Common.{◌≡◌, ℕ, zero, suc, ◌+◌, ◌*◌, ◌<◌, true, List, [], ◌∷◌, ◌++◌, length, map, refl, ap, ◌∙◌, zero-add, arith}
use Rattle.std.specs.Prelude.{Some}
use Rattle.std.specs.List.{flat_map, slice_get}
use Rattle.std.specs.Option.{option_map}
use Rattle.std.proofs.lemmas.Option.{none-some, slice_get-map, slice_get-get_or}
use Rattle.std.proofs.lemmas.List.FromFn.{length-map-range_with_len, get_or-map-range_with_len}
use Rattle.std.proofs.lemmas.List.{length-map}
use Rattle.rme_script.specs.Cells.{mask_has_cell, mask_cells, mask_cells_from}
use Rattle.rme_script.proofs.Rising.{cells_named_split, cells_from_hit}
use Rattle.rme_program.specs.declared.action.Action.{Action}
use Rattle.rme_program.specs.Phases.{mask_cells_below}
use Rattle.rme_program.specs.Table.{actions_for_each}

pub at_left : (xs ys : List Action) (k : ℕ) (x : Action) → slice_get xs k ≡ Some x → slice_get (xs ++ ys) k ≡ Some x
at_left [] ys k x h = absurd (none-some x h)
at_left (z ∷ zs) ys zero x h = h
at_left (z ∷ zs) ys (suc k) x h = at_left zs ys k x h

at_after : (xs ys : List Action) (k : ℕ) → slice_get (xs ++ ys) (length xs + k) ≡ slice_get ys k
at_after [] ys k = ap (slice_get ys) (zero-add k)
at_after (z ∷ zs) ys k =
    let e : length (z ∷ zs) + k ≡ suc (length zs + k) = omega arith in
    ap (slice_get (z ∷ (zs ++ ys))) e ∙ at_after zs ys k

pub at_right : (xs ys : List Action) (k j : ℕ) (x : Action) → slice_get ys k ≡ Some x → j ≡ length xs + k → slice_get (xs ++ ys) j ≡ Some x
at_right xs ys k j x h e = ap (slice_get (xs ++ ys)) e ∙ at_after xs ys k ∙ h

pub at_each : (n : ℕ) (f : ℕ → Action) (i : ℕ) → i < n → slice_get (actions_for_each n f) i ≡ Some (f i)
at_each n f i l =
    slice_get-get_or (actions_for_each n f) i (f i) (omega (arith, l, length-map-range_with_len f 0 n))
    ∙ ap (λ (a : Action). Some a) (get_or-map-range_with_len f 0 n i i (f i) l (zero-add i))

pub length_each : (n : ℕ) (f : ℕ → Action) → length (actions_for_each n f) ≡ n
length_each n f = length-map-range_with_len f 0 n

-- ---- the cells of a mask

in_middle : (xs : List ℕ) (c : ℕ) (ys : List ℕ) → slice_get (xs ++ c ∷ ys) (length xs) ≡ Some c
in_middle [] c ys = refl
in_middle (x ∷ xs) c ys = in_middle xs c ys

-- A cell of a mask comes after the cells below it.
at_cell : (mask cells c : ℕ) → c < cells → mask_has_cell mask c ≡ true → slice_get (mask_cells mask cells) (mask_cells_below mask c) ≡ Some c
at_cell mask cells c l t =
    let e : mask_cells mask cells ≡ mask_cells mask c ++ c ∷ mask_cells_from mask (c + 1) cells = cells_named_split mask c cells (omega (arith, l)) ∙ ap (λ (xs : List ℕ). mask_cells mask c ++ xs) (cells_from_hit mask c cells l t) in
    ap (λ (xs : List ℕ). slice_get xs (mask_cells_below mask c)) e ∙ in_middle (mask_cells mask c) c (mask_cells_from mask (c + 1) cells)

pub at_named : (f : ℕ → Action) (mask cells c : ℕ) → c < cells → mask_has_cell mask c ≡ true → slice_get (map f (mask_cells mask cells)) (mask_cells_below mask c) ≡ Some (f c)
at_named f mask cells c l t = slice_get-map f (mask_cells mask cells) (mask_cells_below mask c) ∙ ap (option_map f) (at_cell mask cells c l t)

pub length_named : (f : ℕ → Action) (mask cells : ℕ) → length (map f (mask_cells mask cells)) ≡ mask_cells_below mask cells
length_named f mask cells = length-map (mask_cells mask cells) f

-- Two actions for each of them.
abbrev pub pairs : (ℕ → Action) → (ℕ → Action) → List ℕ → List Action
pairs f g xs = flat_map (λ c. f c ∷ g c ∷ []) xs

at_first : (f g : ℕ → Action) (xs : List ℕ) (k c : ℕ) → slice_get xs k ≡ Some c → slice_get (pairs f g xs) (2 * k) ≡ Some (f c)
at_first f g [] k c h = absurd (none-some c h)
at_first f g (x ∷ xs) zero c h = ap (option_map f) h
at_first f g (x ∷ xs) (suc k) c h =
    let e : 2 * suc k ≡ suc (suc (2 * k)) = omega arith in ap (slice_get (pairs f g (x ∷ xs))) e ∙ at_first f g xs k c h

at_second : (f g : ℕ → Action) (xs : List ℕ) (k c : ℕ) → slice_get xs k ≡ Some c → slice_get (pairs f g xs) (2 * k + 1) ≡ Some (g c)
at_second f g [] k c h = absurd (none-some c h)
at_second f g (x ∷ xs) zero c h = ap (option_map g) h
at_second f g (x ∷ xs) (suc k) c h =
    let e : 2 * suc k + 1 ≡ suc (suc (2 * k + 1)) = omega arith in ap (slice_get (pairs f g (x ∷ xs))) e ∙ at_second f g xs k c h

pub at_load : (f g : ℕ → Action) (mask cells c : ℕ) → c < cells → mask_has_cell mask c ≡ true → slice_get (pairs f g (mask_cells mask cells)) (2 * mask_cells_below mask c) ≡ Some (f c)
at_load f g mask cells c l t = at_first f g (mask_cells mask cells) (mask_cells_below mask c) c (at_cell mask cells c l t)

pub at_store : (f g : ℕ → Action) (mask cells c : ℕ) → c < cells → mask_has_cell mask c ≡ true → slice_get (pairs f g (mask_cells mask cells)) (2 * mask_cells_below mask c + 1) ≡ Some (g c)
at_store f g mask cells c l t = at_second f g (mask_cells mask cells) (mask_cells_below mask c) c (at_cell mask cells c l t)

pub length_pairs : (f g : ℕ → Action) (xs : List ℕ) → length (pairs f g xs) ≡ 2 * length xs
length_pairs f g [] = refl
length_pairs f g (x ∷ xs) = omega (arith, length_pairs f g xs)

-- Spaces with possible names and sizes.
use Rattle.std.proofs.Common.{◌≡◌, ℕ, ◌≤◌, List, [], length, true, ◌&&◌, nat_le, arith}
use Rattle.std.proofs.lemmas.Bool.{and_parts, leb-true}
use Rattle.rme_wire.proofs.OpeningLemmas.{are_few}
use Rattle.rme_wire.specs.Openings.{are_lock_names, are_new_names}
use Rattle.rme_space_orders.specs.NewSpaces.{IsPossibleSpace, are_possible_sizes}

some_named : (locks : List (List ℕ)) → are_lock_names locks ≡ true → 1 ≤ length locks
unfolding are_lock_names
some_named locks named =
    let parts = and_parts (nat_le 1 (length locks) && nat_le (length locks) 16) (are_new_names [] locks) named in
    leb-true _ _ (and_parts (nat_le 1 (length locks)) (nat_le (length locks) 16) parts.0).0

-- A shape can have them.
pub is_possible_space : (locks : List (List ℕ)) (workers cells : ℕ) → are_lock_names locks ≡ true
    → are_possible_sizes workers cells ≡ true
    → IsPossibleSpace locks workers cells
is_possible_space locks workers cells named sized =
    let parts = and_parts (nat_le 1 workers && nat_le workers 255 && nat_le 1 cells) (nat_le cells 16) sized in
    let first = and_parts (nat_le 1 workers && nat_le workers 255) (nat_le 1 cells) parts.0 in
    let both = and_parts (nat_le 1 workers) (nat_le workers 255) first.0 in
    let some_worker : 1 ≤ workers = leb-true _ _ both.0 in
    let few_workers : workers ≤ 255 = leb-true _ _ both.1 in
    record {
      named = named;
      some_worker = some_worker;
      within = record {
        some_worker = omega arith;
        few_workers = omega (arith, few_workers);
        some_lock = some_named locks named;
        few_locks = (are_few locks named).0;
        some_cell = leb-true _ _ first.1;
        few_cells = leb-true _ _ parts.1;
        some_job = omega arith;
        few_jobs = omega arith;
      };
    }

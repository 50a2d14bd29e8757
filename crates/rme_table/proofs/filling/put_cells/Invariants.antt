use Rattle.std.specs.Prelude.{◌≡◌, ℕ, map, vec_capacity}
use Rattle.std.specs.List.{range_with_len}
use Rattle.rme_words.specs.Words.{memory_of}
use Rattle.rme_words.specs.declared.address.Address.TheVariants.{Cell}
use Rattle.rme_table.proofs.filling.put_cells.Given as goal

abbrev pub invariant-loop-cell : goal.invariant-loop-cell
invariant-loop-cell l = (l.cells.items ≡ map (λ (c : ℕ). memory_of l.bank (Cell l.lock c)) (range_with_len 0 l.cell)) × (vec_capacity l.cells ≡ vec_capacity l.initial.cells)

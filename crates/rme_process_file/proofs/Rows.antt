-- The cells of a lock, in order.
use Rattle.std.proofs.Common.{◌≡◌, ℕ, ◌+◌, ◌<◌, ◌≤◌, List, length, take, sym, ◌∙◌, ap, subst, arith}
use Rattle.std.specs.Prelude.{slice_set}
use Rattle.std.proofs.lemmas.List.{length-set}
use Rattle.rme_words.specs.declared.address.Address.TheVariants.{Cell}
use Rattle.rme_core_image_check.proofs.Filling.{filled_next, filled_whole}
use Rattle.rme_process_file.specs.ProcessFiles.{ProcessFileView, file_memory}
use Rattle.rme_process_file.specs.FileContents.{cells_in}

pub row_next : (file : ProcessFileView) (lock cell x cells : ℕ) (row new : List ℕ) → cells ≡ file.shape.cells → length row ≡ cells → cell < cells → x ≡ file_memory file (Cell lock cell)
    → new ≡ slice_set row cell x → take cell row ≡ take cell (cells_in file lock) → (length new ≡ cells) × (take (cell + 1) new ≡ take (cell + 1) (cells_in file lock))
row_next file lock cell x cells row new all long within is put same = (
  ap (λ (xs : List ℕ). length xs) put ∙ length-set row cell x ∙ long,
  subst (λ (xs : List ℕ). take (cell + 1) xs ≡ take (cell + 1) (cells_in file lock)) (sym put)
      (filled_next (λ (c : ℕ). file_memory file (Cell lock c)) file.shape.cells row cell x (long ∙ all) (omega (arith, within, all)) is same),
)

pub row_whole : (file : ProcessFileView) (lock cell cells : ℕ) (row : List ℕ) → cells ≡ file.shape.cells → length row ≡ cells → cells ≤ cell → cell ≤ cells
    → take cell row ≡ take cell (cells_in file lock) → row ≡ cells_in file lock
row_whole file lock cell cells row all long low high same =
    let here : cell ≡ file.shape.cells = omega (arith, low, high, all) in
    let P : ℕ → Type 0 = λ (n : ℕ). take n row ≡ take n (cells_in file lock) in
    filled_whole (λ (c : ℕ). file_memory file (Cell lock c)) file.shape.cells row (long ∙ all) (subst P here same)

-- One more row of a table, and one more cell of a row.
use Rattle.std.proofs.Common.{◌≡◌, ℕ, ◌+◌, ◌<◌, ◌≤◌, max, List, [], ◌∷◌, ◌++◌, codes, get_or, length, take, drop, string_bytes, String, refl, sym, ap, ◌∙◌, append_assoc, append-nil, arith}
use Rattle.std.specs.Prelude.{Vec}
use Rattle.std.specs.List.{flat_map}
use Rattle.std.specs.declared.alloc.Global.{Global}
use Rattle.std.proofs.lemmas.List.{map_more, flat_map_more, drop_more, drop_all, length-map, length-drop}
use Rattle.std.proofs.lemmas.List.Sums.{fold-append}
use Rattle.rme_cli_ask.specs.Tables.{cell_width, cells_view, padded_text, table_row_text, row_view, rows_view, wider, width_of}

-- the width of one more row
pub width_more : (rows : List (Vec (String Global) Global)) (i : ℕ) (row : Vec (String Global) Global) (column : ℕ) → i < length rows → row ≡ get_or rows i row
    → width_of (rows_view (take (i + 1) rows)) column ≡ max (width_of (rows_view (take i rows)) column) (cell_width column (row_view row))
width_more rows i row column inside at =
    rw (map_more row_view rows i row inside, ← at) (fold-append (wider column) 0 (rows_view (take i rows)) (row_view row ∷ []))

-- the texts of one more row
pub rows_more : (f : List (List ℕ) → List ℕ) (o p q : List ℕ) (rows : List (Vec (String Global) Global)) (i : ℕ) (row : Vec (String Global) Global)
    → i < length rows → row ≡ get_or rows i row → p ≡ o ++ flat_map f (rows_view (take i rows)) → q ≡ p ++ f (row_view row)
    → q ≡ o ++ flat_map f (rows_view (take (i + 1) rows))
rows_more f o p q rows i row inside at so_far put =
    rw (map_more row_view rows i row inside, ← at, put, so_far) (flat_map_more f o (rows_view (take i rows)) (row_view row))

-- a cell that another one follows
row_head : (rows : List (List (List ℕ))) (column : ℕ) (cell : List ℕ) (rest : List (List ℕ)) → 0 < length rest
    → table_row_text rows column (cell ∷ rest) ≡ padded_text (width_of rows column) cell ++ (codes "  " ++ table_row_text rows (column + 1) rest)
row_head rows column cell [] more = absurd (omega (arith, more))
row_head rows column cell (next ∷ rest) more = refl

-- the last cell
row_last : (rows : List (List (List ℕ))) (column : ℕ) (cell : List ℕ) (rest : List (List ℕ)) → length rest ≤ 0
    → table_row_text rows column (cell ∷ rest) ≡ cell ++ table_row_text rows (column + 1) rest
row_last rows column cell [] none = sym (append-nil cell)
row_last rows column cell (next ∷ rest) none = absurd (omega (arith, none))

-- what completes a row from a cell completes it from the next one, once the cell was put
pub cell_more : (rows : List (List (List ℕ))) (cells : List (String Global)) (column : ℕ) (cell : String Global) (o p q : List ℕ)
    → column + 1 < length cells → cell ≡ get_or cells column cell
    → p ++ table_row_text rows column (cells_view (drop column cells)) ≡ o
    → q ≡ (p ++ padded_text (width_of rows column) (string_bytes cell)) ++ codes "  "
    → q ++ table_row_text rows (column + 1) (cells_view (drop (column + 1) cells)) ≡ o
cell_more rows cells column cell o p q more at so_far put =
    let rest : List (List ℕ) = cells_view (drop (column + 1) cells) in
    let some : 0 < length rest =
    rw (length-map (drop (column + 1) cells) string_bytes, length-drop (column + 1) cells) (omega (arith, more)) in
    let split : drop column cells ≡ cell ∷ drop (column + 1) cells = rw (drop_more cells column cell (omega (arith, more)), ← at) refl in
    let line : table_row_text rows column (cells_view (drop column cells))
    ≡ padded_text (width_of rows column) (string_bytes cell) ++ (codes "  " ++ table_row_text rows (column + 1) rest) =
    rw split (row_head rows column (string_bytes cell) rest some) in
    rw put (append_assoc (p ++ padded_text (width_of rows column) (string_bytes cell)) (codes "  ") (table_row_text rows (column + 1) rest)
    ∙ append_assoc p (padded_text (width_of rows column) (string_bytes cell)) (codes "  " ++ table_row_text rows (column + 1) rest)
    ∙ ap (λ (line : List ℕ). p ++ line) (sym line) ∙ so_far)

pub cell_last : (rows : List (List (List ℕ))) (cells : List (String Global)) (column : ℕ) (cell : String Global) (o p q : List ℕ)
    → column < length cells → length cells ≤ column + 1 → cell ≡ get_or cells column cell
    → p ++ table_row_text rows column (cells_view (drop column cells)) ≡ o
    → q ≡ p ++ string_bytes cell
    → q ++ table_row_text rows (column + 1) (cells_view (drop (column + 1) cells)) ≡ o
cell_last rows cells column cell o p q inside none at so_far put =
    let rest : List (List ℕ) = cells_view (drop (column + 1) cells) in
    let empty : length rest ≤ 0 =
    rw (length-map (drop (column + 1) cells) string_bytes, length-drop (column + 1) cells) (omega (arith, none)) in
    let split : drop column cells ≡ cell ∷ drop (column + 1) cells = rw (drop_more cells column cell inside, ← at) refl in
    let line : table_row_text rows column (cells_view (drop column cells)) ≡ string_bytes cell ++ table_row_text rows (column + 1) rest =
    rw split (row_last rows column (string_bytes cell) rest empty) in
    rw put (append_assoc p (string_bytes cell) (table_row_text rows (column + 1) rest) ∙ ap (λ (line : List ℕ). p ++ line) (sym line) ∙ so_far)

-- a row of which no cell is left is whole
pub no_cell : (rows : List (List (List ℕ))) (cells : List (String Global)) (column : ℕ) (o p : List ℕ) → length cells ≤ column
    → p ++ table_row_text rows column (cells_view (drop column cells)) ≡ o → p ≡ o
no_cell rows cells column o p all so_far =
    let none : drop column cells ≡ [] = drop_all column cells all in
    sym (append-nil p) ∙ (rw none at so_far)

-- Aligned tables: rows of cells, each of them a text.
use Rattle.std.specs.Prelude.{ℕ, ◌+◌, ◌-◌, max, List, [], ◌∷◌, ◌++◌, codes, length, map, option_map, replicate, slice_get, string_bytes, String, Vec, unwrap_or}
use Rattle.std.specs.List.{flat_map, fold}
use Rattle.std.specs.declared.alloc.Global.{Global}
use denote.Ref.{Bor}

-- the texts of cells, of a row, of rows
abbrev pub cells_view : List (String Global) → List (List ℕ)
cells_view cells = map string_bytes cells

abbrev pub row_view : Vec (String Global) Global → List (List ℕ)
row_view row = cells_view row.items

abbrev pub rows_view : List (Vec (String Global) Global) → List (List (List ℕ))
rows_view rows = map row_view rows

-- ---- the rows of lists

-- the texts of titles
abbrev pub titles_view : List (Bor (List ℕ)) → List (List ℕ)
titles_view titles = map (λ title. title.now) titles

-- a row for each item, the first of which has this number
abbrev pub numbered_rows : {T : Type 0} → (ℕ → T → List (List ℕ)) → ℕ → List T → List (List (List ℕ))
numbered_rows cells_of number [] = []
numbered_rows cells_of number (item ∷ items) = cells_of number item ∷ numbered_rows cells_of (number + 1) items

-- a lock, and what is told of it under this title
abbrev pub lock_table : List ℕ → List ℕ → List ℕ → List (List (List ℕ))
lock_table lock title cell = (codes "LOCK" ∷ title ∷ []) ∷ (lock ∷ cell ∷ []) ∷ []

-- ---- their layout

-- the width of the cell of a column; 0 in a shorter row
abbrev pub cell_width : ℕ → List (List ℕ) → ℕ
cell_width column row = unwrap_or (option_map length (slice_get row column)) 0

-- the greater of a width and of that of a row's cell
abbrev pub wider : ℕ → ℕ → List (List ℕ) → ℕ
wider column width row = max width (cell_width column row)

-- the width of the widest cell of a column
abbrev pub width_of : List (List (List ℕ)) → ℕ → ℕ
width_of rows column = fold (wider column) 0 rows

-- a text, and spaces up to this width
abbrev pub padded_text : ℕ → List ℕ → List ℕ
padded_text width text = text ++ replicate (width - length text) 32

-- The cells of a row from this column on: each is as wide as its column, and two spaces follow; the last is as it is.
abbrev pub table_row_text : List (List (List ℕ)) → ℕ → List (List ℕ) → List ℕ
table_row_text rows column [] = []
table_row_text rows column (cell ∷ []) = cell
table_row_text rows column (cell ∷ next ∷ cells) =
    padded_text (width_of rows column) cell ++ (codes "  " ++ table_row_text rows (column + 1) (next ∷ cells))

abbrev pub row_line : List (List (List ℕ)) → List (List ℕ) → List ℕ
row_line rows row = table_row_text rows 0 row ++ codes "\n"

-- a line for each row
abbrev pub table_text : List (List (List ℕ)) → List ℕ
table_text rows = flat_map (row_line rows) rows

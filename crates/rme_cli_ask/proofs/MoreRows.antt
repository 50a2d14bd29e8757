-- One more row of the tables of locks and workers.
use Rattle.std.proofs.Common.{append_assoc, codes, ◌≡◌, ℕ, suc, ◌+◌, ◌<◌, List, [], ◌∷◌, ◌++◌, get_or, length, take, String, refl, ap, arith, add-zero}
use Rattle.std.specs.Prelude.{Vec}
use Rattle.std.specs.List.{flat_map}
use Rattle.std.specs.declared.alloc.Global.{Global}
use Rattle.std.proofs.lemmas.List.{take_more, map-append, flat_map_more, length-take-le}
use Rattle.rme_cli_ask.specs.Tables.{numbered_rows, row_view, rows_view, table_text}

-- one more number, with its comma
pub items_more : {A : Type 0} (f : A → List ℕ) (o p q : List ℕ) (items : List A) (i : ℕ) (item : A) → i < length items → item ≡ get_or items i item
    → p ≡ o ++ flat_map f (take i items) → q ≡ p ++ f item → q ≡ o ++ flat_map f (take (i + 1) items)
items_more f o p q items i item inside at so_far put =
    rw (take_more items i item inside, ← at, put, so_far) (flat_map_more f o (take i items) item)

numbered_snoc : {T : Type 0} (cells_of : ℕ → T → List (List ℕ)) (number : ℕ) (items : List T) (item : T)
    → numbered_rows cells_of number (items ++ item ∷ []) ≡ numbered_rows cells_of number items ++ cells_of (number + length items) item ∷ []
numbered_snoc cells_of number [] item = rw (add-zero number) refl
numbered_snoc cells_of number (first ∷ items) item =
    let place : (number + 1) + length items ≡ number + suc (length items) = omega arith in
    ap (λ (rows : List (List (List ℕ))). cells_of number first ∷ rows) (rw (← place) (numbered_snoc cells_of (number + 1) items item))

-- the row of one more item
pub numbered_more : {T : Type 0} (cells_of : ℕ → T → List (List ℕ)) (header : List (List ℕ)) (rows : List (Vec (String Global) Global)) (row : Vec (String Global) Global)
    (items : List T) (i : ℕ) (item : T) → i < length items → item ≡ get_or items i item
    → rows_view rows ≡ header ∷ numbered_rows cells_of 0 (take i items) → row_view row ≡ cells_of i item
    → rows_view (rows ++ row ∷ []) ≡ header ∷ numbered_rows cells_of 0 (take (i + 1) items)
numbered_more cells_of header rows row items i item inside at so_far is =
    let place : 0 + length (take i items) ≡ i = rw (length-take-le i items (omega (arith, inside))) (omega arith) in
    let more : numbered_rows cells_of 0 (take i items ++ item ∷ []) ≡ numbered_rows cells_of 0 (take i items) ++ cells_of i item ∷ [] =
    rw place at (numbered_snoc cells_of 0 (take i items) item) in
    rw (map-append row_view rows (row ∷ []), so_far, is, take_more items i item inside, ← at, more) refl

-- two tables, with an empty line between
pub two_tables : (first second locks workers : List (List (List ℕ))) (start one line both : List ℕ) → locks ≡ first → workers ≡ second
    → start ≡ [] → one ≡ start ++ table_text locks → line ≡ one ++ codes "\n" → both ≡ line ++ table_text workers
    → both ≡ table_text first ++ (codes "\n" ++ table_text second)
two_tables first second locks workers start one line both is_first is_second none one_is line_is both_is =
    rw (both_is, line_is, one_is, none, is_first, is_second) (append_assoc (table_text first) (codes "\n") (table_text second))

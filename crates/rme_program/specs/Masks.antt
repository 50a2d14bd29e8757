-- The mask of the cells that a script names, as a number, and the next cell of a mask.
use Rattle.std.specs.Prelude.{ℕ, ◌^◌, List, [], ◌∷◌, Option, Some, None, bit_or}
use Rattle.rme_script.specs.declared.op.Op.{Op}
use Rattle.rme_script.specs.declared.op.Op.TheVariants.{Get, Set, Add, Copy, Swap}
use Rattle.rme_script.specs.Cells.{mask_cells_from}

-- The bits of the cells that one operation names.
abbrev pub bits_named : Op → ℕ
bits_named (Get c) = 2 ^ c
bits_named (Set c v) = 2 ^ c
bits_named (Add c v) = 2 ^ c
bits_named (Copy a b) = bit_or (2 ^ a) (2 ^ b)
bits_named (Swap a b) = bit_or (2 ^ a) (2 ^ b)

-- The mask of a script: bit c is set if and only if the script names cell c.
unfoldable pub mask_of : List Op → ℕ
mask_of [] = 0
mask_of (o ∷ os) = bit_or (bits_named o) (mask_of os)

abbrev pub list_head : List ℕ → Option ℕ
list_head [] = None
list_head (c ∷ cs) = Some c

-- The first cell of a mask that is at or after `from` and below `cells`, if there is one.
unfoldable pub first_cell : ℕ → ℕ → ℕ → Option ℕ
first_cell mask from cells = list_head (mask_cells_from mask from cells)

-- The positions of a shape's words in a service's table: in the order of their numbers, block after block. Each
-- worker's words are a block; of each lock, the nodes are one block, and its other words the next. Seven unused words
-- are before each block and after the last. So a cache line, which has eight words, has no words of two blocks.
use Rattle.std.specs.Prelude.{ℕ, ◌+◌, ◌-◌, ◌*◌, ◌/◌, ◌%◌, ◌<◌, ◌≤◌, nat_lt, if◌then◌else◌, List, map, slice_index}
use Rattle.std.specs.List.{range_with_len}
use Rattle.rme_words.specs.declared.shape.Shape.{Shape}
use Rattle.rme_words.specs.declared.address.Address.{Address}
use Rattle.rme_words.specs.Words.{word_number, word_count, lock_block}

-- The first half of a lock's words are its nodes.
unfoldable pub half_of_lock : Shape → ℕ → ℕ
half_of_lock shape offset = if nat_lt offset (shape.leaves - 1) then 0 else 1

-- The block of the word with this number: the workers' blocks come first, then two for each lock.
unfoldable pub block_of_word : Shape → ℕ → ℕ
block_of_word shape number =
    if nat_lt number (31 * shape.workers) then number / 31
    else shape.workers + (2 * ((number - 31 * shape.workers) / lock_block shape) + half_of_lock shape
    ((number - 31 * shape.workers) % lock_block shape))

-- The position of the word with this number, and of that at an address.
unfoldable pub position_of_word : Shape → ℕ → ℕ
position_of_word shape number = number + 7 * (1 + block_of_word shape number)

abbrev pub position_of_address : Shape → Address → ℕ
position_of_address shape address = position_of_word shape (word_number shape address)

-- The number of words in the table.
abbrev pub table_size : Shape → ℕ
table_size shape = word_count shape + 7 * (1 + (shape.workers + 2 * shape.locks))

-- The law of the gaps: between two words of different blocks are seven others.
abbrev pub CacheLinePaddingLaw : Type 0
CacheLinePaddingLaw =
    (shape : Shape) (i j : ℕ) → block_of_word shape i < block_of_word shape j
    → position_of_word shape i + 8 ≤ position_of_word shape j

-- The first `count` words of a table, and all, in the order of their numbers.
abbrev pub first_table_words : Shape → List ℕ → ℕ → List ℕ
first_table_words shape words count =
    map (λ (number : ℕ). slice_index words (position_of_word shape number)) (range_with_len 0 count)

abbrev pub words_of_table : Shape → List ℕ → List ℕ
words_of_table shape words = first_table_words shape words (word_count shape)

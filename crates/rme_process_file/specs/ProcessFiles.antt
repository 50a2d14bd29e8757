-- The bytes of a file of words that processes map: the page before the words, and the words.
use Rattle.std.specs.Prelude.{◌≡◌, ℕ, zero, suc, ◌+◌, ◌*◌, ◌≤◌, Bool, true, ◌==◌, ◌&&◌, ◌||◌, List, [], ◌∷◌, ◌++◌, length, take, drop, slice_range, map, position, unwrap_or, codes, Option, Some, None, if◌then◌else◌}
use Rattle.std.specs.List.{list_all, range_with_len}
use Rattle.std.specs.Int.{w64, from_le_bytes}
use Rattle.rme_words.specs.declared.shape.Shape.{Shape}
use Rattle.rme_words.specs.declared.address.Address.{Address}
use Rattle.rme_words.specs.Words.{word_count, read_word_at}
use Rattle.rme_script.specs.Cells.{bit_of}
use Rattle.rme_line_io.specs.Names.{may_add_name}

-- The contents of a file: its shape, the names of its locks, whether it was renewed by a checkpoint, the boot of the
-- machine on which it was made, and its words.
pub record ProcessFileView : Type 0 where
  pub shape : Shape
  pub names : List (List ℕ)
  pub moved : Bool
  pub boot : List ℕ
  pub words : List ℕ

-- The words, as a function of the address.
abbrev pub file_memory : ProcessFileView → Address → ℕ
file_memory file = read_word_at file.shape file.words

-- The little-endian number in the eight bytes from byte 8 i on.
unfoldable pub file_u64_at : List ℕ → ℕ → ℕ
file_u64_at bytes i = from_le_bytes w64 (take 8 (drop (8 * i) bytes))

-- Whether all of these bytes are 0.
abbrev pub are_zero : List ℕ → Bool
are_zero bytes = list_all (λ (byte : ℕ). byte == 0) bytes

-- The 32 bytes for the name of a lock, and the text in them: the bytes before the first 0.
abbrev pub name_field_of : List ℕ → ℕ → List ℕ
name_field_of bytes lock = slice_range bytes (112 + 32 * lock) (112 + 32 * lock + 32)

abbrev pub name_field_length : List ℕ → ℕ
name_field_length field = unwrap_or (position (λ (byte : ℕ). byte == 0) field) (length field)

abbrev pub name_field_text : List ℕ → List ℕ
name_field_text field = take (name_field_length field) field

-- Only zeros follow the text.
abbrev pub is_zero_padded : List ℕ → Bool
is_zero_padded field = are_zero (drop (name_field_length field) field)

-- The names with that of a field, if it is padded and the name may be added.
abbrev pub with_name_field : List (List ℕ) → List ℕ → Option (List (List ℕ))
with_name_field names field =
    if is_zero_padded field && may_add_name names (name_field_text field) then Some
    (names ++ name_field_text field ∷ []) else None

-- The names with those of a number of fields, from that of a lock on, added in order.
abbrev pub names_if_some : (List (List ℕ) → Option (List (List ℕ))) → Option (List (List ℕ)) → Option (List (List ℕ))
names_if_some more None = None
names_if_some more (Some names) = more names

abbrev pub with_name_fields : List ℕ → ℕ → ℕ → List (List ℕ) → Option (List (List ℕ))
with_name_fields bytes zero lock names = Some names
with_name_fields bytes (suc count) lock names =
    names_if_some (with_name_fields bytes count (lock + 1)) (with_name_field names (name_field_of bytes lock))

-- The version of a file: 2 if its page has the lives of its workers, 1 if it has none.
abbrev pub is_file_version : ℕ → Bool
is_file_version version = version == 1 || version == 2

-- The lives of the workers, how often each was restarted: the numbers from byte 2048 on, one for each worker.
abbrev pub life_count : ℕ → ℕ → ℕ
life_count version workers = if version == 2 then workers else 0

-- The page is 0 between the names of a number of locks and the lives, and after a number of lives.
abbrev pub is_zero_around_lives : List ℕ → ℕ → ℕ → Bool
is_zero_around_lives bytes locks lives =
    are_zero (slice_range bytes (112 + 32 * locks) 2048) && are_zero (slice_range bytes (2048 + 8 * lives) 4096)

-- The sizes in the page are those of a shape.
pub record PageHasSizes (bytes : List ℕ) (shape : Shape) : Type 0 where
  pub workers : file_u64_at bytes 8 ≡ shape.workers
  pub locks : file_u64_at bytes 9 ≡ shape.locks
  pub cells : file_u64_at bytes 10 ≡ shape.cells
  pub jobs : file_u64_at bytes 11 ≡ shape.jobs

-- The page of 4096 bytes before the words: it begins with "rmewords", has a version and little-endian numbers, the
-- sizes of a shape, the number of its words and whether the file was renewed, and zeros after the names of the locks,
-- but for the lives of the workers; and that number of words follows it.
pub record IsPage (bytes : List ℕ) (shape : Shape) : Type 0 where
  pub magic : take 8 bytes ≡ codes "rmewords"
  pub version : is_file_version (file_u64_at bytes 1) ≡ true
  pub order : file_u64_at bytes 2 ≡ 0x0102030405060708
  pub sizes : PageHasSizes bytes shape
  pub counted : file_u64_at bytes 12 ≡ word_count shape
  pub size : length bytes ≡ 4096 + 8 * word_count shape
  pub rest : is_zero_around_lives bytes shape.locks (life_count (file_u64_at bytes 1) shape.workers) ≡ true
  pub mark : file_u64_at bytes 13 ≤ 1

-- THE BYTES ARE THIS FILE: a valid page with a name for each lock, followed by the words, each in eight bytes.
pub record IsFile (bytes : List ℕ) (file : ProcessFileView) : Type 0 where
  pub page : IsPage bytes file.shape
  pub boot : file.boot ≡ take 40 (drop 24 bytes)
  pub moved : file_u64_at bytes 13 ≡ bit_of file.moved
  pub names : with_name_fields bytes file.shape.locks 0 [] ≡ Some file.names
  pub words : file.words ≡ map (λ (i : ℕ). file_u64_at bytes (512 + i)) (range_with_len 0 (word_count file.shape))

-- `image`: the bytes of a saved world, in version 2 and in the older version 1. All numbers are big-endian.
use Rattle.std.specs.Prelude.{◌≡◌, ◌⊎◌, ℕ, suc, ◌-◌, ◌%◌, ◌^◌, ◌<◌, ◌≤◌, Bool, ◌&&◌, ◌==◌, List, [], ◌∷◌, ◌++◌, length, if◌then◌else◌}
use Rattle.std.specs.List.{All, flat_map, list_any, range_with_len}
use Rattle.std.specs.Int.{w8, w16, w32, w64, to_be_bytes}
use Rattle.rme_words.specs.declared.shape.Shape.{Shape}
use Rattle.rme_words.specs.declared.address.Address.TheVariants.{Turn, Mask}
use Rattle.rme_words.specs.Words.{word_count, word_number, read_word_at}
use Rattle.rme_script.specs.declared.op.Op.{Op}
use Rattle.rme_script.specs.declared.op.Op.TheVariants.{Get, Set, Add, Copy, Swap}
use Rattle.rme_script.specs.Slates.{op_words}
use Rattle.rme_script.specs.Programs.{Program}
use Rattle.rme_script.specs.Scripts.{IsScript}
use Rattle.rme_program.specs.declared.note.Receipt.{Receipt}
use Rattle.rme_program.specs.declared.note.Entry.{Entry}
use Rattle.rme_core_image.specs.declared.header.ImageHeader.{ImageHeader}

-- ---- the header

-- 52 4d 45 49 ("RMEI"), the version and the sizes.
abbrev pub header_bytes : ImageHeader → List ℕ
header_bytes header =
    to_be_bytes w32 0x524d4549
    ++ to_be_bytes w8 header.version
    ++ to_be_bytes w16 header.workers
    ++ to_be_bytes w8 header.locks
    ++ to_be_bytes w8 header.cells
    ++ to_be_bytes w32 header.jobs

-- The header of an image with this shape.
abbrev pub image_header : ℕ → Shape → ImageHeader
image_header version shape =
    record { version = version; workers = shape.workers; locks = shape.locks; cells = shape.cells; jobs = shape.jobs }

-- The versions that are parsed. The older one has at most 64 workers.
abbrev pub IsImageVersion : ℕ → Shape → Type 0
IsImageVersion version shape = (version ≡ 2) ⊎ ((version ≡ 1) × (shape.workers ≤ 64))

-- ---- the words: eight bytes each, in order of their numbers

-- The word with this number is the `Mask` of some lock.
unfoldable pub is_mask_word : Shape → ℕ → Bool
is_mask_word shape i = list_any (λ (lock : ℕ). word_number shape (Mask lock) == i) (range_with_len 0 shape.locks)

-- The words that an image of this version leaves out: in version 1, the masks.
unfoldable pub version_omits_word : ℕ → Shape → ℕ → Bool
version_omits_word version shape i = (version == 1) && is_mask_word shape i

-- The bytes of the words from number i on, without those that are left out.
abbrev pub words_bytes : (ℕ → Bool) → ℕ → List ℕ → List ℕ
words_bytes left_out i [] = []
words_bytes left_out i (w ∷ ws) = (if left_out i then [] else to_be_bytes w64 w) ++ words_bytes left_out (suc i) ws

-- ---- the entries

-- An operation: a byte for its kind, a byte for its first word, eight bytes for its second.
abbrev pub triple_bytes : List ℕ → List ℕ
triple_bytes (kind ∷ first ∷ second ∷ words) = to_be_bytes w8 kind ++ to_be_bytes w8 first ++ to_be_bytes w64 second
triple_bytes words = []

-- The bytes of an operation's three words.
abbrev pub op_bytes : Op → List ℕ
op_bytes op = triple_bytes (op_words op)

-- The script of some operations.
abbrev pub script_of_ops : List Op → Program
script_of_ops ops = record { n = length ops; ops = ops }

-- A script: the number of its operations, and the operations.
abbrev pub script_bytes : Program → List ℕ
script_bytes script = to_be_bytes w8 script.n ++ flat_map op_bytes script.ops

-- A receipt: its worker, number, lock, place and reply.
abbrev pub receipt_bytes : Receipt → List ℕ
receipt_bytes receipt =
    to_be_bytes w16 receipt.worker
    ++ to_be_bytes w32 receipt.number
    ++ to_be_bytes w8 receipt.lock
    ++ to_be_bytes w32 receipt.place
    ++ to_be_bytes w64 receipt.reply

-- An entry: its receipt, then its script.
abbrev pub entry_bytes : Entry → List ℕ
entry_bytes entry = receipt_bytes entry.receipt ++ script_bytes entry.script

-- The number of entries, and the entries in order.
abbrev pub entries_bytes : List Entry → List ℕ
entries_bytes entries = to_be_bytes w32 (length entries) ++ flat_map entry_bytes entries

-- ---- the whole image

-- `image`: the bytes of these words and entries in a version.
abbrev pub image_of : ℕ → Shape → List ℕ → List Entry → List ℕ
image_of version shape words entries =
    header_bytes (image_header version shape) ++ words_bytes (version_omits_word version shape) 0 words ++ entries_bytes
    entries

-- ---- the numbers that fit their bytes

-- The first word of an operation fits one byte and its second eight; a cell number is below 2^32.
abbrev pub IsSmallOp : Op → Type 0
IsSmallOp (Get c) = c < 256
IsSmallOp (Set c v) = (c < 256) × (v < 2 ^ 64)
IsSmallOp (Add c v) = (c < 256) × (v < 2 ^ 64)
IsSmallOp (Copy a b) = (a < 256) × (b < 2 ^ 32)
IsSmallOp (Swap a b) = (a < 256) × (b < 2 ^ 32)

-- At most eight operations, each of which fits its bytes.
pub record IsSmallScript (script : Program) : Type 0 where
  pub few : script.n ≤ 8
  pub counted : length script.ops ≡ script.n
  pub ops : All IsSmallOp script.ops

-- Each number fits the bytes that `receipt_bytes` gives it.
pub record IsSmallReceipt (receipt : Receipt) : Type 0 where
  pub worker : receipt.worker < 2 ^ 16
  pub number : receipt.number < 2 ^ 32
  pub lock : receipt.lock < 2 ^ 8
  pub place : receipt.place < 2 ^ 32
  pub reply : receipt.reply < 2 ^ 64

-- Each part of an entry fits its bytes.
pub record IsSmallEntry (entry : Entry) : Type 0 where
  pub receipt : IsSmallReceipt entry.receipt
  pub script : IsSmallScript entry.script

-- An entry whose worker, lock and cells fit their bytes. The rest always fits, by its type.
pub record EntryFitsItsBytes (entry : Entry) : Type 0 where
  pub worker : entry.receipt.worker < 2 ^ 16
  pub lock : entry.receipt.lock < 2 ^ 8
  pub script : IsScript 256 entry.script

-- ---- the contents of bytes

-- The mask of a lock in version 1: all cells if the lock's turn is odd, otherwise none.
abbrev pub version_1_mask : Shape → List ℕ → ℕ → ℕ
version_1_mask shape words lock = if read_word_at shape words (Turn lock) % 2 == 1 then 2 ^ shape.cells - 1 else 0

-- All masks are the masks of version 1.
abbrev pub HasVersion1Masks : Shape → List ℕ → Type 0
HasVersion1Masks shape words =
    (lock : ℕ) → lock < shape.locks → read_word_at shape words (Mask lock) ≡ version_1_mask shape words lock

-- The bytes are the image of these words and entries, which fit their bytes. Version 1 leaves the masks out, so the
-- masks are the implied ones.
pub record BytesEncodeImage (version : ℕ) (bytes : List ℕ) (shape : Shape) (words : List ℕ) (entries : List Entry) :
    Type 0 where
  pub counted : length words ≡ word_count shape
  pub small : All (λ (w : ℕ). w < 2 ^ 64) words
  pub few : length entries < 2 ^ 32
  pub fitting : All IsSmallEntry entries
  pub masks : version ≡ 1 → HasVersion1Masks shape words
  pub spelled : bytes ≡ image_of version shape words entries

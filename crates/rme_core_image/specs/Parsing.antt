-- Parsing from left to right, as functions on lists: the parsed value and the bytes after it, or none. No public
-- contract cites these: `found` and `only` of `parse` state the result.
use Rattle.std.specs.Prelude.{ℕ, zero, suc, ◌+◌, ◌-◌, ◌*◌, ◌%◌, ◌^◌, Bool, ◌&&◌, nat_le, List, [], ◌∷◌, ◌++◌, length, take, drop, slice_index, Option, Some, None, nat_lt, ◌==◌, if◌then◌else◌}
use Rattle.std.specs.Int.{Width, w8, w16, w32, w64, byte_len, from_be_bytes}
use Rattle.rme_words.specs.declared.shape.Shape.{Shape}
use Rattle.rme_words.specs.Words.{lock_block}
use Rattle.rme_script.specs.declared.op.Op.{Op}
use Rattle.rme_script.specs.Slates.{op_from_words}
use Rattle.rme_script.specs.Programs.{Program}
use Rattle.rme_program.specs.declared.note.Receipt.{Receipt}
use Rattle.rme_program.specs.declared.note.Entry.{Entry}
use Rattle.rme_core_image.specs.declared.header.ImageHeader.{ImageHeader}
use Rattle.rme_core_image.specs.Images.{version_omits_word}

infixl 10 ◌>>=◌
abbrev pub ◌>>=◌ : {A B : Type 0} → Option A → (A → Option B) → Option B
(Some x) >>= f = f x
None >>= f = None

-- A number of this width.
unfoldable pub parse_number : Width → List ℕ → Option (ℕ × List ℕ)
parse_number w bytes =
    if nat_lt (length bytes) (byte_len w) then None else Some
    (from_be_bytes w (take (byte_len w) bytes), drop (byte_len w) bytes)

-- A number of items after those that were already parsed; the parsing of an item may depend on those.
abbrev pub parse_many : {A : Type 0} → (List A → List ℕ → Option (A × List ℕ)) → ℕ → List A → List ℕ
    → Option (List A × List ℕ)
parse_many read zero items bytes = Some (items, bytes)
parse_many read (suc n) items bytes = read items bytes >>= λ item. parse_many read n (items ++ item.0 ∷ []) item.1

unfoldable pub parse_header : List ℕ → Option (ImageHeader × List ℕ)
parse_header bytes = do
  magic ← parse_number w32 bytes
  version ← parse_number w8 magic.1
  workers ← parse_number w16 version.1
  locks ← parse_number w8 workers.1
  cells ← parse_number w8 locks.1
  jobs ← parse_number w32 cells.1
  if magic.0 == 0x524d4549 then Some (
    record
        { version = version.0; workers = workers.0; locks = locks.0; cells = cells.0; jobs = jobs.0 },
    jobs.1,
  ) else None

-- Whether the word with this number is the last of a lock's block.
unfoldable pub is_end_of_block : Shape → ℕ → Bool
is_end_of_block shape i =
    nat_le (31 * shape.workers) i && ((i - 31 * shape.workers) % lock_block shape == lock_block shape - 1)

-- The mask that the turn implies, which is 2 + 2C words before it.
unfoldable pub implied_mask : Shape → List ℕ → ℕ
implied_mask shape earlier =
    if slice_index earlier (length earlier - (2 + 2 * shape.cells)) % 2 == 1 then 2 ^ shape.cells - 1 else 0

-- A word that the version leaves out is implied by the words before it.
unfoldable pub parse_word : ℕ → Shape → List ℕ → List ℕ → Option (ℕ × List ℕ)
parse_word version shape earlier bytes =
    if version_omits_word version shape (length earlier) then Some (implied_mask shape earlier, bytes) else parse_number
    w64 bytes

unfoldable pub parse_op : List ℕ → Option (Op × List ℕ)
parse_op bytes = do
  kind ← parse_number w8 bytes
  first ← parse_number w8 kind.1
  second ← parse_number w64 first.1
  op ← op_from_words kind.0 first.0 second.0
  Some (op, second.1)

unfoldable pub parse_script : List ℕ → Option (Program × List ℕ)
parse_script bytes = do
  n ← parse_number w8 bytes
  if nat_lt 8 n.0 then None else (parse_many (λ _. parse_op) n.0 [] n.1 >>= λ ops. Some
      (record { n = n.0; ops = ops.0 }, ops.1))

unfoldable pub parse_receipt : List ℕ → Option (Receipt × List ℕ)
parse_receipt bytes = do
  worker ← parse_number w16 bytes
  number ← parse_number w32 worker.1
  lock ← parse_number w8 number.1
  place ← parse_number w32 lock.1
  reply ← parse_number w64 place.1
  Some (record { worker = worker.0; lock = lock.0; number = number.0; place = place.0; reply = reply.0 }, reply.1)

unfoldable pub parse_entry : List ℕ → Option (Entry × List ℕ)
parse_entry bytes = do
  receipt ← parse_receipt bytes
  script ← parse_script receipt.1
  Some (record { receipt = receipt.0; script = script.0 }, script.1)

-- All entries. Nothing follows the last.
unfoldable pub parse_entries : List ℕ → Option (List Entry)
parse_entries bytes = do
  count ← parse_number w32 bytes
  entries ← parse_many (λ _. parse_entry) count.0 [] count.1
  if length entries.1 == 0 then Some entries.0 else None

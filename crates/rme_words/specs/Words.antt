-- The words of a shape: the number of each address, the value that a load reads, the effect of a store.
use Rattle.std.specs.Prelude.{◌≡◌, ◌≢◌, ℕ, ◌+◌, ◌-◌, ◌*◌, ◌<◌, ◌≤◌, Bool, ◌&&◌, nat_lt, List, slice_index, if◌then◌else◌}
use Rattle.rme_words.specs.declared.shape.Shape.{Shape}
use Rattle.rme_words.specs.declared.address.Address.{Address}
use Rattle.rme_words.specs.declared.address.Address.TheVariants.{Begun, Done, Reply, Place, At, SlateLock, SlateLen, SlateWord, Node, Turn, Cell, Shadow, ShadowReply, Mask}

-- The number of words of one lock; a worker has 31.
abbrev pub lock_block : Shape → ℕ
lock_block shape = shape.leaves + 2 + 2 * shape.cells

-- The number of words of a shape: the workers' blocks, then the locks' blocks.
abbrev pub word_count : Shape → ℕ
word_count shape = 31 * shape.workers + shape.locks * lock_block shape

-- Where a worker's and a lock's block begin.
abbrev pub worker_start : ℕ → ℕ
worker_start worker = 31 * worker

abbrev pub lock_start : Shape → ℕ → ℕ
lock_start shape lock = 31 * shape.workers + lock * lock_block shape

-- The number of an address.
abbrev pub word_number : Shape → Address → ℕ
word_number shape (Begun worker) = worker_start worker
word_number shape (Done worker) = worker_start worker + 1
word_number shape (Reply worker) = worker_start worker + 2
word_number shape (Place worker) = worker_start worker + 3
word_number shape (At worker) = worker_start worker + 4
word_number shape (SlateLock worker) = worker_start worker + 5
word_number shape (SlateLen worker) = worker_start worker + 6
word_number shape (SlateWord worker operation part) = worker_start worker + (7 + 3 * operation + part)
word_number shape (Node lock node) = lock_start shape lock + (node - 1)
word_number shape (Turn lock) = lock_start shape lock + (shape.leaves - 1)
word_number shape (Cell lock cell) = lock_start shape lock + (shape.leaves + cell)
word_number shape (Shadow lock cell) = lock_start shape lock + (shape.leaves + shape.cells + cell)
word_number shape (ShadowReply lock) = lock_start shape lock + (shape.leaves + 2 * shape.cells)
word_number shape (Mask lock) = lock_start shape lock + (shape.leaves + 1 + 2 * shape.cells)

-- The addresses of a shape.
abbrev pub IsShapeAddress : Shape → Address → Type 0
IsShapeAddress shape (Begun worker) = worker < shape.workers
IsShapeAddress shape (Done worker) = worker < shape.workers
IsShapeAddress shape (Reply worker) = worker < shape.workers
IsShapeAddress shape (Place worker) = worker < shape.workers
IsShapeAddress shape (At worker) = worker < shape.workers
IsShapeAddress shape (SlateLock worker) = worker < shape.workers
IsShapeAddress shape (SlateLen worker) = worker < shape.workers
IsShapeAddress shape (SlateWord worker operation part) = (worker < shape.workers) × (operation < 8) × (part < 3)
IsShapeAddress shape (Node lock node) = (lock < shape.locks) × (1 ≤ node) × (node < shape.leaves)
IsShapeAddress shape (Turn lock) = lock < shape.locks
IsShapeAddress shape (Cell lock cell) = (lock < shape.locks) × (cell < shape.cells)
IsShapeAddress shape (Shadow lock cell) = (lock < shape.locks) × (cell < shape.cells)
IsShapeAddress shape (ShadowReply lock) = lock < shape.locks
IsShapeAddress shape (Mask lock) = lock < shape.locks

-- The same as a test.
abbrev pub is_shape_address : Shape → Address → Bool
is_shape_address shape (Begun worker) = nat_lt worker shape.workers
is_shape_address shape (Done worker) = nat_lt worker shape.workers
is_shape_address shape (Reply worker) = nat_lt worker shape.workers
is_shape_address shape (Place worker) = nat_lt worker shape.workers
is_shape_address shape (At worker) = nat_lt worker shape.workers
is_shape_address shape (SlateLock worker) = nat_lt worker shape.workers
is_shape_address shape (SlateLen worker) = nat_lt worker shape.workers
is_shape_address shape (SlateWord worker operation part) =
    nat_lt worker shape.workers && nat_lt operation 8 && nat_lt part 3
is_shape_address shape (Node lock node) = nat_lt lock shape.locks && nat_lt 0 node && nat_lt node shape.leaves
is_shape_address shape (Turn lock) = nat_lt lock shape.locks
is_shape_address shape (Cell lock cell) = nat_lt lock shape.locks && nat_lt cell shape.cells
is_shape_address shape (Shadow lock cell) = nat_lt lock shape.locks && nat_lt cell shape.cells
is_shape_address shape (ShadowReply lock) = nat_lt lock shape.locks
is_shape_address shape (Mask lock) = nat_lt lock shape.locks

-- A memory as a function of the address. An address outside the shape reads 0, so that a memory is determined by its
-- words.
unfoldable pub read_word_at : Shape → List ℕ → Address → ℕ
read_word_at shape words address =
    if is_shape_address shape address then slice_index words (word_number shape address) else 0

-- A store: one address has the new value, and every other address keeps its value.
pub record StoreEffect (old new : Address → ℕ) (address : Address) (value : ℕ) : Type 0 where
  pub at : new address ≡ value
  pub off : (other : Address) → other ≢ address → new other ≡ old other

-- The words of a shape.
pub record Memory : Type 0 where
  pub shape : Shape
  pub words : List ℕ

-- The memory of these words.
abbrev pub memory_of : Memory → Address → ℕ
memory_of memory = read_word_at memory.shape memory.words

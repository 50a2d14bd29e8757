-- THE STEP TABLE: for each phase the actions of one stay in order. Each row is a function of the values on which it
-- depends. A load has no value, a store its word and value, a swap its word and both values.
use Rattle.std.specs.Prelude.{ℕ, ◌+◌, ◌-◌, ◌*◌, ◌/◌, ◌%◌, Bool, true, false, ◌==◌, if◌then◌else◌, List, [], ◌∷◌, ◌++◌, map, slice_index}
use Rattle.std.specs.List.{range_with_len, flat_map}
use Rattle.rme_words.specs.declared.shape.Shape.{Shape}
use Rattle.rme_words.specs.declared.address.Address.{Address}
use Rattle.rme_words.specs.declared.address.Address.TheVariants.{Begun, Done, Reply, Place, At, SlateLock, SlateLen, SlateWord, Node, Turn, Cell, Shadow, ShadowReply, Mask}
use Rattle.rme_tree.specs.Paths.{node, side}
use Rattle.rme_script.specs.declared.job.Job.{Job}
use Rattle.rme_script.specs.Programs.{Program}
use Rattle.rme_script.specs.Cells.{cells_of_ops, mask_cells}
use Rattle.rme_script.specs.Eval.{eval_of}
use Rattle.rme_script.specs.Slates.{ops_words}
use Rattle.rme_program.specs.declared.action.Action.{Action}
use Rattle.rme_program.specs.declared.action.Action.TheVariants.{Load, Store, Swap}
use Rattle.rme_program.specs.Masks.{mask_of}
use Rattle.rme_program.specs.Steps.{withdrawn_place}

-- One action for each of the numbers 0 .. n - 1.
abbrev pub actions_for_each : ℕ → (ℕ → Action) → List Action
actions_for_each n action = map action (range_with_len 0 n)

-- The node of the worker's path at a level.
abbrev pub path_node : Shape → ℕ → ℕ → ℕ → Address
path_node shape worker lock level = Node lock (node shape.leaves worker level)

-- RECOVER: load Begun, Done, the lock of the last job, and v_1, v_2, .. v_h.

-- A pending job has its lock in the slate, a finished or withdrawn one in At.
abbrev pub lock_word_address : ℕ → Bool → Address
lock_word_address worker true = SlateLock worker
lock_word_address worker false = At worker

abbrev pub recover_row : Shape → ℕ → Bool → ℕ → List Action
recover_row shape worker pending lock =
    Load (Begun worker) ∷ Load (Done worker) ∷ Load (lock_word_address worker pending) ∷ actions_for_each shape.height
    (λ i. Load (path_node shape worker lock (i + 1)))

-- POST: store the slate's lock, its length and its words, then Begun.
abbrev pub post_row : ℕ → ℕ → Job → List Action
post_row worker begun job =
    Store (SlateLock worker) job.lock
    ∷ Store (SlateLen worker) job.script.n
    ∷ (actions_for_each (3 * job.script.n) (λ i. Store (SlateWord worker (i / 3) (i % 3))
    (slice_index (ops_words job.script.ops) i)) ++ Store (Begun worker) (begun + 1) ∷ [])

-- ENTER, with `from` levels already held: swap each further node of the path from 0 to the worker's side.
abbrev pub enter_row : Shape → ℕ → ℕ → ℕ → List Action
enter_row shape worker lock from =
    actions_for_each (shape.height - from) (λ i. Swap (path_node shape worker lock (from + i + 1)) 0
    (side shape.leaves worker (from + i + 1)))

-- SECTION

-- At an even turn: load the turn, the slate and the named cells; store the script's result for these cells in their
-- shadow words, the reply, the mask of the named cells, and the next turn.
abbrev pub log_row : Shape → ℕ → ℕ → ℕ → Program → List ℕ → List Action
log_row shape worker lock turn script cells =
    Load (Turn lock)
    ∷ Load (SlateLen worker)
    ∷ (actions_for_each (3 * script.n) (λ i. Load (SlateWord worker (i / 3) (i % 3)))
    ++ (map (λ c. Load (Cell lock c)) (cells_of_ops script.ops shape.cells)
    ++ (map (λ c. Store (Shadow lock c) (slice_index (eval_of script.ops cells).row c))
    (cells_of_ops script.ops shape.cells)
    ++ Store (ShadowReply lock) (eval_of script.ops cells).reply
    ∷ Store (Mask lock) (mask_of script.ops)
    ∷ Store (Turn lock) (turn + 1)
    ∷ [])))

-- The values that the loads of a section find: the turn, the slate's script, the lock's cells, and then the mask, the
-- shadow words and the shadow reply.
pub record Reading : Type 0 where
  pub turn : ℕ
  pub script : Program
  pub cells : List ℕ
  pub mask : ℕ
  pub shadows : List ℕ
  pub reply : ℕ

-- At an odd turn: load the mask; for each of its cells load the shadow word and store it into the cell; load the
-- reply; store the reply, the place, the lock and the number.
abbrev pub redo_row : Shape → ℕ → ℕ → ℕ → Reading → List Action
redo_row shape worker begun lock reading =
    Load (Mask lock)
    ∷ (flat_map (λ c. Load (Shadow lock c) ∷ Store (Cell lock c) (slice_index reading.shadows c) ∷ [])
    (mask_cells reading.mask shape.cells)
    ++ Load (ShadowReply lock)
    ∷ Store (Reply worker) reading.reply
    ∷ Store (Place worker) (reading.turn / 2)
    ∷ Store (At worker) lock
    ∷ Store (Done worker) begun
    ∷ [])

abbrev pub even_row : Shape → ℕ → ℕ → ℕ → Reading → List Action
even_row shape worker begun lock reading =
    log_row shape worker lock reading.turn reading.script reading.cells
    ++ redo_row shape worker begun lock reading

abbrev pub odd_row : Shape → ℕ → ℕ → ℕ → Reading → List Action
odd_row shape worker begun lock reading =
    Load (Turn lock) ∷ redo_row shape worker begun lock reading

abbrev pub section_row : Shape → ℕ → ℕ → ℕ → Reading → List Action
section_row shape worker begun lock reading =
    if reading.turn % 2 == 0 then even_row shape worker begun lock reading else odd_row shape worker begun lock reading

-- EXIT

-- Store 0 into the nodes of the first `levels` levels, from the topmost downward.
abbrev pub clear_row : Shape → ℕ → ℕ → ℕ → List Action
clear_row shape worker lock levels = actions_for_each levels (λ i. Store (path_node shape worker lock (levels - i)) 0)

-- Count an odd turn up.
abbrev pub settle_row : ℕ → ℕ → List Action
settle_row lock turn = if turn % 2 == 0 then [] else Store (Turn lock) (turn + 1) ∷ []

abbrev pub exit_row : Shape → ℕ → ℕ → ℕ → List Action
exit_row shape worker lock turn = Load (Turn lock) ∷ (settle_row lock turn ++ clear_row shape worker lock shape.height)

-- The withdrawing form, with `levels` levels held: store the place that marks a withdrawal, the lock, the reply 0 and
-- the number, and release the levels held.
abbrev pub withdraw_row : Shape → ℕ → ℕ → ℕ → ℕ → List Action
withdraw_row shape worker begun lock levels =
    Store (Place worker) withdrawn_place ∷ Store (At worker) lock ∷ Store (Reply worker) 0 ∷ Store (Done worker) begun ∷
    clear_row shape worker lock levels

use Rattle.std.proofs.Common.{◌≡◌, ℕ, ◌<◌, List}
use Rattle.std.specs.Prelude.{slice_get, Option, Some}
use Rattle.rme_words.specs.Words.{memory_of}
use Rattle.rme_tree.specs.Nodes.{owner_in}
use Rattle.rme_program.specs.declared.note.Entry.{Entry}
use Rattle.rme_machine.specs.Views.{worker_words, lock_words}
use Rattle.rme_core_image_check.specs.Locks.{LockIsValid, lock_fold}
use Rattle.rme_core_image_check.proofs.locks.are_locks_valid.Given as goal

abbrev pub invariant-loop-lock : goal.invariant-loop-lock
invariant-loop-lock l = (lock : ℕ) (row : List ℕ) (last : Option Entry) → lock < l.lock → slice_get l.rows lock ≡ Some row → slice_get l.last_entries lock ≡ Some last
    → LockIsValid l.bank.shape (lock_words l.bank.shape (memory_of l.bank) lock) (lock_fold row last) (owner_in l.bank.shape (memory_of l.bank) lock) (worker_words (memory_of l.bank))

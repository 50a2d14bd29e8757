use Rattle.std.proofs.Common.{ℕ, ◌<◌}
use Rattle.rme_words.specs.Words.{memory_of}
use Rattle.rme_tree.specs.Nodes.{held_levels_in}
use Rattle.rme_machine.specs.Views.{worker_words}
use Rattle.rme_core_image_check.specs.Workers.{HeldLockIsCurrent}
use Rattle.rme_core_image_check.proofs.workers.are_held_locks_current.Given as goal

abbrev pub invariant-loop-lock : goal.invariant-loop-lock
invariant-loop-lock l = (lock : ℕ) → lock < l.lock → HeldLockIsCurrent (worker_words (memory_of l.bank) l.worker) (held_levels_in l.bank.shape (memory_of l.bank) l.worker) lock

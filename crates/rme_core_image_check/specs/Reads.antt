-- The values read from a bank: the words of one worker, those of one lock, and the levels that a worker holds in each.
use Rattle.std.specs.Prelude.{ℕ}
use Rattle.rme_words.specs.Words.{Memory, memory_of}
use Rattle.rme_tree.specs.Nodes.{held_levels_in}
use Rattle.rme_machine.specs.Views.{WorkerWords, LockWords, worker_words, lock_words}

abbrev pub bank_worker_words : Memory → ℕ → WorkerWords
bank_worker_words bank worker = worker_words (memory_of bank) worker

abbrev pub bank_lock_words : Memory → ℕ → LockWords
bank_lock_words bank lock = lock_words bank.shape (memory_of bank) lock

abbrev pub bank_held_levels : Memory → ℕ → ℕ → ℕ
bank_held_levels bank worker = held_levels_in bank.shape (memory_of bank) worker

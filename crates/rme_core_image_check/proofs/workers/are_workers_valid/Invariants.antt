use Rattle.std.proofs.Common.{◌≡◌, ℕ, ◌<◌}
use Rattle.std.specs.Prelude.{slice_get, Option, Some}
use Rattle.rme_words.specs.Words.{memory_of}
use Rattle.rme_tree.specs.Nodes.{held_levels_in}
use Rattle.rme_program.specs.declared.note.Entry.{Entry}
use Rattle.rme_machine.specs.Views.{worker_words}
use Rattle.rme_core_image_check.specs.Workers.{WorkerIsValid}
use Rattle.rme_core_image_check.proofs.workers.are_workers_valid.Given as goal

abbrev pub invariant-loop-worker : goal.invariant-loop-worker
invariant-loop-worker l = (worker : ℕ) (last : Option Entry) → worker < l.worker → slice_get l.last_entries worker ≡ Some last → WorkerIsValid l.bank.shape (worker_words (memory_of l.bank) worker) (held_levels_in l.bank.shape (memory_of l.bank) worker) last

use Rattle.rme_keys.proofs.WorkerTexts.{NumberSoFar}
use Rattle.rme_keys.proofs.workers.worker_of_text.Given as goal

-- the bytes so far are digits, of this number
abbrev pub invariant-loop-byte : goal.invariant-loop-byte
invariant-loop-byte l = NumberSoFar l.text l.byte-index l.worker

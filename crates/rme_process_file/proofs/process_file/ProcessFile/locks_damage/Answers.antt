use Rattle.std.proofs.Common.{ℕ, ap, arith}
use Rattle.rme_words.specs.declared.shape.Shape.{Shape}
use Rattle.rme_core_image_check.proofs.Rising.{up_to}
use Rattle.rme_process_file.specs.ProcessFiles.{file_memory}
use Rattle.rme_process_file.specs.Sound.{IsSoundLock}
use Rattle.rme_process_file.proofs.process_file.ProcessFile.locks_damage.Goals as goal

pub loop-lock-preserved : goal.loop-lock-preserved
loop-lock-preserved c = up_to (λ (lock : ℕ). IsSoundLock c.args.self.now.shape (file_memory c.args.self.now) lock) c.loop-lock.lock c.loop-lock.invariant c.in_default.ensures

pub returns : goal.returns
returns c = λ lock below. let all = ap (λ (s : Shape). s.locks) c.shape-shape.ensures in c.loop-lock.invariant lock (omega (arith, below, all, c.loop-lock-test.false))

use Rattle.std.proofs.Common.{ℕ, ◌+◌}
use Rattle.rme_process_file.specs.ProcessFiles.{file_u64_at}
use Rattle.rme_process_file.proofs.Reading.{made_more}
use Rattle.rme_process_file.proofs.process_file.words_of.Goals as goal

pub loop-at-preserved : goal.loop-at-preserved
loop-at-preserved c =
    made_more (λ (i : ℕ). file_u64_at c.args.bytes.now (512 + i)) c.loop-at.words.items c.loop-at.at c.file_u64_at.result c.push.new.self.items c.loop-at.invariant c.file_u64_at.ensures c.in-Ok.ensures.items

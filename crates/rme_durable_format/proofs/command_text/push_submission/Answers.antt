use Rattle.std.proofs.Common.{codes, string_bytes, ◌++◌}
use Rattle.std.proofs.lemmas.Result.{on_ok_weaker}
use Rattle.rme_line_text.specs.Texts.{lock_name, ops_text, script_end}
use Rattle.rme_line_text.proofs.TextLemmas.{append_three}
use Rattle.rme_durable_format.proofs.command_text.push_submission.Goals as goal

pub returns : goal.returns
returns c =
    let job = c.args.job.now in
    let front = rw c.lock_name-lock.ensures at c.in_ok-write.ensures.bytes in
    on_ok_weaker c.write-2.result
    (λ last. append_three (string_bytes c.args.out.now) (string_bytes c.write.new.self) (string_bytes c.push_ops.new.out) (string_bytes c.write-2.new.self)
    (codes "{\"do\":\"submit\",\"lock\":\"" ++ (lock_name c.args.names.now job.lock ++ codes "\",\"script\":[")) (ops_text job.script.ops) (script_end c.args.worker) front c.in_ok-push_ops.ensures last)
    c.write-2.ensures.bytes

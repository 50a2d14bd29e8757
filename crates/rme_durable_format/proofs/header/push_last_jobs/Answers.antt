use Rattle.std.proofs.Common.{codes, get_or, string_bytes, refl, ap, ◌∙◌, ◌++◌, List, ℕ, append_assoc, arith}
use Rattle.json.proofs.Printed.Utf8.{IsUtf8-are_ascii}
use Rattle.rme_durable_format.specs.HeaderTexts.{last_job_text}
use Rattle.rme_durable_format.specs.declared.header.LastJob.TheVariants.{Nothing}
use Rattle.rme_durable_format.proofs.Separating.{next_separated}
use Rattle.rme_durable_format.proofs.header.push_last_jobs.Goals as goal

pub loop-word-preserved : goal.loop-word-preserved
loop-word-preserved c =
    let text = last_job_text c.args.names.now in
    let out = string_bytes c.loop-word.out in
    let item = text (get_or c.args.words.now c.loop-word.word-index Nothing) in
    let put = c.in_ok-push_last_job.ensures ∙ (ap (λ (l : List ℕ). l ++ item) c.in_ok-push_str.ensures.bytes ∙ append_assoc out c.loop-word.comma.now item) in (
      IsUtf8-are_ascii (codes ",") refl,
      next_separated text (string_bytes c.args.out.now) c.args.words.now out c.loop-word.comma.now c.loop-word.word-index Nothing (string_bytes c.push_last_job.new.out) c.loop-word.invariant.1 (omega arith) put,
    )

-- The items before the next are written.
use Rattle.std.proofs.Common.{string_bytes, drop}
use denote.Text.{Utf8}
use denote.Shadow.{shadow}
use Rattle.rme_durable_format.specs.HeaderTexts.{last_job_text}
use Rattle.rme_durable_format.proofs.Separating.{HasSeparated}
use Rattle.rme_durable_format.proofs.header.push_last_jobs.Given as goal

abbrev pub invariant-loop-word : goal.invariant-loop-word
invariant-loop-word l = shadow (Utf8 l.comma) × HasSeparated (last_job_text l.names) (string_bytes l.fn.out) l.words (string_bytes l.out) l.comma (drop l.word-index l.words)

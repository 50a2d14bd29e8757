use Rattle.rme_durable_format.proofs.SubmissionLines.{submission_line}
use Rattle.rme_durable_format.proofs.laws.submission_lines.Goals as goal

pub returns : goal.returns
returns c names worker job are few may = submission_line names worker job are few may

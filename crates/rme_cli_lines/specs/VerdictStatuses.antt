-- The exit status after a verdict, and the line of the verdict.
use Rattle.std.specs.Prelude.{◌≡◌, ℕ, List, ◌++◌, Option, codes, decimal}
use Rattle.std.specs.Io.KnownBytes.{Appends}
use Rattle.rme_line_check.specs.declared.check.Verdict.{Verdict}
use Rattle.rme_line_check.specs.declared.check.Verdict.TheVariants.{Yes, No, Bad}
use Rattle.rme_line_check.specs.Verdicts.{InputVerdict}

-- the exit status after the verdict on a transcript
abbrev pub verdict_status : Verdict → ℕ
verdict_status Yes = 0
verdict_status _ = 1

-- the line of the verdict
abbrev pub verdict_line_text : Verdict → List ℕ
verdict_line_text Yes = codes "yes\n"
verdict_line_text (No line) = codes "no " ++ (decimal line ++ codes "\n")
verdict_line_text (Bad line) = codes "bad " ++ (decimal line ++ codes "\n")

-- The input has a verdict, whose line was written, and whose status is the exit status.
pub record CheckCommandOutput (input before after : Option (List ℕ)) (status : ℕ) : Type 0 where
  pub verdict : Verdict
  pub found : InputVerdict input verdict
  pub told : Appends before after (verdict_line_text verdict)
  pub ends : status ≡ verdict_status verdict

use Rattle.std.proofs.Common.{◌∙◌, sym, ap, inl, inr}
use Rattle.std.proofs.lemmas.Bool.{cases_Bool, and_parts}
use Rattle.std.proofs.lemmas.Str.{IsUtf8-from_ascii}
use Rattle.rme_line_io.specs.Names.{is_name}
use Rattle.rme_process_file.proofs.Reading.{small_bytes}
use Rattle.rme_process_file.proofs.page.lock_name_text.Goals.{in_default-via-in-Ok+else-is_name, in_default-via-in_default}
use Rattle.rme_process_file.proofs.page.lock_name_text.Goals as goal

pub returns-in_default : goal.returns-in_default
returns-in_default c =
    elim c.in_default.branch [
      | in_default-via-in-Ok+else-is_name w ↦ ap is_name (sym w.in-Ok.ensures.cases.0) ∙ sym w.is_name.ensures ∙ w.if-is_name.false
      | in_default-via-in_default w ↦ elim (cases_Bool (is_name c.args.bytes.now)) [
        | inl named ↦ absurd (w.in_default.ensures.cases.0 (IsUtf8-from_ascii c.args.bytes.now (small_bytes c.args.bytes.now (and_parts _ _ named).1)))
        | inr is ↦ is
      ]
    ]

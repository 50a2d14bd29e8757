-- What a session wrote to the line of the order `status`.
use Rattle.std.proofs.Common.{◌≡◌, ℕ, List, [], Option, Some, None, ap, subst, sym, ◌∙◌}
use Rattle.std.specs.Io.KnownBytes.{Keeps}
use Rattle.rme_line_io.specs.Pieces.{InputLine}
use Rattle.rme_session_loop.specs.SessionRuns.{SessionWrites}
use Rattle.rme_session_loop.specs.declared.session_loop.SessionEnd.{SessionEnd}
use Rattle.rme_cli_listen.specs.StatusLookUps.{AnswersStatus, status_line}

module _ {S : Type 0} (has : S → InputLine → List ℕ → S → Type 0) (nobody : S) (how : SessionEnd) (last : S)
    (ended : Option (List ℕ)) where
  abbrev pub writes_from : Option (List ℕ) → Option (List ℕ) → Option (List ℕ) → Type 0
  writes_from begun held wrote =
      SessionWrites how has nobody (record { left = begun; held = held }) (record { left = ended; held = wrote }) last

  pub wrote_status : (begun held wrote : Option (List ℕ)) (line text : List ℕ) → Keeps (Some line) begun
      → line ≡ status_line → held ≡ Some [] → wrote ≡ Some text → writes_from begun held wrote
      → AnswersStatus has nobody text
  wrote_status None held wrote line text keeps is empty told writes = elim keeps [ ]
  wrote_status (Some bytes) held wrote line text keeps is empty told writes =
      let begins : Some bytes ≡ Some status_line = ap Some (keeps ∙ is) in
      let first : writes_from (Some status_line) held wrote =
      subst (λ (begun : Option (List ℕ)). writes_from begun held wrote) begins writes in
      let second : writes_from (Some status_line) (Some []) wrote =
      subst (λ (held : Option (List ℕ)). writes_from (Some status_line) held wrote) empty first in
      let third : writes_from (Some status_line) (Some []) (Some text) =
      subst (λ (wrote : Option (List ℕ)). writes_from (Some status_line) (Some []) wrote) told second in
      (how, ended, last, third)

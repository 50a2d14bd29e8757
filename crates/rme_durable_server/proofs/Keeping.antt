-- The buffered answers, where none is written.
use Rattle.std.proofs.Common.{◌≡◌, ℕ, List, [], subst, sym}
use Rattle.std.specs.Prelude.{OnOk, Option, Result, Ok, Err}
use Rattle.rme_line_io.specs.BufferedWrites.{BufferedWrite}
use Rattle.rme_line_io.proofs.PutLemmas.{gathers_none}

pub keeps_buffered : {A E : Type 0} (result : Result A E) (held : Option (List ℕ)) (kept keeps : List ℕ) → keeps ≡ kept
    → OnOk result (BufferedWrite held kept [] held keeps)
keeps_buffered (Ok value) held kept keeps same = subst (λ (k : List ℕ). BufferedWrite held kept [] held k) (sym same) (gathers_none held kept)
keeps_buffered (Err error) held kept keeps same = tt

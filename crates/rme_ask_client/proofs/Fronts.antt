-- What a writer received, however the writing ended.
use Rattle.std.proofs.Common.{List, ℕ, [], append-nil}
use Rattle.std.specs.Prelude.{Option, Result, Ok, Err, OnOk, OnErr}
use Rattle.std.specs.Io.KnownBytes.{Appends}
use Rattle.rme_line_io.specs.BufferedWrites.{WritesPrefix}
use Rattle.rme_line_io.proofs.PutLemmas.{front_is}

pub some_front : {T E : Type 0} (result : Result T E) (before after : Option (List ℕ)) (bytes : List ℕ) → OnOk result (Appends before after bytes)
    → OnErr result (WritesPrefix before after bytes) → WritesPrefix before after bytes
some_front (Ok value) before after bytes whole front = front_is before after bytes [] bytes (append-nil bytes) whole
some_front (Err fault) before after bytes whole front = front

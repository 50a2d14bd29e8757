-- The notes of a worker are written in order.
use Rattle.std.proofs.Common.{◌≡◌, ◌≢◌, ℕ, List, [], ◌∷◌, ◌++◌, refl, sym, ap, ◌∙◌, append_assoc, map}
use Rattle.rme_line_io.specs.declared.cut.Cut.{Cut}
use Rattle.rme_line_io.specs.declared.cut.Cut.TheVariants.{Line, TooLong, End}
use Rattle.rme_line_io.specs.Cuts.{input_line_of}
use Rattle.rme_program.specs.declared.note.Note.{Note}
use Rattle.rme_program.specs.declared.note.Note.TheVariants.{Quiet, Asked, Blocked, Entered, Reentered, Finished, Left, Ready, Withdrew}
use Rattle.rme_line_text.specs.declared.event.EventLine.TheVariants as line
use Rattle.rme_line_text.specs.Events.{event_text}
use Rattle.rme_line_engine.specs.Lines.{with_newline}
use Rattle.rme_line_engine.specs.EngineStates.{EngineState}
use Rattle.rme_line_engine.specs.Transcripts.{LineTranscriptBytes, events_text, note_events}
use Rattle.rme_line_engine.specs.WorldWalks.{walk_notes_of}

-- the written text, with that of the remaining notes, is the text of all
abbrev pub Told : List (List ℕ) → ℕ → List ℕ → List Note → List ℕ → List Note → Type 0
Told names worker start all out rest = out ++ events_text names (note_events worker rest) ≡ start ++ events_text names (note_events worker all)

-- every note except a quiet one is written
pub shown_loud : (note : Note) → note ≢ Quiet → walk_notes_of note ≡ note ∷ []
shown_loud Quiet loud = absurd (loud refl)
shown_loud (Asked number) loud = refl
shown_loud Blocked loud = refl
shown_loud (Entered lock) loud = refl
shown_loud (Reentered lock) loud = refl
shown_loud (Finished receipt) loud = refl
shown_loud (Left lock) loud = refl
shown_loud Ready loud = refl
shown_loud (Withdrew number) loud = refl

-- a quiet note is not written
pub told_quiet : (names : List (List ℕ)) (worker : ℕ) (start : List ℕ) (all : List Note) (out : List ℕ) (note : Note) (rest : List Note) → note ≡ Quiet
    → Told names worker start all out (note ∷ rest) → Told names worker start all out rest
told_quiet names worker start all out note rest quiet so_far = ap (λ (n : Note). out ++ events_text names (note_events worker (n ∷ rest))) (sym quiet) ∙ so_far

-- any other note is
pub told_note : (names : List (List ℕ)) (worker : ℕ) (start : List ℕ) (all : List Note) (out after : List ℕ) (note : Note) (rest : List Note) → walk_notes_of note ≡ note ∷ []
    → after ≡ out ++ with_newline (event_text names (line.Note worker note)) → Told names worker start all out (note ∷ rest) → Told names worker start all after rest
told_note names worker start all out after note rest is_shown e so_far =
    ap (λ l. l ++ events_text names (note_events worker rest)) e ∙ append_assoc out (with_newline (event_text names (line.Note worker note))) (events_text names (note_events worker rest))
    ∙ ap (λ (ns : List Note). out ++ events_text names (map (line.Note worker) ns ++ note_events worker rest)) (sym is_shown) ∙ so_far

-- nothing is written for a line that is too long
pub told_too_long : (old : EngineState) (cut : Cut) (line bytes : List ℕ) → cut ≡ TooLong → bytes ≡ [] → LineTranscriptBytes old (input_line_of cut line) bytes old
told_too_long old Line line bytes e none = absurd (let bad : Line ≡ TooLong = e in cc)
told_too_long old TooLong line bytes e none = (none, refl)
told_too_long old End line bytes e none = absurd (let bad : End ≡ TooLong = e in cc)

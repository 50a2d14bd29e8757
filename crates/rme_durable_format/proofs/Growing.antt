-- Texts to which lines are appended.
use Rattle.std.proofs.Common.{◌≡◌, ◌≤◌, ℕ, List, [], ◌∷◌, ◌++◌, IsTrue, length, refl, sym, subst, ◌∙◌}
use Rattle.std.specs.Prelude.{◌==◌, ◌&&◌, Bool, true, false, not, OnOk, Option, Some, Result, Ok, Err}
use Rattle.std.specs.List.{list_all}
use Rattle.std.proofs.lemmas.Bool.{and_parts}
use Rattle.rme_line_io.specs.Pieces.{IsPiece}
use Rattle.rme_wire.specs.Requests.{request_of_line}
use Rattle.rme_wire.specs.declared.command.Command.{Command}
use Rattle.rme_wire.specs.declared.request.Request.{Request}
use Rattle.rme_wire.specs.declared.request.Request.TheVariants.{World}
use Rattle.rme_durable_format.specs.CommandTexts.{HasNoLine, command_text, has_text}
use Rattle.rme_durable_format.specs.CommandLines.{IsCommandLine, AppendsCommand, AppendsCommands, is_no_newline}

-- First these lines, then those.
pub writes_then : (names : List (List ℕ)) (first second : List Command) (before mid after : List ℕ) → AppendsCommands names before first mid → AppendsCommands names mid second after → AppendsCommands names before (first ++ second) after
writes_then names [] second before mid after one two = subst (λ (b : List ℕ). AppendsCommands names b second after) one two
writes_then names (command ∷ first) second before mid after one two = (one.0, one.1, writes_then names first second one.0 mid after one.2 two)

-- One line.
pub writes_one : (names : List (List ℕ)) (command : Command) (before after : List ℕ) → AppendsCommand names before command after → AppendsCommands names before (command ∷ []) after
writes_one names command before after its = (after, its, refl)

not_newline : (byte : ℕ) (test : Bool) → (byte == 10) ≡ test → not test ≡ true → (byte == 10) ≡ false
not_newline byte true is apart = absurd (let e : false ≡ true = apart in cc)
not_newline byte false is apart = is

-- Bytes without newlines are one piece.
pub one_piece : (bytes : List ℕ) → list_all is_no_newline bytes ≡ true → IsPiece bytes
one_piece [] all = tt
one_piece (byte ∷ bytes) all =
    let parts = and_parts (is_no_newline byte) (list_all is_no_newline bytes) all in
    (not_newline byte (byte == 10) refl parts.0, one_piece bytes parts.1)

no_newline_front : (byte : ℕ) (rest : Bool) → (byte == 10) ≡ false → rest ≡ true → not (byte == 10) && rest ≡ true
no_newline_front byte rest apart more = rw apart more

-- One piece has no newline.
pub piece_all : (bytes : List ℕ) → IsPiece bytes → list_all is_no_newline bytes ≡ true
piece_all [] piece = refl
piece_all (byte ∷ bytes) piece = no_newline_front byte (list_all is_no_newline bytes) piece.0 (piece_all bytes piece.1)

-- A text that cannot be a line: it has a newline, or is too long.
pub no_line : (names : List (List ℕ)) (command : Command) (line : List ℕ) (fits : Bool) → line ≡ command_text names command
    → ((list_all is_no_newline line ≡ true) × (length line ≤ 65536) → IsTrue fits) → fits ≡ false → HasNoLine names command
no_line names command line fits is when not_fits has its =
    let P : List ℕ → Type 0 = λ (text : List ℕ). IsCommandLine names command text in
    let ours : IsCommandLine names command line = subst P (sym is) its in
    let yes : IsTrue fits = when (piece_all line ours.piece, ours.short) in cc

-- A line that asks for something else.
pub no_request : (names : List (List ℕ)) (command : Command) (line : List ℕ) (asked : Option Request) (is : Bool) → line ≡ command_text names command → asked ≡ request_of_line names line
    → ((has_text command ≡ true) × (asked ≡ Some (World command)) → IsTrue is) → is ≡ false → HasNoLine names command
no_request names command line asked is same reads when not_is has its =
    let P : List ℕ → Type 0 = λ (text : List ℕ). IsCommandLine names command text in
    let ours : IsCommandLine names command line = subst P (sym same) its in
    let yes : IsTrue is = when (has, reads ∙ ours.asks) in cc

-- A text and a newline were appended, and the text is the line of a command.
pub writes_line : {A E : Type 0} (result : Result A E) (names : List (List ℕ)) (command : Command) (before after line text : List ℕ) → IsCommandLine names command line → text ≡ line → OnOk result (after ≡ before ++ (text ++ 10 ∷ [])) → OnOk result (AppendsCommand names before command after)
writes_line (Ok value) names command before after line text its same grew = (line, its, subst (λ (t : List ℕ). after ≡ before ++ (t ++ 10 ∷ [])) same grew)
writes_line (Err error) names command before after line text its same grew = grew

-- First these lines, then those, then the last, if all could be appended.
pub writes_last : {A E : Type 0} (result : Result A E) (names : List (List ℕ)) (first second third : List Command) (before mid later after : List ℕ)
    → AppendsCommands names before first mid → AppendsCommands names mid second later → OnOk result (AppendsCommands names later third after) → OnOk result (AppendsCommands names before (first ++ (second ++ third)) after)
writes_last (Ok value) names first second third before mid later after one two three =
    writes_then names first (second ++ third) before mid after one (writes_then names second third mid later after two three)
writes_last (Err error) names first second third before mid later after one two three = three

-- Newlines in bytes: behind the last one no line is whole, and up to the second one there are two lines.
use Rattle.std.proofs.Common.{◌≡◌, ℕ, ◌+◌, ◌<◌, ◌≤◌, ◌==◌, true, List, [], ◌∷◌, ◌++◌, length, take, drop, slice_index, refl, sym, ap, subst, ◌∙◌, arith, append_assoc, append-nil, inl, inr}
use Rattle.std.proofs.lemmas.Bool.{eqb-true}
use Rattle.std.proofs.lemmas.List.{drop_more, get_or-drop, length-append, length-drop, length-take-le, take-append-drop, take_all, take_at, take_more}
use Rattle.rme_line_io.specs.Pieces.{InputLine, IsPiece, line_of, lines_of}
use Rattle.rme_line_io.proofs.PieceLemmas.{IsPiece-all, IsPiece-front, lines_ended, lines_none, lines_piece}
use Rattle.rme_durable_format.specs.WholeLines.{AreFirstTwoLines, AreWholeLinesOf}

abbrev pub IsNewline : List ℕ → ℕ → Type 0
IsNewline bytes at = (slice_index bytes at == 10) ≡ true

-- ---- the last newline

piece_behind : (bytes : List ℕ) (from : ℕ) → ((k : ℕ) → from ≤ k → k < length bytes → IsNewline bytes k → ⊥) → IsPiece (drop from bytes)
piece_behind bytes from none =
    IsPiece-all (drop from bytes)
    (λ j low below is. none (from + j) (omega arith) (omega (arith, below, length-drop from bytes)) (subst (λ (b : ℕ). (b == 10) ≡ true) (get_or-drop from bytes j 0) is))

pub whole_to : (bytes : List ℕ) (at : ℕ) → at < length bytes → IsNewline bytes at → ((k : ℕ) → at + 1 ≤ k → k < length bytes → IsNewline bytes k → ⊥) → AreWholeLinesOf bytes (take (at + 1) bytes)
whole_to bytes at within is none = record {
  torn = drop (at + 1) bytes;
  are = sym (take-append-drop (at + 1) bytes);
  piece = piece_behind bytes (at + 1) none;
  end = inr (take at bytes, take_more bytes at 0 within ∙ ap (λ (b : ℕ). take at bytes ++ b ∷ []) (eqb-true _ _ is));
}

pub whole_none : (bytes : List ℕ) → ((k : ℕ) → 0 ≤ k → k < length bytes → IsNewline bytes k → ⊥) → AreWholeLinesOf bytes []
whole_none bytes none = record { torn = bytes; are = refl; piece = IsPiece-all bytes none; end = inl refl }

-- ---- the first two newlines

-- Bytes with two lines at most.
two_at_most : (bytes : List ℕ) → length (lines_of bytes) ≤ 2 → AreFirstTwoLines bytes bytes
two_at_most bytes few = record { rest = []; are = sym (append-nil bytes); two = sym (take_all 2 (lines_of bytes) few) }

split_at : (bytes : List ℕ) (at : ℕ) → at < length bytes → IsNewline bytes at → bytes ≡ take at bytes ++ 10 ∷ drop (at + 1) bytes
split_at bytes at within is =
    sym (take-append-drop at bytes) ∙ ap (λ (r : List ℕ). take at bytes ++ r) (drop_more bytes at 0 within ∙ ap (λ (b : ℕ). b ∷ drop (at + 1) bytes) (eqb-true _ _ is))

-- The line up to a newline, and those behind it.
lines_at : (bytes : List ℕ) (at : ℕ) → at < length bytes → IsNewline bytes at → ((k : ℕ) → 0 ≤ k → k < at → IsNewline bytes k → ⊥) → lines_of bytes ≡ line_of (take at bytes) ∷ lines_of (drop (at + 1) bytes)
lines_at bytes at within is none =
    ap lines_of (split_at bytes at within is) ∙ lines_ended (take at bytes) (drop (at + 1) bytes) (IsPiece-front bytes at (omega arith) none)

pub two_of_none : (bytes : List ℕ) → ((k : ℕ) → 0 ≤ k → k < length bytes → IsNewline bytes k → ⊥) → AreFirstTwoLines bytes bytes
two_of_none bytes none = let one = lines_piece bytes (IsPiece-all bytes none) in two_at_most bytes (omega (arith, one))

module _ (bytes : List ℕ) (first : ℕ) (within : first < length bytes) (is : IsNewline bytes first) (none : (k : ℕ) → 0 ≤ k → k < first → IsNewline bytes k → ⊥) where
  pub two_of_one : ((k : ℕ) → 0 ≤ k → k < length (drop (first + 1) bytes) → IsNewline (drop (first + 1) bytes) k → ⊥) → AreFirstTwoLines bytes bytes
  two_of_one piece =
      let one = lines_piece (drop (first + 1) bytes) (IsPiece-all (drop (first + 1) bytes) piece) in
      let all = ap length (lines_at bytes first within is none) in two_at_most bytes (omega (arith, one, all))

  pub two_of_two : (second : ℕ) → second < length (drop (first + 1) bytes) → IsNewline (drop (first + 1) bytes) second → ((k : ℕ) → 0 ≤ k → k < second → IsNewline (drop (first + 1) bytes) k → ⊥)
      → AreFirstTwoLines bytes (take (first + second + 2) bytes)
  two_of_two second inside also piece =
      let behind = drop (first + 1) bytes in
      let one = take first bytes in
      let two = take second behind in
      let more = drop (second + 1) behind in
      let front : List ℕ = one ++ 10 ∷ (two ++ 10 ∷ []) in
      let one_piece : IsPiece one = IsPiece-front bytes first (omega (arith, within)) none in
      let two_piece : IsPiece two = IsPiece-front behind second (omega (arith, inside)) piece in
      let parts : bytes ≡ front ++ more =
      split_at bytes first within is ∙ (ap (λ (r : List ℕ). one ++ 10 ∷ r) (split_at behind second inside also ∙ sym (append_assoc two (10 ∷ []) more)) ∙ sym (append_assoc one (10 ∷ (two ++ 10 ∷ [])) more)) in
      let long : length front ≡ first + second + 2 =
      omega (arith, length-append one (10 ∷ (two ++ 10 ∷ [])), length-append two (10 ∷ []), length-take-le first bytes (omega (arith, within)), length-take-le second behind (omega (arith, inside))) in
      let taken : take (first + second + 2) bytes ≡ front = ap (take (first + second + 2)) parts ∙ take_at front more (first + second + 2) long in
      let all : lines_of bytes ≡ line_of one ∷ line_of two ∷ lines_of more =
      lines_at bytes first within is none ∙ ap (λ (ls : List InputLine). line_of one ∷ ls) (lines_at behind second inside also piece) in
      let its : lines_of front ≡ line_of one ∷ line_of two ∷ [] =
      lines_ended one (two ++ 10 ∷ []) one_piece ∙ ap (λ (ls : List InputLine). line_of one ∷ ls) (lines_ended two [] two_piece ∙ ap (λ (ls : List InputLine). line_of two ∷ ls) lines_none) in
      record {
        rest = more;
        are = parts ∙ ap (λ (f : List ℕ). f ++ more) (sym taken);
        two = ap lines_of taken ∙ (its ∙ sym (ap (take 2) all));
      }

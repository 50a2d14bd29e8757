-- Bytes that are cut into lines, piece by piece.
use Rattle.std.proofs.Common.{◌≡◌, ℕ, zero, suc, ◌+◌, ◌-◌, ◌<◌, ◌≤◌, ◌==◌, List, [], ◌∷◌, ◌++◌, length, map, take, drop, get_or, nat_le, nat_lt, slice_index, slice_range, add-one, Bool, true, false, Option, Some, None, refl, sym, ap, subst, ◌∙◌, arith, append_assoc, append-nil, drop-cons, take-append-drop, inl, inr}
use Rattle.std.proofs.lemmas.Bool.{cases_eq, eqb-true, cases_lt, false_from_ne_true, le-leb, le-ltb, lt-leb, lt-ltb, ne_eqb}
use Rattle.std.proofs.lemmas.List.{drop-drop, drop-take, length-take, length-take-le, nil_from_length, take_all}
use Rattle.std.proofs.Math.Seq.{take-nil}
use Rattle.std.specs.Io.KnownBytes.{Consumes, IsAtEnd, Keeps, prepend_known}
use Rattle.rme_line_io.specs.declared.cut.Cut.TheVariants.{End}
use Rattle.rme_line_io.specs.Pieces.{IsPiece, PieceMoved, PieceTaken, WholeLineTaken, piece_to_newline, extended_line, line_of, lines_of, pieces, whole_lines_of, whole_pieces}
use Rattle.rme_line_io.specs.Cuts.{LineCut, KnownLineCut, cut_of, last_cut_of}

-- ---- pieces

pieces_byte : (b : ℕ) (bs seen : List ℕ) → (b == 10) ≡ false → pieces seen (b ∷ bs) ≡ pieces (seen ++ b ∷ []) bs
unfolding pieces
pieces_byte b bs seen e = rw e refl

pub pieces_piece : (piece seen rest : List ℕ) → IsPiece piece → pieces seen (piece ++ rest) ≡ pieces (seen ++ piece) rest
pieces_piece [] seen rest h = ap (λ s. pieces s rest) (sym (append-nil seen))
pieces_piece (b ∷ bs) seen rest h =
    pieces_byte b (bs ++ rest) seen h.0 ∙ pieces_piece bs (seen ++ b ∷ []) rest h.1 ∙ ap (λ s. pieces s rest) (append_assoc seen (b ∷ []) bs)

pieces_newline : (seen rest : List ℕ) → pieces seen (10 ∷ rest) ≡ seen ∷ pieces [] rest
unfolding pieces
pieces_newline seen rest = refl

-- a piece and its newline are a line
pub lines_ended : (piece rest : List ℕ) → IsPiece piece → lines_of (piece ++ 10 ∷ rest) ≡ line_of piece ∷ lines_of rest
unfolding lines_of
lines_ended piece rest h = ap (map line_of) (pieces_piece piece [] (10 ∷ rest) h ∙ pieces_newline piece rest)

pieces_end : (piece : List ℕ) → 0 < length piece → pieces piece [] ≡ piece ∷ []
unfolding pieces
pieces_end [] h = absurd (omega arith)
pieces_end (b ∷ bs) h = rw (ne_eqb (suc (length bs)) 0 (λ e. absurd (omega arith))) refl

-- a last piece without a newline is a line if it isn't empty
pub lines_last : (piece : List ℕ) → IsPiece piece → 0 < length piece → lines_of piece ≡ line_of piece ∷ []
unfolding lines_of
lines_last piece h some = ap (λ p. map line_of (pieces [] p)) (sym (append-nil piece)) ∙ ap (map line_of) (pieces_piece piece [] [] h ∙ pieces_end piece some)

pub lines_none : lines_of [] ≡ []
unfolding lines_of pieces
lines_none = refl

-- a piece has no line or one
pub lines_piece : (piece : List ℕ) → IsPiece piece → length (lines_of piece) ≤ 1
lines_piece [] h = let none = ap length lines_none in omega (arith, none)
lines_piece (b ∷ bs) h = let one = ap length (lines_last (b ∷ bs) h (omega arith)) in omega (arith, one)

pub IsPiece-append : (piece more : List ℕ) → IsPiece piece → IsPiece more → IsPiece (piece ++ more)
IsPiece-append [] more h k = k
IsPiece-append (b ∷ bs) more h k = (h.0, IsPiece-append bs more h.1 k)

-- bytes in which no newline was found
pub IsPiece-front : (bytes : List ℕ) (k : ℕ) → k ≤ length bytes → ((j : ℕ) → 0 ≤ j → j < k → ((slice_index bytes j == 10) ≡ true) → ⊥) → IsPiece (take k bytes)
IsPiece-front bytes zero within none = tt
IsPiece-front [] (suc k) within none = absurd (omega arith)
IsPiece-front (b ∷ bs) (suc k) within none =
    (false_from_ne_true _ (none 0 (omega arith) (omega arith)), IsPiece-front bs k (omega arith) (λ j low below e. none (suc j) (omega arith) (omega arith) e))

-- ---- the stored part of a line

kept_take : (most : ℕ) (seen piece : List ℕ) → extended_line most (take most seen) piece ≡ take most (seen ++ piece)
kept_take zero seen piece = refl
kept_take (suc most) [] piece = let e : suc most - 0 ≡ suc most = omega arith in rw e refl
kept_take (suc most) (b ∷ bs) piece =
    let e : suc most - suc (length (take most bs)) ≡ most - length (take most bs) = omega arith in rw e (ap (λ l. b ∷ l) (kept_take most bs piece))

-- the earlier bytes are the part of the line seen so far, followed by those left; `line` is the stored part of it
abbrev pub Saw : ℕ → Option (List ℕ) → Option (List ℕ) → List ℕ → Type 0
Saw most None now line = Unit {0}
Saw most (Some before) None line = ⊥
Saw most (Some before) (Some now) line = (seen : List ℕ) × (before ≡ seen ++ now) × IsPiece seen × (line ≡ take most seen)

pub saw_first : (most : ℕ) (bytes : Option (List ℕ)) → Saw most bytes bytes []
saw_first most None = tt
saw_first most (Some bytes) = ([], refl, tt, sym (take-nil most))

pub saw_same : (most : ℕ) (before now after : Option (List ℕ)) (line : List ℕ) → Saw most before now line → Keeps now after → Saw most before after line
saw_same most None now after line s k = tt
saw_same most (Some before) None after line s k = absurd s
saw_same most (Some before) (Some now) None line s k = absurd k
saw_same most (Some before) (Some now) (Some after) line (seen, e, piece, kept_of) k = (seen, e ∙ ap (λ l. seen ++ l) (sym k), piece, kept_of)

pub saw_more : (most : ℕ) (before now after : Option (List ℕ)) (line piece longer : List ℕ) → Saw most before now line → IsPiece piece → Consumes now after piece
    → longer ≡ extended_line most line piece → Saw most before after longer
saw_more most None now after line piece longer s p c e = tt
saw_more most (Some before) None after line piece longer s p c e = absurd s
saw_more most (Some before) (Some now) None line piece longer s p c e = absurd c
saw_more most (Some before) (Some now) (Some after) line piece longer (seen, f, h, g) p c e =
    (seen ++ piece, f ∙ ap (λ l. seen ++ l) c ∙ sym (append_assoc seen piece after), IsPiece-append seen piece h p, e ∙ ap (λ l. extended_line most l piece) g ∙ kept_take most seen piece)

-- ---- a whole line

cut_whole : (p line before after : List ℕ) → line ≡ take 65537 p → lines_of before ≡ line_of p ∷ lines_of after → KnownLineCut before after (cut_of line) line
cut_whole p line before after e f =
    elim (cases_lt 65536 (length p)) [
      | inl over ↦
          let long : length line ≡ 65537 = ap length e ∙ length-take-le 65537 p over in
          let cut : nat_lt 65536 (length line) ≡ true = lt-ltb _ _ (omega arith) in
          let read : nat_le (length p) 65536 ≡ false = lt-leb _ _ over in rw cut (f ∙ rw read refl)
      | inr within ↦
          let same : line ≡ p = e ∙ take_all 65537 p (omega arith) in
          let cut : nat_lt 65536 (length line) ≡ false = rw same (le-ltb _ _ within) in
          let read : nat_le (length p) 65536 ≡ true = le-leb _ _ within in rw cut (f ∙ rw (read, same) refl)
    ]

-- a newline was found after the piece
pub cuts_ended : (before now after : Option (List ℕ)) (line piece longer : List ℕ) → Saw 65537 before now line → IsPiece piece → Consumes now after (piece ++ 10 ∷ [])
    → longer ≡ extended_line 65537 line piece → LineCut before after (cut_of longer) longer
cuts_ended None now after line piece longer s p c e = tt
cuts_ended (Some before) None after line piece longer s p c e = absurd s
cuts_ended (Some before) (Some now) None line piece longer s p c e = absurd c
cuts_ended (Some before) (Some now) (Some after) line piece longer (seen, f, h, g) p c e =
    let all : before ≡ (seen ++ piece) ++ 10 ∷ after = f ∙ ap (λ l. seen ++ l) (c ∙ append_assoc piece (10 ∷ []) after) ∙ sym (append_assoc seen piece (10 ∷ after)) in
    cut_whole (seen ++ piece) longer before after (e ∙ ap (λ l. extended_line 65537 l piece) g ∙ kept_take 65537 seen piece)
    (ap lines_of all ∙ lines_ended (seen ++ piece) after (IsPiece-append seen piece h p))

-- the reader is at its end, with a last piece
pub cuts_last : (before now : Option (List ℕ)) (line : List ℕ) → Saw 65537 before now line → IsAtEnd now → 0 < length line → LineCut before now (cut_of line) line
cuts_last None now line s end some = tt
cuts_last (Some before) None line s end some = absurd s
cuts_last (Some before) (Some now) line (seen, f, h, g) end some =
    let all : before ≡ seen = f ∙ ap (λ l. seen ++ l) end ∙ append-nil seen in
    let seen_some : 0 < length seen = omega (arith, length-take 65537 seen, ap length g) in
    cut_whole seen line before now g (ap lines_of all ∙ lines_last seen h seen_some ∙ ap (λ l. line_of seen ∷ l) (sym (ap lines_of end ∙ lines_none)))

-- the reader is at its end, and no piece is left
pub cuts_none : (before now : Option (List ℕ)) (line : List ℕ) → Saw 65537 before now line → IsAtEnd now → line ≡ [] → LineCut before now End line
cuts_none None now line s end none = tt
cuts_none (Some before) None line s end none = absurd s
cuts_none (Some before) (Some now) line (seen, f, h, g) end none =
    let empty : length (take 65537 seen) ≡ 0 = ap length (sym g ∙ none) in
    let none_seen : length seen ≡ 0 = omega (arith, length-take 65537 seen) in
    ap lines_of (f ∙ ap (λ l. seen ++ l) end ∙ append-nil seen ∙ nil_from_length seen none_seen) ∙ lines_none

-- the reader is at its end
pub cuts_end : (before now : Option (List ℕ)) (line : List ℕ) → Saw 65537 before now line → IsAtEnd now → LineCut before now (last_cut_of line) line
cuts_end before now line s end =
    elim (cases_eq (length line) 0) [
      | inl none ↦ rw none (cuts_none before now line s end (nil_from_length line none))
      | inr some ↦ rw (ne_eqb (length line) 0 some) (cuts_last before now line s end (omega arith))
    ]

-- ---- a chunk

-- bytes that were removed from the front
pub moved : (left : Option (List ℕ)) (all taken rest : List ℕ) → all ≡ taken ++ rest → Consumes (prepend_known all left) (prepend_known rest left) taken
moved None all taken rest e = tt
moved (Some left) all taken rest e = ap (λ l. l ++ left) e ∙ append_assoc taken rest left

range_rest : (chunk : List ℕ) (start end k : ℕ) → k ≤ end - start → drop k (slice_range chunk start end) ≡ slice_range chunk (start + k) end
range_rest chunk start end k within =
    let e : end - start ≡ k + (end - (start + k)) = omega arith in rw (e, drop-take, drop-drop) refl

-- a newline is at the index
pub chunk_newline : (chunk : List ℕ) (start end at : ℕ) → at < length (slice_range chunk start end) → (slice_index (slice_range chunk start end) at == 10) ≡ true
    → slice_range chunk start end ≡ (take at (slice_range chunk start end) ++ 10 ∷ []) ++ slice_range chunk (start + (at + 1)) end
chunk_newline chunk start end at within is =
    let bytes = slice_range chunk start end in
    let newline : get_or bytes at 0 ≡ 10 = eqb-true _ _ is in
    let rest : drop (at + 1) bytes ≡ slice_range chunk (start + (at + 1)) end = range_rest chunk start end (at + 1) (omega (arith, length-take (end - start) (drop start chunk))) in
    let split : drop at bytes ≡ 10 ∷ drop (at + 1) bytes = rw (drop-cons bytes at 0 within, newline, add-one) refl in
    sym (take-append-drop at bytes) ∙ ap (λ l. take at bytes ++ l) (split ∙ ap (λ l. 10 ∷ l) rest) ∙ sym (append_assoc (take at bytes) (10 ∷ []) _)

pub chunk_end : (chunk : List ℕ) (start end : ℕ) → slice_range chunk start end ≡ slice_range chunk start end ++ slice_range chunk end end
chunk_end chunk start end = let none : end - end ≡ 0 = omega arith in rw none (sym (append-nil _))

pub IsPiece-all : (bytes : List ℕ) → ((j : ℕ) → 0 ≤ j → j < length bytes → ((slice_index bytes j == 10) ≡ true) → ⊥) → IsPiece bytes
IsPiece-all bytes none = let P : List ℕ → Type 0 = λ l. IsPiece l in subst P (take_all (length bytes) bytes (omega arith)) (IsPiece-front bytes (length bytes) (omega arith) none)

-- ---- a piece that was taken

pub cuts_taken : (before now after : Option (List ℕ)) (line longer : List ℕ) (found : Bool) → Saw 65537 before now line → PieceMoved now after found line longer → found ≡ true
    → LineCut before after (cut_of longer) longer
cuts_taken before now after line longer found s (piece, p, c, e) is =
    let P : Bool → Type 0 = λ b. Consumes now after (piece_to_newline b piece) in cuts_ended before now after line piece longer s p (subst P is c) e

pub saw_taken : (before now after : Option (List ℕ)) (line longer : List ℕ) (found : Bool) → Saw 65537 before now line → PieceMoved now after found line longer → found ≡ false
    → Saw 65537 before after longer
saw_taken before now after line longer found s (piece, p, c, e) is =
    let P : Bool → Type 0 = λ b. Consumes now after (piece_to_newline b piece) in saw_more 65537 before now after line piece longer s p (subst P is c) e

-- ---- the bytes of a line

-- the current line has no newline yet
pub piece_lost : (before now after : Option (List ℕ)) (line : List ℕ) → Saw 65537 before now line → Keeps now after → PieceTaken before after
piece_lost None now after line s k = tt
piece_lost (Some before) None after line s k = absurd s
piece_lost (Some before) (Some now) None line s k = absurd k
piece_lost (Some before) (Some now) (Some after) line (seen, e, piece, kept_of) k = (seen, piece, e ∙ ap (λ l. seen ++ l) (sym k))

pub whole_ended : (before now after : Option (List ℕ)) (line piece : List ℕ) → Saw 65537 before now line → IsPiece piece → Consumes now after (piece ++ 10 ∷ []) → WholeLineTaken before after
whole_ended None now after line piece s p c = tt
whole_ended (Some before) None after line piece s p c = absurd s
whole_ended (Some before) (Some now) None line piece s p c = absurd c
whole_ended (Some before) (Some now) (Some after) line piece (seen, f, h, g) p c =
    (seen ++ piece, IsPiece-append seen piece h p, f ∙ ap (λ l. seen ++ l) (c ∙ append_assoc piece (10 ∷ []) after) ∙ sym (append_assoc seen piece (10 ∷ after)))

-- its newline was found
pub whole_taken : (before now after : Option (List ℕ)) (line longer : List ℕ) (found : Bool) → Saw 65537 before now line → PieceMoved now after found line longer → found ≡ true → WholeLineTaken before after
whole_taken before now after line longer found s (piece, p, c, e) is =
    let P : Bool → Type 0 = λ b. Consumes now after (piece_to_newline b piece) in whole_ended before now after line piece s p (subst P is c)

-- ---- the lines whose newlines are present

whole_byte : (b : ℕ) (bs seen : List ℕ) → (b == 10) ≡ false → whole_pieces seen (b ∷ bs) ≡ whole_pieces (seen ++ b ∷ []) bs
unfolding whole_pieces
whole_byte b bs seen e = rw e refl

whole_piece : (piece seen rest : List ℕ) → IsPiece piece → whole_pieces seen (piece ++ rest) ≡ whole_pieces (seen ++ piece) rest
whole_piece [] seen rest h = ap (λ s. whole_pieces s rest) (sym (append-nil seen))
whole_piece (b ∷ bs) seen rest h =
    whole_byte b (bs ++ rest) seen h.0 ∙ whole_piece bs (seen ++ b ∷ []) rest h.1 ∙ ap (λ s. whole_pieces s rest) (append_assoc seen (b ∷ []) bs)

whole_newline : (seen rest : List ℕ) → whole_pieces seen (10 ∷ rest) ≡ seen ∷ whole_pieces [] rest
unfolding whole_pieces
whole_newline seen rest = refl

whole_nil : (seen : List ℕ) → whole_pieces seen [] ≡ []
unfolding whole_pieces
whole_nil seen = refl

-- no line is whole in a piece
pub whole_lines_piece : (piece : List ℕ) → IsPiece piece → whole_lines_of piece ≡ []
unfolding whole_lines_of
whole_lines_piece piece h =
    ap (λ p. map line_of (whole_pieces [] p)) (sym (append-nil piece)) ∙ ap (map line_of) (whole_piece piece [] [] h ∙ whole_nil piece)

-- a piece and its newline are a whole line
pub whole_lines_ended : (piece rest : List ℕ) → IsPiece piece → whole_lines_of (piece ++ 10 ∷ rest) ≡ line_of piece ∷ whole_lines_of rest
unfolding whole_lines_of
whole_lines_ended piece rest h = ap (map line_of) (whole_piece piece [] (10 ∷ rest) h ∙ whole_newline piece rest)

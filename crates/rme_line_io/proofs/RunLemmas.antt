-- A run continues by one line.
use Rattle.std.proofs.Common.{◌≡◌, ℕ, List, [], ◌∷◌, ◌++◌, ◌<◌, ◌≤◌, length, arith, Bool, true, false, Option, Some, None, refl, sym, ap, subst, ◌∙◌, append_assoc, append-nil}
use Rattle.std.proofs.Common.{inl, inr}
use Rattle.std.proofs.lemmas.Bool.{cases_Bool}
use Rattle.std.proofs.lemmas.List.{length-append, nil_from_length}
use Rattle.std.specs.Io.KnownBytes.{Appends, IsAtEnd}
use Rattle.std.proofs.KnownBytes.{Appends-nil, Appends-trans}
use Rattle.rme_line_io.specs.declared.cut.Cut.{Cut}
use Rattle.rme_line_io.specs.declared.cut.Cut.TheVariants.{Line, TooLong, End}
use Rattle.rme_line_io.specs.declared.fault.EngineFault.{EngineFault}
use Rattle.rme_line_io.specs.declared.fault.EngineFault.TheVariants.{ReadFailed, WriteFailed, NoMemory}
use Rattle.rme_line_io.specs.Cuts.{LineCut, input_line_of}
use Rattle.rme_line_io.specs.Pieces.{InputLine, PieceTaken, WholeLineTaken, line_of, lines_of, whole_lines_of}
use Rattle.rme_line_io.specs.BufferedWrites.{WritesPrefix, BufferedWrite}
use Rattle.rme_line_io.specs.declared.lines.LineReader.{LineReader}
use Rattle.rme_line_io.specs.Readers.{ReadFailure, BufferWrittenSince, NothingRead, most_lines}
use Rattle.rme_line_io.specs.StreamEvents.{StreamMoment}
use Rattle.rme_line_io.proofs.PutLemmas.{front_after, gathered_front, gathered_put}
use Rattle.rme_line_io.proofs.ReaderLemmas.{CameOn, came_no_more, came_to_fail}
use Rattle.rme_line_io.proofs.PieceLemmas.{lines_ended, lines_none, lines_piece, whole_lines_ended, whole_lines_piece}
use Rattle.rme_line_io.specs.LineRuns.{LinesReadButLast, AreInputLines, InputBeginsWith, FirstLineCut, RunEndsOnFault, NoLineLeft, AnswersArePrompt, LineRun, FaultBeforeLine, AtMostOneLineTaken, LineRunStepFails, LineRunStep, LinesWereRead, RunMoment, RunWritesFirst, RunWritesTo, all_bytes}

-- ---- the lines of the input

-- the input's lines are those that were taken, followed by those left
abbrev pub LeftOf : Option (List ℕ) → Option (List ℕ) → List InputLine → Type 0
LeftOf None left lines = Unit {0}
LeftOf (Some bytes) None lines = ⊥
LeftOf (Some bytes) (Some left) lines = lines_of bytes ≡ lines ++ lines_of left

left_first : (input : Option (List ℕ)) → LeftOf input input []
left_first None = tt
left_first (Some bytes) = refl

left_more : (input left later : Option (List ℕ)) (lines : List InputLine) (line : InputLine) → LeftOf input left lines → FirstLineCut left later line → LeftOf input later (lines ++ line ∷ [])
left_more None left later lines line l c = tt
left_more (Some bytes) None later lines line l c = absurd l
left_more (Some bytes) (Some left) None lines line l c = absurd c
left_more (Some bytes) (Some left) (Some later) lines line l c = l ∙ ap (λ ls. lines ++ ls) c ∙ sym (append_assoc lines (line ∷ []) (lines_of later))

left_none : (input left : Option (List ℕ)) (lines : List InputLine) → LeftOf input left lines → NoLineLeft left → AreInputLines input lines
left_none None left lines l n = tt
left_none (Some bytes) None lines l n = absurd l
left_none (Some bytes) (Some left) lines l n = l ∙ ap (λ ls. lines ++ ls) n ∙ append-nil lines

left_begins : (input left : Option (List ℕ)) (lines : List InputLine) → LeftOf input left lines → InputBeginsWith input lines
left_begins None left lines l = tt
left_begins (Some bytes) None lines l = absurd l
left_begins (Some bytes) (Some left) lines l = (lines_of left, l)

left_begins_more : (input left : Option (List ℕ)) (lines more : List InputLine) → LeftOf input left lines → InputBeginsWith left more → InputBeginsWith input (lines ++ more)
left_begins_more None left lines more l b = tt
left_begins_more (Some bytes) None lines more l b = absurd l
left_begins_more (Some bytes) (Some left) lines more l (rest, e) = (rest, l ∙ ap (λ ls. lines ++ ls) e ∙ sym (append_assoc lines more rest))

begins_none : (input : Option (List ℕ)) → InputBeginsWith input []
begins_none None = tt
begins_none (Some bytes) = (lines_of bytes, refl)

-- the bytes that were taken are those of whole lines, whatever follows them
abbrev pub ReadOff : Option (List ℕ) → Option (List ℕ) → List InputLine → Type 0
ReadOff None left lines = Unit {0}
ReadOff (Some bytes) None lines = ⊥
ReadOff (Some bytes) (Some left) lines =
    (front : List ℕ) × (bytes ≡ front ++ left) × ((rest : List ℕ) → whole_lines_of (front ++ rest) ≡ lines ++ whole_lines_of rest)
    × ((rest : List ℕ) → lines_of (front ++ rest) ≡ lines ++ lines_of rest)

off_first : (input : Option (List ℕ)) → ReadOff input input []
off_first None = tt
off_first (Some bytes) = ([], refl, λ rest. refl, λ rest. refl)

abbrev first_of : List InputLine → InputLine → InputLine
first_of [] other = other
first_of (line ∷ lines) other = line

same_line : (line other : InputLine) (lines : List InputLine) → line ∷ lines ≡ other ∷ lines → line ≡ other
same_line line other lines e = ap (λ (ls : List InputLine). first_of ls line) e

off_more : (input left later : Option (List ℕ)) (lines : List InputLine) (line : InputLine) → ReadOff input left lines → FirstLineCut left later line → WholeLineTaken left later
    → ReadOff input later (lines ++ line ∷ [])
off_more None left later lines line o c t = tt
off_more (Some bytes) None later lines line o c t = absurd o
off_more (Some bytes) (Some left) None lines line o c t = absurd c
off_more (Some bytes) (Some left) (Some later) lines line (front, e, closes, lies) c (piece, is, f) =
    let one : line ≡ line_of piece = same_line line (line_of piece) (lines_of later) (sym c ∙ ap lines_of f ∙ lines_ended piece later is) in (
      front ++ (piece ++ 10 ∷ []),
      e ∙ ap (λ l. front ++ l) (f ∙ sym (append_assoc piece (10 ∷ []) later)) ∙ sym (append_assoc front (piece ++ 10 ∷ []) later),
      λ rest.
          ap whole_lines_of (append_assoc front (piece ++ 10 ∷ []) rest ∙ ap (λ l. front ++ l) (append_assoc piece (10 ∷ []) rest)) ∙ closes (piece ++ 10 ∷ rest)
          ∙ ap (λ ls. lines ++ ls) (whole_lines_ended piece rest is ∙ ap (λ (l : InputLine). l ∷ whole_lines_of rest) (sym one)) ∙ sym (append_assoc lines (line ∷ []) (whole_lines_of rest)),
      λ rest.
          ap lines_of (append_assoc front (piece ++ 10 ∷ []) rest ∙ ap (λ l. front ++ l) (append_assoc piece (10 ∷ []) rest)) ∙ lies (piece ++ 10 ∷ rest)
          ∙ ap (λ ls. lines ++ ls) (lines_ended piece rest is ∙ ap (λ (l : InputLine). l ∷ lines_of rest) (sym one)) ∙ sym (append_assoc lines (line ∷ []) (lines_of rest)),
    )

-- the reader failed within a line
off_failed : (input left later : Option (List ℕ)) (lines : List InputLine) → ReadOff input left lines → PieceTaken left later → LinesWereRead input later lines
off_failed None left later lines o t = tt
off_failed (Some bytes) None later lines o t = absurd o
off_failed (Some bytes) (Some left) None lines o t = absurd t
off_failed (Some bytes) (Some left) (Some later) lines (front, e, closes, lies) (piece, is, f) =
    (front ++ piece, e ∙ ap (λ l. front ++ l) f ∙ sym (append_assoc front piece later), closes piece ∙ ap (λ ls. lines ++ ls) (whole_lines_piece piece is) ∙ append-nil lines)

-- a part of a line has no line or one
piece_one : (left later : Option (List ℕ)) → PieceTaken left later → AtMostOneLineTaken left later
piece_one None later t = tt
piece_one (Some left) None t = absurd t
piece_one (Some left) (Some later) (piece, is, f) = (piece, f, lines_piece piece is)

-- a line that was cut with its newline, or at the end, is one line
one_cut : (left later : Option (List ℕ)) (line : InputLine) (ended : Bool) → FirstLineCut left later line → (ended ≡ false → WholeLineTaken left later) → (ended ≡ true → IsAtEnd later) → AtMostOneLineTaken left later
one_cut None later line ended c whole end = tt
one_cut (Some left) None line ended c whole end = absurd c
one_cut (Some left) (Some later) line false c whole end =
    let (piece, is, f) = whole refl in (
      piece ++ 10 ∷ [],
      f ∙ sym (append_assoc piece (10 ∷ []) later),
      let one = ap length (lines_ended piece [] is ∙ ap (λ ls. line_of piece ∷ ls) lines_none) in omega (arith, one),
    )
one_cut (Some left) (Some later) line true c whole end =
    let one = ap length (c ∙ ap (λ ls. line ∷ ls) (ap lines_of (end refl) ∙ lines_none)) in
    (left, sym (append-nil left) ∙ ap (λ l. left ++ l) (sym (end refl)), omega (arith, one))

-- memory was refused within a line, or after it was taken
off_wanting : (input left later : Option (List ℕ)) (lines : List InputLine) → ReadOff input left lines → AtMostOneLineTaken left later → LinesReadButLast input later lines
off_wanting None left later lines o t = tt
off_wanting (Some bytes) None later lines o t = absurd o
off_wanting (Some bytes) (Some left) None lines o t = absurd t
off_wanting (Some bytes) (Some left) (Some later) lines (front, e, closes, lies) (read, f, one) =
    (front ++ read, lines_of read, e ∙ ap (λ l. front ++ l) f ∙ sym (append_assoc front read later), lies read, one)

-- the whole input was read before
end_wanting : (input left later : Option (List ℕ)) (lines : List InputLine) → LeftOf input left lines → IsAtEnd left → AtMostOneLineTaken left later → LinesReadButLast input later lines
end_wanting None left later lines l end t = tt
end_wanting (Some bytes) None later lines l end t = absurd l
end_wanting (Some bytes) (Some left) None lines l end t = absurd t
end_wanting (Some bytes) (Some left) (Some later) lines l end (read, f, one) =
    let short = ap length (sym f ∙ end) in
    let none : later ≡ [] = nil_from_length later (omega (arith, short, length-append read later)) in
    (bytes, [], sym (append-nil bytes) ∙ ap (λ b. bytes ++ b) (sym none), l ∙ ap (λ ls. lines ++ ls) (ap lines_of end ∙ lines_none), omega arith)

none_wanting : (input : Option (List ℕ)) → LinesReadButLast input input []
none_wanting None = tt
none_wanting (Some bytes) = ([], [], refl, lines_none, omega arith)

-- ---- the cut of one iteration

pub cut_off : (left later : Option (List ℕ)) (cut : Cut) (line : List ℕ) → LineCut left later cut line → (cut ≡ End → ⊥) → FirstLineCut left later (input_line_of cut line)
cut_off None later cut line c ne = tt
cut_off (Some before) None cut line c ne = absurd c
cut_off (Some before) (Some after) Line line c ne = c
cut_off (Some before) (Some after) TooLong line c ne = c
cut_off (Some before) (Some after) End line c ne = absurd (ne refl)

pub none_left : (left later : Option (List ℕ)) (cut : Cut) (line : List ℕ) → LineCut left later cut line → cut ≡ End → NoLineLeft left
none_left None later cut line c e = tt
none_left (Some before) None cut line c e = absurd c
none_left (Some before) (Some after) cut line c e = let P : Cut → Type 0 = λ x. LineCut (Some before) (Some after) x line in subst P e c

begins_off : (left later : Option (List ℕ)) (line : InputLine) → FirstLineCut left later line → InputBeginsWith left (line ∷ [])
begins_off None later line c = tt
begins_off (Some before) None line c = absurd c
begins_off (Some before) (Some after) line c = (lines_of after, c)

-- ---- the run so far

all_bytes-append : (all more : List (List ℕ)) → all_bytes (all ++ more) ≡ all_bytes all ++ all_bytes more
all_bytes-append [] more = refl
all_bytes-append (a ∷ all) more = ap (λ l. a ++ l) (all_bytes-append all more) ∙ sym (append_assoc a (all_bytes all) (all_bytes more))

still : (ended ends : Bool) → (ended ≡ true → ends ≡ true) → ends ≡ false → ended ≡ false
still true ends stays going = let bad : true ≡ false = sym (stays refl) ∙ going in cc
still false ends stays going = refl

module _ {S : Type 0} (has : S → InputLine → List ℕ → S → Type 0) where
  run_on : (old mid new : S) (lines more : List InputLine) (all others : List (List ℕ)) → LineRun has old lines all mid → LineRun has mid more others new → LineRun has old (lines ++ more) (all ++ others) new
  run_on old mid new [] more [] others run rest = let P : S → Type 0 = λ s. LineRun has s more others new in subst P run rest
  run_on old mid new [] more (a ∷ all) others run rest = absurd run
  run_on old mid new (l ∷ lines) more [] others run rest = absurd run
  run_on old mid new (l ∷ lines) more (a ∷ all) others (next, first, run) rest = (next, first, run_on next mid new lines more all others run rest)

  -- the bytes of the earlier lines were written, except the buffered ones; the other lines are left
  pub record SoFar (first : S) (start : StreamMoment) (now : S) (at : RunMoment) : Type 0 where
    pub lines : List InputLine
    pub all : List (List ℕ)
    pub run : LineRun has first lines all now
    pub front : List ℕ
    pub put : Appends start.held at.held front
    pub rest : front ++ at.pending ≡ all_bytes all
    pub of : LeftOf start.left at.left lines
    pub off : at.ended ≡ false → ReadOff start.left at.left lines
    pub end : at.ended ≡ true → IsAtEnd at.left

  pub so_far_first : (start : StreamMoment) (ended : Bool) (first now : S) (pending : List ℕ) → now ≡ first → pending ≡ [] → (ended ≡ true → IsAtEnd start.left)
      → SoFar first start now record { left = start.left; ended = ended; held = start.held; pending = pending }
  so_far_first start ended first now pending e none end = record {
    lines = [];
    all = [];
    run = e;
    front = [];
    put = Appends-nil start.held;
    rest = none;
    of = left_first start.left;
    off = λ _. off_first start.left;
    end = end;
  }

  -- the buffer was written
  all_put : (before held holds : Option (List ℕ)) (front kept all : List ℕ) → Appends before held front → front ++ kept ≡ all → Appends held holds kept → Appends before holds all
  all_put before held holds front kept all put e more =
      let P : List ℕ → Type 0 = λ l. Appends before holds l in subst P e (Appends-trans before held holds front kept put more)

  module _ (first : S) (start : StreamMoment) (now : S) (at : RunMoment) (so : SoFar first start now at) where
    pub so_far_more : (new : S) (next : RunMoment) → (at.ended ≡ true → next.ended ≡ true) → LineRunStep has now new at next true → (next.ended ≡ true → IsAtEnd next.left) → SoFar first start new next
    so_far_more new next stays (line, bytes, cuts, had, gathers, whole) end = record {
      lines = so.lines ++ line ∷ [];
      all = so.all ++ bytes ∷ [];
      run = run_on first now new so.lines (line ∷ []) so.all (bytes ∷ []) so.run (new, had, refl);
      front = so.front ++ gathers.front;
      put = Appends-trans start.held at.held next.held so.front gathers.front so.put gathers.put;
      rest = append_assoc so.front gathers.front next.pending ∙ ap (λ l. so.front ++ l) (sym gathers.rest) ∙ sym (append_assoc so.front at.pending bytes) ∙ ap (λ l. l ++ bytes) so.rest
          ∙ sym (all_bytes-append so.all (bytes ∷ []) ∙ ap (λ l. all_bytes so.all ++ l) (append-nil bytes));
      of = left_more start.left at.left next.left so.lines line so.of cuts;
      off = λ going. off_more start.left at.left next.left so.lines line (so.off (still at.ended next.ended stays going)) cuts (whole going);
      end = end;
    }

    whole_put : (holds : Option (List ℕ)) → Appends at.held holds at.pending → Appends start.held holds (all_bytes so.all)
    whole_put holds more = all_put start.held at.held holds so.front at.pending (all_bytes so.all) so.put so.rest more

    -- a read that is made then comes after the bytes of all lines that were taken
    pub prompt_at : at.ended ≡ false → (moment : StreamMoment) → BufferWrittenSince at.left at.held at.pending moment → AnswersArePrompt has first start moment
    prompt_at going moment (piece, put) =
        (so.lines, so.all, now, so.run, off_failed start.left at.left moment.left so.lines (so.off going) piece, whole_put moment.held put)

    pub finished : (new : S) (next : RunMoment) → LineRunStep has now new at next false → RunWritesTo has first start next.held new
    finished new next (none, more, same) =
        let P : S → Type 0 = λ last. LineRun has first so.lines so.all last in
        (so.lines, so.all, subst P (sym same) so.run, left_none start.left at.left so.lines so.of none, whole_put next.held more)

    wanting : (later : Option (List ℕ)) → AtMostOneLineTaken at.left later → LinesReadButLast start.left later so.lines
    wanting later one =
        elim (cases_Bool at.ended) [
          | inl is ↦ end_wanting start.left at.left later so.lines so.of (so.end is) one
          | inr not ↦ off_wanting start.left at.left later so.lines (so.off not) one
        ]

    -- the first lines were taken, and their bytes, or a prefix of them, were written
    spilt_first : (end : StreamMoment) → AtMostOneLineTaken at.left end.left → Appends at.held end.held at.pending → RunWritesFirst has first NoMemory start end
    spilt_first end one more = (so.lines, so.all, now, so.run, (left_begins start.left at.left so.lines so.of, wanting end.left one, whole_put end.held more))

    front_first : (end : StreamMoment) (new : S) (taken : List InputLine) (all : List (List ℕ)) → LineRun has now taken all new → InputBeginsWith at.left taken
        → WritesPrefix at.held end.held (at.pending ++ all_bytes all) → RunWritesFirst has first WriteFailed start end
    front_first end new taken all run begins front =
        let e : so.front ++ (at.pending ++ all_bytes all) ≡ all_bytes (so.all ++ all) =
        sym (append_assoc so.front at.pending (all_bytes all)) ∙ ap (λ l. l ++ all_bytes all) so.rest ∙ sym (all_bytes-append so.all all) in (
          so.lines ++ taken,
          so.all ++ all,
          new,
          run_on first now new so.lines taken so.all all so.run run,
          (
            left_begins_more start.left at.left so.lines taken so.of begins,
            front_after start.held at.held end.held so.front (at.pending ++ all_bytes all) (all_bytes (so.all ++ all)) so.put front e,
          ),
        )

    failed_still : (fault last : EngineFault) (end : StreamMoment) → last ≡ fault → RunWritesFirst has first fault start end → RunWritesFirst has first last start end
    failed_still fault last end same writes = let P : EngineFault → Type 0 = λ f. RunWritesFirst has first f start end in subst P (sym same) writes

    -- an iteration failed, and the run ended
    pub failed : (next : RunMoment) (holds : Option (List ℕ)) (fault last : EngineFault) → (fault ≡ ReadFailed → at.ended ≡ false) → LineRunStepFails has fault now at next
        → RunEndsOnFault fault next.held next.pending holds last → RunWritesFirst has first last start record { left = next.left; held = holds }
    failed next holds ReadFailed last going (piece, put) (same, still_held) =
        let P : Option (List ℕ) → Type 0 = λ h. Appends at.held h at.pending in
        failed_still ReadFailed last record { left = next.left; held = holds } same
        (so.lines, so.all, now, so.run, (off_failed start.left at.left next.left so.lines (so.off (going refl)) piece, whole_put holds (subst P (sym still_held) put)))
    failed next holds NoMemory NoMemory going (one, gathers) put =
        spilt_first record { left = next.left; held = holds } one (gathered_put at.held next.held holds at.pending next.pending gathers put)
    failed next holds NoMemory WriteFailed going (one, gathers) front =
        let P : List ℕ → Type 0 = λ l. WritesPrefix at.held holds l in
        front_first record { left = next.left; held = holds } now [] [] refl (begins_none at.left) (subst P (sym (append-nil at.pending)) (gathered_front at.held next.held holds at.pending next.pending gathers front))
    failed next holds NoMemory ReadFailed going gathers never = absurd never
    failed next holds WriteFailed last going (taken, all, new, run, begins, front) (same, still_held) =
        let P : Option (List ℕ) → Type 0 = λ h. WritesPrefix at.held h (at.pending ++ all_bytes all) in
        failed_still WriteFailed last record { left = next.left; held = holds } same
        (front_first record { left = next.left; held = holds } new taken all run begins (subst P (sym still_held) front))

  -- memory was refused before the first line
  pub failed_first : (first : S) (start : StreamMoment) → RunWritesFirst has first NoMemory start start
  failed_first first start = ([], [], first, refl, (begins_none start.left, none_wanting start.left, Appends-nil start.held))

  module _ (old : S) (before after : RunMoment) where
    -- no line could be read
    pub spilt : (fault : EngineFault) → FaultBeforeLine fault before after → LineRunStepFails has fault old before after
    spilt ReadFailed s = s
    spilt NoMemory (piece, gathers) = (piece_one before.left after.left piece, gathers)
    spilt WriteFailed s =
        let P : List ℕ → Type 0 = λ l. WritesPrefix before.held after.held l in ([], [], old, refl, begins_none before.left, subst P (sym (append-nil before.pending)) s)

    -- memory for the answer to the line was refused
    pub told_failed : (ended : Bool) (line : InputLine) → FirstLineCut before.left after.left line → (ended ≡ false → WholeLineTaken before.left after.left) → (ended ≡ true → IsAtEnd after.left)
        → BufferedWrite before.held before.pending [] after.held after.pending → LineRunStepFails has NoMemory old before after
    told_failed ended line cuts whole end gathers = (one_cut before.left after.left line ended cuts whole end, gathers)

    -- the line's bytes could not be written
    pub put_failed : (mid : Option (List ℕ)) (new : S) (line : InputLine) (keeps bytes : List ℕ) → FirstLineCut before.left after.left line → has old line bytes new
        → BufferedWrite before.held before.pending [] mid keeps → WritesPrefix mid after.held (keeps ++ bytes) → LineRunStepFails has WriteFailed old before after
    put_failed mid new line keeps bytes cuts had gathers front =
        let e : gathers.front ++ (keeps ++ bytes) ≡ before.pending ++ (bytes ++ []) =
        sym (append_assoc gathers.front keeps bytes) ∙ ap (λ l. l ++ bytes) (sym gathers.rest ∙ append-nil before.pending) ∙ ap (λ l. before.pending ++ l) (sym (append-nil bytes)) in (
          line ∷ [],
          bytes ∷ [],
          new,
          (new, had, refl),
          begins_off before.left after.left line cuts,
          front_after before.held mid after.held gathers.front (keeps ++ bytes) (before.pending ++ (bytes ++ [])) gathers.put front e,
        )

-- ---- the reader

pub came_turn : {R : Type 0} (old now new : LineReader R) → CameOn old now [] → (now.ended ≡ true → NothingRead now new) → new.reads ≤ now.reads → most_lines new < most_lines now → CameOn old new []
came_turn old now new came ended reads fewer = record {
  ended = came_no_more old now new came.ended ended;
  reads = omega (arith, came.reads, reads);
  most = omega (arith, came.most, fewer);
  fewer = λ some. absurd (omega (arith, some));
}

pub fails_to_read : {R : Type 0} (old now new : LineReader R) → CameOn old now [] → ReadFailure now new → ReadFailure old new
fails_to_read old now new came failed = came_to_fail old now new [] came failed

-- The moments of the reads of consecutive calls.
use Rattle.std.proofs.Common.{◌≡◌, ℕ, List, [], ◌++◌, true, Option, Some, None, refl, sym, ap, subst, ◌∙◌, append_assoc, inl, inr}
use Rattle.std.proofs.lemmas.Bool.{cases_Bool}
use Rattle.std.proofs.lemmas.List.Elements.{All-append, All-nil}
use Rattle.std.specs.Io.KnownBytes.{Appends, Keeps}
use Rattle.rme_line_io.specs.declared.lines.LineReader.{LineReader}
use Rattle.rme_line_io.specs.Pieces.{InputLine, PieceTaken}
use Rattle.rme_line_io.specs.Readers.{BufferWrittenSince, NoNewlineSince, ReadsMadeAt, NothingRead, ChunkConsumed}
use Rattle.rme_line_io.specs.LineRuns.{AnswersArePrompt, RunMoment}
use Rattle.rme_line_io.specs.StreamEvents.{ListGrows, StreamMoment}
use Rattle.rme_line_io.proofs.PieceLemmas.{IsPiece-append, Saw}
use Rattle.rme_line_io.proofs.RunLemmas.{SoFar, prompt_at}
use Rattle.rme_line_io.proofs.TrafficLemmas.{grows_more, grows_none}

-- a piece was taken after another
piece_still : (before now left : Option (List ℕ)) (line : List ℕ) → Saw 65537 before now line → PieceTaken now left → PieceTaken before left
piece_still None now left line s t = tt
piece_still (Some before) None left line s t = absurd s
piece_still (Some before) (Some now) None line s t = absurd t
piece_still (Some before) (Some now) (Some left) line (seen, e, piece, kept_of) (more, is, f) =
    (seen ++ more, IsPiece-append seen more piece is, e ∙ ap (λ l. seen ++ l) f ∙ sym (append_assoc seen more left))

-- nothing was taken before a piece
kept_piece : (left later last : Option (List ℕ)) → Keeps left later → PieceTaken later last → PieceTaken left last
kept_piece None later last k t = tt
kept_piece (Some bytes) None last k t = absurd k
kept_piece (Some bytes) (Some more) last k t = let P : List ℕ → Type 0 = λ l. PieceTaken (Some l) last in subst P k t

module _ {R : Type 0} (moments : R → Option (List StreamMoment)) where
  pub read_same : (old new : LineReader R) (Is : StreamMoment → Type 0) → new.reader ≡ old.reader → ReadsMadeAt moments old new Is
  read_same old new Is same =
      let P : R → Type 0 = λ r. ListGrows (moments old.reader) (moments r) [] in ([], subst P (sym same) (grows_none (moments old.reader)), All-nil Is)

  pub read_none : (lines : LineReader R) (Is : StreamMoment → Type 0) → ReadsMadeAt moments lines lines Is
  read_none lines Is = read_same lines lines Is refl

  pub read_more : (old mid new : LineReader R) (Is : StreamMoment → Type 0) → ReadsMadeAt moments old mid Is → ReadsMadeAt moments mid new Is → ReadsMadeAt moments old new Is
  read_more old mid new Is (made, g, all) (more, h, others) =
      (made ++ more, grows_more (moments old.reader) (moments mid.reader) (moments new.reader) made more g h, All-append Is made more all others)

  read_as : (old new : LineReader R) (Is Of : StreamMoment → Type 0) → ((moment : StreamMoment) → Is moment → Of moment) → ReadsMadeAt moments old new Is → ReadsMadeAt moments old new Of
  read_as old new Is Of so (made, g, all) = (made, g, λ k d lt. so _ (all k d lt))

  -- bytes of the chunk are taken after reads
  pub read_on : (old mid new : LineReader R) (Is : StreamMoment → Type 0) → ReadsMadeAt moments old mid Is → ChunkConsumed mid new → ReadsMadeAt moments old new Is
  read_on old mid new Is made on = read_more old mid new Is made (read_same mid new Is on.reader)

  -- further reads within a line, of which this part was seen
  pub read_within : (before left held : Option (List ℕ)) (line : List ℕ) (old now new : LineReader R) → ReadsMadeAt moments old now (NoNewlineSince before held) → Saw 65537 before left line
      → ReadsMadeAt moments now new (NoNewlineSince left held) → ReadsMadeAt moments old new (NoNewlineSince before held)
  read_within before left held line old now new made saw more =
      read_more old now new (NoNewlineSince before held) made (read_as now new (NoNewlineSince left held) (NoNewlineSince before held) (λ moment is. (piece_still before left moment.left line saw is.0, is.1)) more)

  -- reads after the whole buffer was written
  pub read_put : (left later before held : Option (List ℕ)) (kept : List ℕ) (old mid new : LineReader R) → ChunkConsumed old mid → Keeps left later → Appends before held kept
      → ReadsMadeAt moments mid new (NoNewlineSince later held) → ReadsMadeAt moments old new (BufferWrittenSince left before kept)
  read_put left later before held kept old mid new on keeps put made =
      read_more old mid new (BufferWrittenSince left before kept) (read_same old mid (BufferWrittenSince left before kept) on.reader)
      (read_as mid new (NoNewlineSince later held) (BufferWrittenSince left before kept)
      (λ moment is. (kept_piece left later moment.left keeps is.0, let P : Option (List ℕ) → Type 0 = λ h. Appends before h kept in subst P (sym is.1) put)) made)

  module _ {S : Type 0} (has : S → InputLine → List ℕ → S → Type 0) where
    -- the reads of one iteration: none once a read gave no byte
    pub prompt_turn : (first : S) (start : StreamMoment) (now : S) (at : RunMoment) → SoFar has first start now at → (old mid new : LineReader R) → ReadsMadeAt moments old mid (AnswersArePrompt has first start)
        → mid.ended ≡ at.ended → (mid.ended ≡ true → NothingRead mid new) → ReadsMadeAt moments mid new (BufferWrittenSince at.left at.held at.pending)
        → ReadsMadeAt moments old new (AnswersArePrompt has first start)
    prompt_turn first start now at so old mid new made same ended more =
        elim (cases_Bool mid.ended) [
          | inl is ↦ read_more old mid new (AnswersArePrompt has first start) made (read_same mid new (AnswersArePrompt has first start) (ended is).reader)
          | inr going ↦
              read_more old mid new (AnswersArePrompt has first start) made
              (read_as mid new (BufferWrittenSince at.left at.held at.pending) (AnswersArePrompt has first start) (λ moment is. prompt_at has first start now at so (sym same ∙ going) moment is) more)
        ]

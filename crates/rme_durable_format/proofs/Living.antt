-- The lives that lines read one by one lead to.
use Rattle.std.proofs.Common.{◌≡◌, ◌≢◌, ℕ, List, refl, sym, ◌∙◌, ap, subst}
use Rattle.std.specs.Prelude.{Option, Some, None}
use Rattle.std.specs.Io.KnownBytes.{Keeps}
use Rattle.std.proofs.lemmas.Option.{same_Some}
use Rattle.rme_line_io.specs.Cuts.{LineCut, KnownLineCut, input_line_of}
use Rattle.rme_line_io.specs.Pieces.{InputLine, lines_of, text}
use Rattle.rme_line_io.specs.declared.cut.Cut.{Cut}
use Rattle.rme_line_io.specs.declared.cut.Cut.TheVariants.{Line, TooLong, End}
use Rattle.rme_line_engine.specs.EngineStates.{EngineState, nothing_open}
use Rattle.rme_wire.specs.Requests.{request_read}
use Rattle.rme_durable_format.specs.Lives.{CountsKnownLives, CountsLives, RecoversLives, lives_after_request}
use Rattle.rme_durable_format.specs.Recovery.{AcceptsLine}

-- Lives to which the remaining lines lead are those to which all lines lead.
pub record LivesLead (first : Option (List ℕ)) (start : EngineState) (before : List ℕ) (left : Option (List ℕ)) (now : EngineState) (lives : List ℕ) : Type 0 where
  pub on : (new : EngineState) (later : List ℕ) → CountsKnownLives left now new lives later → CountsKnownLives first start new before later

pub lives_first : (first : Option (List ℕ)) (start : EngineState) (lives : List ℕ) → LivesLead first start lives first start lives
lives_first first start lives = record { on = λ new later all. all }

known_on : (before after : List ℕ) (cut : Cut) (line lives later : List ℕ) (now next new : EngineState) → KnownLineCut before after cut line → cut ≢ End → AcceptsLine now (input_line_of cut line) next
    → CountsLives next (lines_of after) new (lives_after_request lives (request_read now.names (input_line_of cut line))) later → CountsLives now (lines_of before) new lives later
known_on before after Line line lives later now next new cuts more accepts rest = subst (λ (ls : List InputLine). CountsLives now ls new lives later) (sym cuts) (next, accepts, rest)
known_on before after TooLong line lives later now next new cuts more accepts rest = subst (λ (ls : List InputLine). CountsLives now ls new lives later) (sym cuts) (next, accepts, rest)
known_on before after End line lives later now next new cuts more accepts rest = absurd (more refl)

-- One line was cut off and accepted, and its restart, if it asks for one, was counted.
pub lives_on : (first : Option (List ℕ)) (start : EngineState) (begun : List ℕ) (left rest : Option (List ℕ)) (cut : Cut) (line lives counted : List ℕ) (now next : EngineState) → LivesLead first start begun left now lives → LineCut left rest cut line → cut ≢ End
    → AcceptsLine now (input_line_of cut line) next → counted ≡ lives_after_request lives (request_read now.names (input_line_of cut line)) → LivesLead first start begun rest next counted
lives_on first start begun None rest cut line lives counted now next leads cuts more accepts is = record { on = λ new later all. leads.on new later tt }
lives_on first start begun (Some before) None cut line lives counted now next leads cuts more accepts is = absurd cuts
lives_on first start begun (Some before) (Some after) cut line lives counted now next leads cuts more accepts is =
    record { on = λ new later all. leads.on new later (known_on before after cut line lives later now next new cuts more accepts (subst (λ (l : List ℕ). CountsLives next (lines_of after) new l later) is all)) }

-- No line is left.
pub lives_end : (first : Option (List ℕ)) (start : EngineState) (begun : List ℕ) (left rest : Option (List ℕ)) (line lives : List ℕ) (now : EngineState) → LivesLead first start begun left now lives → LineCut left rest End line → CountsKnownLives first start now begun lives
lives_end first start begun None rest line lives now leads cuts = leads.on now lives tt
lives_end first start begun (Some before) None line lives now leads cuts = absurd cuts
lives_end first start begun (Some before) (Some after) line lives now leads cuts = leads.on now lives (subst (λ (ls : List InputLine). CountsLives now ls now lives lives) (sym cuts) (refl, refl))

-- The lives of the bytes of a log, by the lines after the header.
pub lives_from : (bytes line : List ℕ) (left rest : Option (List ℕ)) (cut : Cut) (first state : EngineState) (begun lives : List ℕ) → Keeps (Some bytes) left → LineCut left rest cut line → cut ≡ Line → first ≡ nothing_open
    → CountsKnownLives rest first state begun lives → RecoversLives bytes begun lives
lives_from bytes line None rest cut first state begun lives keeps cuts is new all = absurd keeps
lives_from bytes line (Some left) None cut first state begun lives keeps cuts is new all = absurd cuts
lives_from bytes line (Some left) (Some rest) cut first state begun lives keeps cuts is new all =
    let K : Cut → Type 0 = λ (c : Cut). KnownLineCut left rest c line in
    record {
      header = text line;
      lines = lines_of rest;
      are = ap lines_of (sym keeps) ∙ subst K is cuts;
      state = state;
      counts = subst (λ (s : EngineState). CountsLives s (lines_of rest) state begun lives) new all;
    }

-- The state that lines read one by one lead to.
use Rattle.std.proofs.Common.{◌≡◌, ◌≢◌, ℕ, List, refl, sym, ◌∙◌, ap, subst}
use Rattle.std.specs.Prelude.{Option, Some, None, option_map}
use Rattle.std.specs.Io.KnownBytes.{Keeps}
use Rattle.std.proofs.lemmas.Option.{none-some, same_Some}
use Rattle.rme_line_io.specs.Cuts.{LineCut, KnownLineCut, input_line_of}
use Rattle.rme_line_io.specs.Pieces.{InputLine, lines_of, text}
use Rattle.rme_line_io.specs.declared.cut.Cut.{Cut}
use Rattle.rme_line_io.specs.declared.cut.Cut.TheVariants.{Line, TooLong, End}
use Rattle.rme_line_engine.specs.EngineStates.{EngineState, nothing_open}
use Rattle.rme_line_engine.specs.declared.tallied.TalliedWorld.{TalliedWorld}
use Rattle.rme_line_json.specs.Values.{json_value_of}
use Rattle.serde_json.specs.Data.{Data}
use Rattle.rme_words.specs.declared.shape.Shape.{Shape}
use Rattle.rme_durable_format.specs.Headers.{IsLogVersion, IsPossibleHeader, HeaderValues, HasHeaderMembers}
use Rattle.rme_durable_format.specs.Recovery.{AcceptsLine, AcceptsLines, AcceptsKnownLines, BeginsWithHeader, RecoversWorld}

-- A state to which the remaining lines lead is one to which all lines lead.
pub record Leads (first : Option (List ℕ)) (start : EngineState) (left : Option (List ℕ)) (now : EngineState) : Type 0 where
  pub on : (new : EngineState) → AcceptsKnownLines left now new → AcceptsKnownLines first start new

pub leads_first : (first : Option (List ℕ)) (start : EngineState) → Leads first start first start
leads_first first start = record { on = λ new all. all }

known_on : (before after : List ℕ) (cut : Cut) (line : List ℕ) (now next new : EngineState) → KnownLineCut before after cut line → cut ≢ End → AcceptsLine now (input_line_of cut line) next → AcceptsLines next (lines_of after) new → AcceptsLines now (lines_of before) new
known_on before after Line line now next new cuts more accepts rest = subst (λ (ls : List InputLine). AcceptsLines now ls new) (sym cuts) (next, accepts, rest)
known_on before after TooLong line now next new cuts more accepts rest = subst (λ (ls : List InputLine). AcceptsLines now ls new) (sym cuts) (next, accepts, rest)
known_on before after End line now next new cuts more accepts rest = absurd (more refl)

-- One line was cut off and accepted.
pub leads_on : (first : Option (List ℕ)) (start : EngineState) (left later : Option (List ℕ)) (cut : Cut) (line : List ℕ) (now next : EngineState) → Leads first start left now → LineCut left later cut line → cut ≢ End → AcceptsLine now (input_line_of cut line) next → Leads first start later next
leads_on first start None later cut line now next leads cuts more accepts = record { on = λ new all. leads.on new tt }
leads_on first start (Some before) None cut line now next leads cuts more accepts = absurd cuts
leads_on first start (Some before) (Some after) cut line now next leads cuts more accepts = record { on = λ new all. leads.on new (known_on before after cut line now next new cuts more accepts all) }

-- No line is left.
pub leads_end : (first : Option (List ℕ)) (start : EngineState) (left later : Option (List ℕ)) (line : List ℕ) (now : EngineState) → Leads first start left now → LineCut left later End line → AcceptsKnownLines first start now
leads_end first start None later line now leads cuts = leads.on now tt
leads_end first start (Some before) None line now leads cuts = absurd cuts
leads_end first start (Some before) (Some after) line now leads cuts = leads.on now (subst (λ (ls : List InputLine). AcceptsLines now ls now) (sym cuts) refl)

abbrev pub with_names : List (List ℕ) → TalliedWorld → List (List ℕ) × TalliedWorld
with_names names tallied = (names, tallied)

pub opened : (state : EngineState) (names : List (List ℕ)) (tallied : TalliedWorld) (world : Option TalliedWorld) → state.world ≡ world → option_map (with_names state.names) world ≡ Some (with_names names tallied) → state ≡ record { names = names; world = Some tallied }
opened state names tallied None is e = absurd (none-some (with_names names tallied) e)
opened state names tallied (Some w) is e =
    let q : with_names state.names w ≡ with_names names tallied = same_Some _ _ e in
    let a : state.names ≡ names = ap (λ (p : List (List ℕ) × TalliedWorld). p.0) q in
    let b : w ≡ tallied = ap (λ (p : List (List ℕ) × TalliedWorld). p.1) q in
    let N : List (List ℕ) → Type 0 = λ (n : List (List ℕ)). state ≡ record { names = n; world = Some tallied } in
    let W : Option TalliedWorld → Type 0 = λ (v : Option TalliedWorld). state ≡ record { names = state.names; world = v } in
    let same : state ≡ record { names = state.names; world = state.world } = refl in
    subst N a (subst W (is ∙ ap Some b) same)

-- The first line is a header of this world.
pub begins_with : (bytes line : List ℕ) (left later : Option (List ℕ)) (cut : Cut) (names : List (List ℕ)) (shape : Shape) (value : Data) (past : HeaderValues) → Keeps (Some bytes) left → LineCut left later cut line → cut ≡ Line
    → (json_value_of line ≡ Some value) × IsLogVersion value → HasHeaderMembers names value past × IsPossibleHeader shape past → BeginsWithHeader bytes names shape past
begins_with bytes line None later cut names shape value past keeps cuts is reads tells = absurd keeps
begins_with bytes line (Some left) None cut names shape value past keeps cuts is reads tells = absurd cuts
begins_with bytes line (Some left) (Some later) cut names shape value past keeps cuts is reads tells =
    let K : Cut → Type 0 = λ (c : Cut). KnownLineCut left later c line in
    record {
      first = line;
      lines = lines_of later;
      are = ap lines_of (sym keeps) ∙ subst K is cuts;
      header = record { value = value; reads = reads.0; version = reads.1; tells = tells.0; may = tells.1 };
    }

-- A header, followed by accepted lines only.
pub starts_from : (bytes line : List ℕ) (left later : Option (List ℕ)) (cut : Cut) (names : List (List ℕ)) (tallied : TalliedWorld) (first state : EngineState) → Keeps (Some bytes) left → LineCut left later cut line → cut ≡ Line → first ≡ nothing_open
    → AcceptsKnownLines later first state → Some (with_names names tallied) ≡ option_map (with_names state.names) state.world → RecoversWorld bytes names tallied.world
starts_from bytes line None later cut names tallied first state keeps cuts is new all e = absurd keeps
starts_from bytes line (Some left) None cut names tallied first state keeps cuts is new all e = absurd cuts
starts_from bytes line (Some left) (Some later) cut names tallied first state keeps cuts is new all e =
    let K : Cut → Type 0 = λ (c : Cut). KnownLineCut left later c line in
    let A : EngineState → Type 0 = λ (s : EngineState). AcceptsLines s (lines_of later) state in
    let B : EngineState → Type 0 = λ (s : EngineState). AcceptsLines nothing_open (lines_of later) s in
    record {
      header = text line;
      lines = lines_of later;
      are = ap lines_of (sym keeps) ∙ subst K is cuts;
      tallied = tallied;
      its = refl;
      accepts = subst B (opened state names tallied state.world refl (sym e)) (subst A new all);
    }

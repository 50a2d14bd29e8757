-- Lines that are read one by one, up to one that is not accepted.
use Rattle.std.proofs.Common.{◌≡◌, ◌≢◌, ℕ, ◌+◌, ◌-◌, ◌^◌, min, List, [], ◌∷◌, ◌++◌, length, append_assoc, length-append, arith, inl, inr, refl, sym, ◌∙◌, ap, subst}
use Rattle.std.specs.Prelude.{Option, Some, None, ◌⊎◌, option_map, Result, Ok, Err, IfErr, IsErrAnd}
use Rattle.std.specs.Io.KnownBytes.{Keeps}
use Rattle.rme_line_io.specs.Cuts.{LineCut, KnownLineCut, input_line_of}
use Rattle.rme_line_io.specs.Pieces.{InputLine, lines_of, text, too_long}
use Rattle.rme_line_io.specs.declared.cut.Cut.{Cut}
use Rattle.rme_line_io.specs.declared.cut.Cut.TheVariants.{Line, TooLong, End}
use Rattle.rme_wire.specs.Requests.{request_read}
use Rattle.rme_line_engine.specs.EngineStates.{EngineState, nothing_open}
use Rattle.rme_durable_format.specs.declared.fault.BadLog.{BadLog}
use Rattle.rme_durable_format.specs.declared.fault.BadLog.TheVariants as bad
use Rattle.rme_line_json.specs.Values.{json_value_of}
use Rattle.serde_json.specs.Data.{Data}
use Rattle.rme_words.specs.declared.shape.Shape.{Shape}
use Rattle.rme_line_engine.specs.declared.tallied.TalliedWorld.{TalliedWorld}
use Rattle.rme_durable_format.specs.Headers.{HasLogVersion, IsLogHeader, IsLogVersion, IsPossibleHeader, HeaderValues, HasHeaderMembers}
use Rattle.rme_durable_format.proofs.Leading.{opened, with_names}
use Rattle.rme_durable_format.specs.Recovery.{AcceptsLine, AcceptsLines, AcceptsKnownLines, CountsLines, RejectsLine, RecoveryStopsAfter, RecoveryStopsAt, RecoveryStopsFor, HasNoLogHeader, IsHeaderMismatch, IsDamagedLog, IsBadLog}

-- Of known bytes these lines were read and accepted; `count` is the number of the next line.
pub record ReadKnown (bytes : List ℕ) (start : EngineState) (left : List ℕ) (now : EngineState) (count : ℕ) : Type 0 where
  pub front : List InputLine
  pub are : lines_of bytes ≡ front ++ lines_of left
  pub accepts : AcceptsLines start front now
  pub number : count ≡ min (2 ^ 64 - 1) (length front + 1)

abbrev pub HasRead : Option (List ℕ) → EngineState → Option (List ℕ) → EngineState → ℕ → Type 0
HasRead None start left now count = Unit {0}
HasRead (Some bytes) start None now count = ⊥
HasRead (Some bytes) start (Some left) now count = ReadKnown bytes start left now count

pub read_none : (first : Option (List ℕ)) (start : EngineState) → HasRead first start first start 1
read_none None start = tt
read_none (Some bytes) start = record { front = []; are = refl; accepts = refl; number = omega arith }

accepts_last : (start now next : EngineState) (front : List InputLine) (line : InputLine) → AcceptsLines start front now → AcceptsLine now line next → AcceptsLines start (front ++ line ∷ []) next
accepts_last start now next [] line all accepts = (next, subst (λ (s : EngineState). AcceptsLine s line next) all accepts, refl)
accepts_last start now next (l ∷ front) line all accepts = (all.0, all.1, accepts_last all.0 now next front line all.2 accepts)

-- The line that was cut off is the next line.
next_is : (left later : List ℕ) (cut : Cut) (line : List ℕ) → KnownLineCut left later cut line → cut ≢ End → lines_of left ≡ input_line_of cut line ∷ lines_of later
next_is left later Line line cuts more = cuts
next_is left later TooLong line cuts more = cuts
next_is left later End line cuts more = absurd (more refl)

pub read_one : (first : Option (List ℕ)) (start : EngineState) (left later : Option (List ℕ)) (cut : Cut) (line : List ℕ) (now next : EngineState) (count more : ℕ)
    → HasRead first start left now count → LineCut left later cut line → cut ≢ End → AcceptsLine now (input_line_of cut line) next → more ≡ min (2 ^ 64 - 1) (count + 1) → HasRead first start later next more
read_one None start left later cut line now next count more read cuts is accepts e = tt
read_one (Some bytes) start None later cut line now next count more read cuts is accepts e = absurd read
read_one (Some bytes) start (Some left) None cut line now next count more read cuts is accepts e = absurd cuts
read_one (Some bytes) start (Some left) (Some later) cut line now next count more read cuts is accepts e =
    let this = input_line_of cut line in
    let longer : length (read.front ++ this ∷ []) ≡ length read.front + 1 = length-append read.front (this ∷ []) in
    record {
      front = read.front ++ this ∷ [];
      are = read.are ∙ ap (λ ls. read.front ++ ls) (next_is left later cut line cuts is) ∙ sym (append_assoc read.front (this ∷ []) (lines_of later));
      accepts = accepts_last start now next read.front this read.accepts accepts;
      number = omega (arith, e, longer, read.number);
    }

pub stops_here : (first : Option (List ℕ)) (start : EngineState) (left later : Option (List ℕ)) (cut : Cut) (line : List ℕ) (now : EngineState) (count more : ℕ)
    → HasRead first start left now count → LineCut left later cut line → cut ≢ End → RejectsLine now (request_read now.names (input_line_of cut line)) → more ≡ min (2 ^ 64 - 1) (count + 1) → RecoveryStopsAt first start more
stops_here None start left later cut line now count more read cuts is rejects e = tt
stops_here (Some bytes) start None later cut line now count more read cuts is rejects e = absurd read
stops_here (Some bytes) start (Some left) None cut line now count more read cuts is rejects e = absurd cuts
stops_here (Some bytes) start (Some left) (Some later) cut line now count more read cuts is rejects e = (
  length read.front,
  omega (arith, e, read.number),
  record {
    front = read.front;
    line = input_line_of cut line;
    behind = lines_of later;
    are = read.are ∙ ap (λ ls. read.front ++ ls) (next_is left later cut line cuts is);
    many = refl;
    mid = now;
    accepts = read.accepts;
    rejects = rejects;
  },
)

-- No line is left: all are counted.
pub counts_all : (first : Option (List ℕ)) (start : EngineState) (left later : Option (List ℕ)) (line : List ℕ) (now : EngineState) (count : ℕ) → HasRead first start left now count → LineCut left later End line → CountsLines first count
counts_all None start left later line now count read cuts = tt
counts_all (Some bytes) start None later line now count read cuts = absurd read
counts_all (Some bytes) start (Some left) None line now count read cuts = absurd cuts
counts_all (Some bytes) start (Some left) (Some later) line now count read cuts =
    let many : length (lines_of bytes) ≡ length read.front + 0 = ap length (read.are ∙ ap (λ (ls : List InputLine). read.front ++ ls) cuts) ∙ length-append read.front [] in omega (arith, many, read.number)

-- The first line was cut off, and those after it are counted with it.
pub counts_from : (bytes line : List ℕ) (left later : Option (List ℕ)) (cut : Cut) (count : ℕ) → Keeps (Some bytes) left → LineCut left later cut line → cut ≡ Line → CountsLines later count → count ≡ min (2 ^ 64 - 1) (length (lines_of bytes))
counts_from bytes line None later cut count keeps cuts is counts = absurd keeps
counts_from bytes line (Some left) None cut count keeps cuts is counts = absurd cuts
counts_from bytes line (Some left) (Some later) cut count keeps cuts is counts =
    let K : Cut → Type 0 = λ (c : Cut). KnownLineCut left later c line in
    let rest : length (text line ∷ lines_of later) ≡ length (lines_of later) + 1 = omega arith in
    let many : length (lines_of bytes) ≡ length (lines_of later) + 1 = ap length (ap lines_of (sym keeps) ∙ subst K is cuts) ∙ rest in omega (arith, many, counts)

-- Header values of a line are those of its JSON value.
told_of : (names : List (List ℕ)) (shape : Shape) (line : List ℕ) (past : HeaderValues) (value : Data) → json_value_of line ≡ Some value → IsLogHeader names shape line past → HasHeaderMembers names value past × IsPossibleHeader shape past
told_of names shape line past value reads header =
    let e = header.reads in
    let same : header.value ≡ value = cc in
    let P : Data → Type 0 = λ (v : Data). HasHeaderMembers names v past in (subst P same header.tells, header.may)

-- A header, followed by lines of which one was not accepted.
damaged_from : (bytes first : List ℕ) (lines : List InputLine) (count number : ℕ) → lines_of bytes ≡ text first ∷ lines → HasLogVersion first → number ≡ min (2 ^ 64 - 1) (count + 2) → RecoveryStopsAfter nothing_open lines count → IsDamagedLog bytes number
damaged_from bytes first lines count number are version is stops = record {
  some = omega (arith, is);
  first = λ one. absurd (omega (arith, is, one));
  later = λ two. record { first = first; lines = lines; are = are; version = version; stops = inr (count, is, stops) };
}

pub bad_from : (bytes line : List ℕ) (left later : Option (List ℕ)) (cut : Cut) (first : EngineState) (why : BadLog) → Keeps (Some bytes) left → LineCut left later cut line → cut ≡ Line → HasLogVersion line → first ≡ nothing_open → RecoveryStopsFor later first why → IsBadLog bytes why
bad_from bytes line left later cut first bad.NoMemory keeps cuts is version new stops = tt
bad_from bytes line None later cut first (bad.Line number) keeps cuts is version new stops = absurd keeps
bad_from bytes line (Some left) None cut first (bad.Line number) keeps cuts is version new stops = absurd cuts
bad_from bytes line (Some left) (Some later) cut first (bad.Line number) keeps cuts is version new stops =
    let K : Cut → Type 0 = λ (c : Cut). KnownLineCut left later c line in
    let S : EngineState → Type 0 = λ (s : EngineState). RecoveryStopsAfter s (lines_of later) stops.0 in
    damaged_from bytes line (lines_of later) stops.0 number (ap lines_of (sym keeps) ∙ subst K is cuts) version stops.1 (subst S new stops.2)

-- A header, followed by lines that open no world.
pub bad_second : (bytes line : List ℕ) (left later : Option (List ℕ)) (cut : Cut) (first state : EngineState) → Keeps (Some bytes) left → LineCut left later cut line → cut ≡ Line → HasLogVersion line → first ≡ nothing_open → AcceptsKnownLines later first state → state.world ≡ None
    → IsDamagedLog bytes 2
bad_second bytes line None later cut first state keeps cuts is version new all closed = absurd keeps
bad_second bytes line (Some left) None cut first state keeps cuts is version new all closed = absurd cuts
bad_second bytes line (Some left) (Some later) cut first state keeps cuts is version new all closed =
    let K : Cut → Type 0 = λ (c : Cut). KnownLineCut left later c line in
    let A : EngineState → Type 0 = λ (s : EngineState). AcceptsLines s (lines_of later) state in
    record {
      some = omega arith;
      first = λ one. absurd (omega (arith, one));
      later = λ two. record {
        first = line;
        lines = lines_of later;
        are = ap lines_of (sym keeps) ∙ subst K is cuts;
        version = version;
        stops = inl (refl, record { state = state; accepts = subst A new all; closed = closed });
      };
    }

-- The first line is not a header.
damaged_first : (bytes : List ℕ) (lines : List InputLine) → lines_of bytes ≡ lines → HasNoLogHeader lines → IsDamagedLog bytes 1
damaged_first bytes lines are none = record { some = omega arith; first = λ one. subst HasNoLogHeader (sym are) none; later = λ two. absurd (omega (arith, two)) }

-- It is missing, or too long.
pub bad_cut : (bytes line : List ℕ) (left later : Option (List ℕ)) (cut : Cut) → Keeps (Some bytes) left → LineCut left later cut line → (cut ≡ TooLong) ⊎ (cut ≡ End) → IsDamagedLog bytes 1
bad_cut bytes line None later cut keeps cuts other = absurd keeps
bad_cut bytes line (Some left) None cut keeps cuts other = absurd cuts
bad_cut bytes line (Some left) (Some later) Line keeps cuts (inl e) = cc
bad_cut bytes line (Some left) (Some later) Line keeps cuts (inr e) = cc
bad_cut bytes line (Some left) (Some later) TooLong keeps cuts other = damaged_first bytes (too_long ∷ lines_of later) (ap lines_of (sym keeps) ∙ cuts) tt
bad_cut bytes line (Some left) (Some later) End keeps cuts other = damaged_first bytes [] (ap lines_of (sym keeps) ∙ cuts) tt

-- A line was cut off that has no JSON value of this version, or is no header of the world to which the later lines
-- lead.
pub bad_version : (bytes line : List ℕ) (left later : Option (List ℕ)) (cut : Cut) → Keeps (Some bytes) left → LineCut left later cut line → cut ≡ Line
    → ((value : Data) → (json_value_of line ≡ Some value) × IsLogVersion value → ⊥) → IsDamagedLog bytes 1
bad_version bytes line None later cut keeps cuts is none = absurd keeps
bad_version bytes line (Some left) None cut keeps cuts is none = absurd cuts
bad_version bytes line (Some left) (Some later) cut keeps cuts is none =
    let K : Cut → Type 0 = λ (c : Cut). KnownLineCut left later c line in damaged_first bytes (text line ∷ lines_of later) (ap lines_of (sym keeps) ∙ subst K is cuts) (inl (λ has. none has.value (has.reads, has.version)))

pub bad_header : (bytes line : List ℕ) (left later : Option (List ℕ)) (cut : Cut) (names : List (List ℕ)) (tallied : TalliedWorld) (first state : EngineState) (value : Data)
    → Keeps (Some bytes) left → LineCut left later cut line → cut ≡ Line → first ≡ nothing_open
    → AcceptsKnownLines later first state → Some (with_names names tallied) ≡ option_map (with_names state.names) state.world
    → json_value_of line ≡ Some value → ((past : HeaderValues) → HasHeaderMembers names value past × IsPossibleHeader tallied.world.shape past → ⊥) → IsDamagedLog bytes 1
bad_header bytes line None later cut names tallied first state value keeps cuts is new all e reads none = absurd keeps
bad_header bytes line (Some left) None cut names tallied first state value keeps cuts is new all e reads none = absurd cuts
bad_header bytes line (Some left) (Some later) cut names tallied first state value keeps cuts is new all e reads none =
    let K : Cut → Type 0 = λ (c : Cut). KnownLineCut left later c line in
    let A : EngineState → Type 0 = λ (s : EngineState). AcceptsLines s (lines_of later) state in
    let B : EngineState → Type 0 = λ (s : EngineState). AcceptsLines nothing_open (lines_of later) s in
    let elsewhere : IsHeaderMismatch line (lines_of later) = record {
      names = names;
      tallied = tallied;
      accepts = subst B (opened state names tallied state.world refl (sym e)) (subst A new all);
      none = λ past header. none past (told_of names tallied.world.shape line past value reads header);
    } in
    damaged_first bytes (text line ∷ lines_of later) (ap lines_of (sym keeps) ∙ subst K is cuts) (inr elsewhere)

-- A fault that is passed on is the same.
pub err_is : {T : Type 0} (result : Result T BadLog) (why : BadLog) (P : BadLog → Type 0) → IsErrAnd result (λ e. e ≡ why) → P why → IfErr result P
err_is (Ok value) why P same bad = absurd same
err_is (Err e) why P same bad = subst P (sym same) bad

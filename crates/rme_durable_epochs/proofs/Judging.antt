-- The first bad line: line 1 is judged together with line 2, which opens the world.
use Rattle.std.proofs.Common.{◌≡◌, ℕ, ◌+◌, ◌-◌, ◌^◌, ◌<◌, ◌≤◌, min, List, [], ◌∷◌, ◌++◌, length, take, refl, sym, ◌∙◌, ap, subst, inl, inr, arith, length-append}
use Rattle.std.specs.Prelude.{Some, None}
use Rattle.std.proofs.lemmas.Bool.{cases_eq}
use Rattle.std.proofs.lemmas.List.{nil_from_length}
use Rattle.std.proofs.lemmas.Option.{none-some, same_Some}
use Rattle.serde_json.specs.Data.{Data}
use Rattle.rme_words.specs.declared.shape.Shape.{Shape}
use Rattle.rme_line_io.specs.Pieces.{InputLine, lines_of, text, too_long}
use Rattle.rme_world.specs.WorldViews.{WorldView}
use Rattle.rme_wire.specs.Requests.{request_read}
use Rattle.rme_line_engine.specs.EngineStates.{EngineState, nothing_open}
use Rattle.rme_line_engine.specs.Tallies.{tallied_opening}
use Rattle.rme_line_engine.specs.declared.tallied.TalliedWorld.{TalliedWorld}
use Rattle.rme_durable_format.specs.Headers.{HasHeaderMembers, HasLogVersion, HeaderValues, IsLogHeader, header_values}
use Rattle.rme_durable_format.specs.Recovery.{AcceptsLine, AcceptsLines, HasNoLogHeader, IsBadAfterHeader, IsDamagedAfterHeader, IsHeaderMismatch, RecoveryStopsAfter, RejectsLine}
use Rattle.rme_durable_format.specs.WholeLines.{AreFirstTwoLines}
use Rattle.rme_durable_format.specs.declared.fault.BadLog.{BadLog}
use Rattle.rme_durable_format.specs.declared.fault.BadLog.TheVariants as bad
use Rattle.rme_durable_format.proofs.OnePast.{same_past}
use Rattle.rme_durable_format.proofs.Opened.{first_opens, opens_same, opens_unrejected}
use Rattle.rme_durable_epochs.specs.HeaderBases.{LeavesRoom}
use Rattle.rme_durable_epochs.specs.RecoveredStates.{AreState, FitsNextLine, FitsWorld, HasFullHeader, HasGoodHeader, IsBadState, IsFirstBadLine, IsWhyNoState, OpensWorld}
use Rattle.rme_durable_epochs.specs.declared.recovery.RecoveredState.{RecoveredState}

-- ---- the world that line 2 opens

abbrev open_state : List (List ℕ) → TalliedWorld → EngineState
open_state names tallied = record { names = names; world = Some tallied }

opens_with : (line : InputLine) (lines : List InputLine) (names : List (List ℕ)) (tallied : TalliedWorld) → AcceptsLines nothing_open (line ∷ lines) (open_state names tallied) → OpensWorld line names tallied.world.shape
opens_with line lines names tallied accepts =
    let first = first_opens line lines (open_state names tallied) accepts in
    let opened = first.2 in
    let stays = first.3 in
    let named : names ≡ opened.given.locks = ap (λ (s : EngineState). s.names) stays.1 in
    let same : tallied ≡ stays.0 = same_Some _ _ (ap (λ (s : EngineState). s.world) stays.1) in
    let shape : tallied.world.shape ≡ opened.shape = ap (λ (t : TalliedWorld). t.world.shape) same ∙ stays.2 in
    let here : OpensWorld line opened.given.locks opened.shape = subst (AcceptsLine nothing_open line) opened.opens first.1 in
    subst (λ (n : List (List ℕ)). OpensWorld line n tallied.world.shape) (sym named) (subst (λ (s : Shape). OpensWorld line opened.given.locks s) (sym shape) here)

opens_one : (line : InputLine) (names others : List (List ℕ)) (shape other : Shape) → OpensWorld line names shape → OpensWorld line others other → (names ≡ others) × (shape ≡ other)
opens_one line names others shape other first second =
    let same = opens_same line (open_state names (tallied_opening shape)) (open_state others (tallied_opening other)) first second in
    let world : tallied_opening shape ≡ tallied_opening other = same_Some _ _ (ap (λ (s : EngineState). s.world) same) in
    (ap (λ (s : EngineState). s.names) same, ap (λ (t : TalliedWorld). t.world.shape) world)

-- A header that fits the world that line 2 opens fits each such world.
fits_next : (line : List ℕ) (next : InputLine) (lines : List InputLine) (names : List (List ℕ)) (shape : Shape) → OpensWorld next names shape → FitsWorld line names shape → FitsNextLine line (next ∷ lines)
fits_next line next lines names shape opens fits = λ others other opened.
    (let same = opens_one next names others shape other opens opened in
    subst (λ (n : List (List ℕ)). FitsWorld line n other) same.0 (subst (λ (s : Shape). FitsWorld line names s) same.1 fits))

not_open : {A : Type 0} (state : EngineState) (tallied : TalliedWorld) → state.world ≡ None → state.world ≡ Some tallied → A
not_open state tallied closed opened = absurd (none-some tallied (sym closed ∙ opened))

-- ---- line 1 is not good

one_past : (names : List (List ℕ)) (shape : Shape) (line : List ℕ) (a b : HeaderValues) → IsLogHeader names shape line a → IsLogHeader names shape line b → a ≡ b
one_past names shape line a b s t =
    let e : Some s.value ≡ Some t.value = sym s.reads ∙ t.reads in
    let same : s.value ≡ t.value = same_Some _ _ e in
    same_past names t.value a b (subst (λ (v : Data). HasHeaderMembers names v a) same s.tells) t.tells

unfit : (first : List ℕ) (lines : List InputLine) → IsHeaderMismatch first lines → FitsNextLine first lines → ⊥
unfit first [] elsewhere fits = not_open nothing_open elsewhere.tallied refl (sym (ap (λ (s : EngineState). s.world) elsewhere.accepts))
unfit first (next ∷ lines) elsewhere fits =
    let fit = fits elsewhere.names elsewhere.tallied.world.shape (opens_with next lines elsewhere.names elsewhere.tallied elsewhere.accepts) in elsewhere.none fit.0 fit.1

no_header : (lines : List InputLine) → HasNoLogHeader lines → HasGoodHeader lines → ⊥
no_header [] none good = good
no_header (too_long ∷ lines) none good = good
no_header (text first ∷ lines) (inl none) good = none good.0
no_header (text first ∷ lines) (inr elsewhere) good = unfit first lines elsewhere good.1

full_unfit : (first : List ℕ) (lines : List InputLine) (names : List (List ℕ)) (tallied : TalliedWorld) (past : HeaderValues) → AcceptsLines nothing_open lines (open_state names tallied) → IsLogHeader names tallied.world.shape first past → (LeavesRoom past → ⊥)
    → FitsNextLine first lines → ⊥
full_unfit first [] names tallied past accepts header full fits = not_open nothing_open tallied refl (sym (ap (λ (s : EngineState). s.world) accepts))
full_unfit first (next ∷ lines) names tallied past accepts header full fits =
    let fit = fits names tallied.world.shape (opens_with next lines names tallied accepts) in full (subst LeavesRoom (one_past names tallied.world.shape first fit.0 past fit.1 header) fit.2)

full_header : (bytes : List ℕ) → HasFullHeader bytes → HasGoodHeader (lines_of bytes) → ⊥
full_header bytes has good =
    let begins = has.begins in
    let recovers = has.recovers in
    let parts : recovers.header ∷ recovers.lines ≡ text begins.first ∷ begins.lines = sym recovers.are ∙ begins.are in
    let lines : recovers.lines ≡ begins.lines = cc in
    let accepts = subst (λ (ls : List InputLine). AcceptsLines nothing_open ls (open_state has.names recovers.tallied)) lines recovers.accepts in
    let header = subst (λ (w : WorldView). IsLogHeader has.names w.shape begins.first has.past) (sym recovers.its) begins.header in
    let both : HasGoodHeader (text begins.first ∷ begins.lines) = subst HasGoodHeader begins.are good in
    full_unfit begins.first begins.lines has.names recovers.tallied has.past accepts header has.full both.1

first_bad : (bytes : List ℕ) → (HasGoodHeader (lines_of bytes) → ⊥) → IsFirstBadLine bytes 1
first_bad bytes none = record { some = omega arith; header = λ one. none; later = λ two. absurd (omega (arith, two)) }

-- ---- a later line is bad

later_bad : (bytes : List ℕ) (number : ℕ) → 2 ≤ number → HasGoodHeader (lines_of bytes) → IsDamagedAfterHeader bytes number → IsFirstBadLine bytes number
later_bad bytes number more good damaged = record { some = omega (arith, more); header = λ one. absurd (omega (arith, more, one)); later = λ two. (good, damaged) }

-- No line opens a world: there is none.
no_lines : (lines : List InputLine) (state : EngineState) → AcceptsLines nothing_open lines state → state.world ≡ None → lines ≡ []
no_lines [] state accepts closed = refl
no_lines (next ∷ lines) state accepts closed = let first = first_opens next lines state accepts in not_open state first.3.0 closed (ap (λ (s : EngineState). s.world) first.3.1)

-- The first line is rejected, so it opens no world.
rejected_fits : (first : List ℕ) (lines : List InputLine) (count : ℕ) → count ≡ 0 → RecoveryStopsAfter nothing_open lines count → FitsNextLine first lines
rejected_fits first lines count none stops =
    let empty : stops.front ≡ [] = nil_from_length stops.front (stops.many ∙ none) in
    let are : lines ≡ stops.line ∷ stops.behind = stops.are ∙ ap (λ (f : List InputLine). f ++ stops.line ∷ stops.behind) empty in
    let start : stops.mid ≡ nothing_open = subst (λ (f : List InputLine). AcceptsLines nothing_open f stops.mid) empty stops.accepts in
    let rejects : RejectsLine nothing_open (request_read [] stops.line) = subst (λ (s : EngineState). RejectsLine s (request_read s.names stops.line)) start stops.rejects in
    let fits : FitsNextLine first (stops.line ∷ stops.behind) = λ names shape opens. absurd (opens_unrejected stops.line (open_state names (tallied_opening shape)) opens rejects) in
    subst (FitsNextLine first) (sym are) fits

second_fits : (first : List ℕ) (lines : List InputLine) (number : ℕ) → number ≤ 2 → IsBadAfterHeader lines number → FitsNextLine first lines
second_fits first lines number few (inl none) = subst (FitsNextLine first) (sym (no_lines lines none.1.state none.1.accepts none.1.closed)) tt
second_fits first lines number few (inr stops) = rejected_fits first lines stops.0 (omega (arith, few, stops.1)) stops.2

-- A bad line that one reading finds is the first bad one, if it is line 1 or line 2.
pub bad_early : (bytes : List ℕ) (number : ℕ) → IsBadState bytes (bad.Line number) → number ≤ 2 → IsFirstBadLine bytes number
bad_early bytes number (inr has) few = subst (IsFirstBadLine bytes) (sym has.0) (first_bad bytes (full_header bytes has.1))
bad_early bytes number (inl damaged) few = elim (cases_eq number 1) [
  | inl one ↦ subst (IsFirstBadLine bytes) (sym one) (first_bad bytes (no_header (lines_of bytes) (damaged.first one)))
  | inr other ↦
      (let more : 2 ≤ number = omega (arith, damaged.some, other) in
      let later = damaged.later more in
      let good : HasGoodHeader (text later.first ∷ later.lines) = (later.version, second_fits later.first later.lines number few later.stops) in
      later_bad bytes number more (subst HasGoodHeader (sym later.are) good) later)
]

-- ---- line 1 and line 2 alone

-- A line after line 2 is bad: line 1 has the value of a header, and line 2 is accepted.
record IsLate (bytes : List ℕ) (number : ℕ) : Type 0 where
  first : List ℕ
  second : InputLine
  rest : List InputLine
  are : lines_of bytes ≡ text first ∷ second ∷ rest
  version : HasLogVersion first
  mid : EngineState
  accepts : AcceptsLine nothing_open second mid
  damaged : IsDamagedAfterHeader bytes number

module _ (bytes : List ℕ) (number : ℕ) (more : 2 < number) (damaged : IsDamagedAfterHeader bytes number) where
  late_front : (count : ℕ) → number ≡ min (2 ^ 64 - 1) (count + 2) → (front : List InputLine) (line : InputLine) (behind : List InputLine) (mid : EngineState) → damaged.lines ≡ front ++ line ∷ behind → length front ≡ count → AcceptsLines nothing_open front mid
      → IsLate bytes number
  late_front count is [] line behind mid split many accepts = absurd (omega (arith, more, is, many))
  late_front count is (second ∷ front) line behind mid split many accepts = record {
    first = damaged.first;
    second = second;
    rest = front ++ line ∷ behind;
    are = damaged.are ∙ ap (λ (ls : List InputLine). text damaged.first ∷ ls) split;
    version = damaged.version;
    mid = accepts.0;
    accepts = accepts.1;
    damaged = damaged;
  }

  late_line : IsBadAfterHeader damaged.lines number → IsLate bytes number
  late_line (inl none) = absurd (omega (arith, more, none.0))
  late_line (inr stops) = let its = stops.2 in late_front stops.0 stops.1 its.front its.line its.behind its.mid its.are its.many its.accepts

late : (bytes : List ℕ) (number : ℕ) → IsBadState bytes (bad.Line number) → 2 < number → IsLate bytes number
late bytes number (inr has) more = absurd (omega (arith, more, has.0))
late bytes number (inl damaged) more = let later = damaged.later (omega (arith, more)) in late_line bytes number more later later.stops

two_lines : (bytes front : List ℕ) (number : ℕ) (it : IsLate bytes number) → AreFirstTwoLines bytes front → lines_of front ≡ text it.first ∷ it.second ∷ []
two_lines bytes front number it cut = cut.two ∙ ap (take 2) it.are

-- The first two lines are a state's: line 1 is good.
pub judged_good : (bytes front : List ℕ) (number : ℕ) (recovered : RecoveredState) → IsBadState bytes (bad.Line number) → 2 < number → AreFirstTwoLines bytes front → AreState front recovered → IsFirstBadLine bytes number
judged_good bytes front number recovered found more cut state =
    let it = late bytes number found more in
    let two = two_lines bytes front number it cut in
    let world = state.world in
    let header = state.header in
    let names = recovered.log.names in
    let past = header_values recovered.log.header in
    let ends : world.header ∷ world.lines ≡ text it.first ∷ it.second ∷ [] = sym world.are ∙ two in
    let lines : world.lines ≡ it.second ∷ [] = cc in
    let begins : text header.first ∷ header.lines ≡ text it.first ∷ it.second ∷ [] = sym header.are ∙ two in
    let first : header.first ≡ it.first = cc in
    let opens = opens_with it.second [] names world.tallied (subst (λ (ls : List InputLine). AcceptsLines nothing_open ls (open_state names world.tallied)) lines world.accepts) in
    let is = subst (λ (l : List ℕ). IsLogHeader names recovered.log.world.shape l past) first header.header in
    let fit : FitsWorld it.first names world.tallied.world.shape = (past, subst (λ (w : WorldView). IsLogHeader names w.shape it.first past) (sym world.its) is, state.room) in
    let good : HasGoodHeader (text it.first ∷ it.second ∷ it.rest) = (it.version, fits_next it.first it.second it.rest names world.tallied.world.shape opens fit) in
    later_bad bytes number (omega (arith, more)) (subst HasGoodHeader (sym it.are) good) it.damaged

one_line : (second line : InputLine) (front behind : List InputLine) → second ∷ [] ≡ front ++ line ∷ behind → (front ≡ []) × (second ≡ line)
one_line second line [] behind e = let same : second ≡ line = cc in (refl, same)
one_line second line (other ∷ front) behind e = absurd (omega (arith, ap length e, length-append front (line ∷ behind)))

-- Behind line 1 there is only an accepted line.
none_bad : (second : InputLine) (mid : EngineState) (lines : List InputLine) (number : ℕ) → lines ≡ second ∷ [] → AcceptsLine nothing_open second mid → IsBadAfterHeader lines number → ⊥
none_bad second mid lines number are accepts (inl none) =
    let empty = ap length (no_lines lines none.1.state none.1.accepts none.1.closed) in
    let long = ap length are in omega (arith, empty, long)
none_bad second mid lines number are accepts (inr stops) =
    let its = stops.2 in
    let parts = one_line second its.line its.front its.behind (sym are ∙ its.are) in
    let start : its.mid ≡ nothing_open = subst (λ (f : List InputLine). AcceptsLines nothing_open f its.mid) parts.0 its.accepts in
    let rejects : RejectsLine nothing_open (request_read [] its.line) = subst (λ (s : EngineState). RejectsLine s (request_read s.names its.line)) start its.rejects in
    opens_unrejected second mid accepts (subst (λ (l : InputLine). RejectsLine nothing_open (request_read [] l)) (sym parts.1) rejects)

line_one : (front first : List ℕ) (second : InputLine) (mid : EngineState) (number : ℕ) → lines_of front ≡ text first ∷ second ∷ [] → AcceptsLine nothing_open second mid → IsBadState front (bad.Line number) → number ≡ 1
line_one front first second mid number two accepts (inr has) = has.0
line_one front first second mid number two accepts (inl damaged) = elim (cases_eq number 1) [
  | inl one ↦ one
  | inr other ↦
      (let later = damaged.later (omega (arith, damaged.some, other)) in
      let parts : text later.first ∷ later.lines ≡ text first ∷ second ∷ [] = sym later.are ∙ two in
      let lines : later.lines ≡ second ∷ [] = cc in absurd (none_bad second mid later.lines number lines accepts later.stops))
]

judged_line : (bytes front : List ℕ) (number judged : ℕ) → IsBadState bytes (bad.Line number) → 2 < number → AreFirstTwoLines bytes front → IsBadState front (bad.Line judged) → IsFirstBadLine bytes judged
judged_line bytes front number judged found more cut bad_two =
    let it = late bytes number found more in
    let two = two_lines bytes front number it cut in
    let one = line_one front it.first it.second it.mid judged two it.accepts bad_two in
    let early = bad_early front judged bad_two (omega (arith, one)) in
    let none : HasGoodHeader (lines_of bytes) → ⊥ = λ good.
    (let both : HasGoodHeader (text it.first ∷ it.second ∷ []) = subst HasGoodHeader it.are good in early.header one (subst HasGoodHeader (sym two) both)) in
    subst (IsFirstBadLine bytes) (sym one) (first_bad bytes none)

-- The first two lines are no state's: line 1 is bad, or memory was refused.
pub judged_bad : (bytes front : List ℕ) (number : ℕ) (why : BadLog) → IsBadState bytes (bad.Line number) → 2 < number → AreFirstTwoLines bytes front → IsBadState front why → IsWhyNoState bytes why
judged_bad bytes front number bad.NoMemory found more cut bad_two = tt
judged_bad bytes front number (bad.Line judged) found more cut bad_two = judged_line bytes front number judged found more cut bad_two

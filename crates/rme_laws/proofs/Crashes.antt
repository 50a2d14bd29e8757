-- The crashes of a start, and recovery after them.
use Rattle.std.proofs.Common.{◌≡◌, ◌⊎◌, ℕ, zero, suc, ◌<◌, List, [], ◌∷◌, ◌++◌, length, map, refl, sym, ap, subst, ◌∙◌, inl, inr, arith, append_assoc, length-append}
use Rattle.std.specs.Prelude.{Option, Some, None, Result, Ok, Err, slice_get, slice_set}
use Rattle.std.proofs.lemmas.List.{append-nil, length-set}
use Rattle.std.proofs.lemmas.Option.{none-some, same_Some}
use Rattle.rme_words.specs.declared.refusal.Refusal.{Refusal}
use Rattle.rme_program.specs.declared.event.Answer.{Answer}
use Rattle.rme_program.specs.declared.event.Event.{Event}
use Rattle.rme_program.specs.declared.event.Event.TheVariants as event
use Rattle.rme_program.specs.declared.private.Private.{Private}
use Rattle.rme_line_io.specs.Pieces.{InputLine, lines_of, text}
use Rattle.rme_line_io.proofs.PieceLemmas.{lines_none}
use Rattle.rme_line_engine.specs.EngineStates.{EngineState, nothing_open}
use Rattle.rme_line_engine.specs.Lines.{CommandEffectIn, RequestEffect}
use Rattle.rme_line_engine.specs.declared.tallied.TalliedWorld.{TalliedWorld}
use Rattle.rme_wire.specs.declared.command.Command.{Command}
use Rattle.rme_wire.specs.declared.command.Command.TheVariants as command
use Rattle.rme_wire.specs.declared.request.Request.{Request}
use Rattle.rme_wire.specs.declared.request.Request.TheVariants.{World}
use Rattle.rme_world.specs.Calls.{CrashContract}
use Rattle.rme_world.specs.EventLists.{EventListContract}
use Rattle.rme_world.specs.Refusals.{refusal_unless_up}
use Rattle.rme_world.specs.WorldViews.{WorldView, world_memory}
use Rattle.rme_session_world.specs.EventBatches.{AppliesEvents}
use Rattle.rme_session_world.specs.Executors.{AreCrashes, HasCrashedAll}
use Rattle.rme_session_world.proofs.Events.{happens_then}
use Rattle.rme_durable_format.specs.BatchCommands.{all_asked_events, crash_commands_from}
use Rattle.rme_durable_format.specs.CommandLines.{AppendsCommands}
use Rattle.rme_durable_format.specs.Recovery.{AcceptsLine, AcceptsLines, RecoversWorld}
use Rattle.rme_durable_format.proofs.Running.{command_runs}
use Rattle.rme_durable_format.specs.WholeLines.{AreWholeLines}
use Rattle.rme_laws.specs.AlikeWorlds.{AreWorldsAlike}
use Rattle.rme_laws.specs.LoggedLines.{AreCommandLines}
use Rattle.rme_laws.proofs.Events.{alike_itself}
use Rattle.rme_laws.proofs.Lines.{accept_all}
use Rattle.rme_laws.proofs.Prefixes.{AreOrders, command_lines, final_alike, lines_whole, open_by, rest_front, rest_is, rest_of, split_accepts}

-- ---- lists of private states

set_out : (xs : List (Option Private)) (i : ℕ) (x : Option Private) → slice_get xs i ≡ None → slice_set xs i x ≡ xs
set_out [] i x none = refl
set_out (y ∷ ys) zero x none = absurd (none-some y (sym none))
set_out (y ∷ ys) (suc i) x none = ap (λ (t : List (Option Private)). y ∷ t) (set_out ys i x none)

set_same : (xs : List (Option Private)) (i : ℕ) (x : Option Private) → slice_get xs i ≡ Some x → slice_set xs i x ≡ xs
set_same [] i x found = refl
set_same (y ∷ ys) zero x found = ap (λ (h : Option Private). h ∷ ys) (sym (same_Some _ _ found))
set_same (y ∷ ys) (suc i) x found = ap (λ (t : List (Option Private)). y ∷ t) (set_same ys i x found)

set_front : (front : List (Option Private)) (x y : Option Private) (ps : List (Option Private))
    → slice_set (front ++ y ∷ ps) (length front) x ≡ front ++ x ∷ ps
set_front [] x y ps = refl
set_front (z ∷ front) x y ps = ap (λ (t : List (Option Private)). z ∷ t) (set_front front x y ps)

abbrev nones : List (Option Private) → List (Option Private)
nones [] = []
nones (p ∷ ps) = None ∷ nones ps

all_none : (xs ys : List (Option Private)) → length xs ≡ length ys
    → ((i : ℕ) → i < length xs → slice_get xs i ≡ Some None) → xs ≡ nones ys
all_none [] [] long none = refl
all_none [] (y ∷ ys) long none = absurd (omega (arith, long))
all_none (x ∷ xs) [] long none = absurd (omega (arith, long))
all_none (x ∷ xs) (y ∷ ys) long none =
    let head : x ≡ None = same_Some _ _ (none 0 (omega arith)) in
    let tail = all_none xs ys (omega (arith, long)) (λ i less. none (suc i) (omega (arith, less))) in
    ap (λ (h : Option Private). h ∷ xs) head ∙ ap (λ (t : List (Option Private)). None ∷ t) tail

-- ---- one crash

-- The words and the history are the same, and these are the private states.
abbrev SameWith : List (Option Private) → WorldView → WorldView → Type 0
SameWith privates old new = (new.shape ≡ old.shape) × (new.words ≡ old.words) × (new.history ≡ old.history) × (new.privates ≡ privates)

refused_same : (found : Option (Option Private)) (refusal : Refusal)
    → refusal_unless_up found (λ (p : Private). None) ≡ Some refusal → (found ≡ None) ⊎ (found ≡ Some None)
refused_same None refusal is = inl refl
refused_same (Some None) refusal is = inr refl
refused_same (Some (Some p)) refusal is = absurd (none-some refusal is)

crash_same : (w : ℕ) (old new : WorldView) (result : Result (Unit {0}) Refusal) → CrashContract old w result new
    → SameWith (slice_set old.privates w None) old new
crash_same w old new (Ok done) crashed = subst (SameWith (slice_set old.privates w None) old) (sym crashed.accepted.falls) (refl, refl, refl, refl)
crash_same w old new (Err refusal) crashed =
    let same : slice_set old.privates w None ≡ old.privates = elim (refused_same (slice_get old.privates w) refusal crashed.refused) [
      | inl out ↦ set_out old.privates w None out
      | inr down ↦ set_same old.privates w None down
    ] in
    subst (SameWith (slice_set old.privates w None) old) (sym crashed.unchanged) (refl, refl, refl, sym same)

abbrev crashed_privates : List Event → List (Option Private) → List (Option Private)
crashed_privates [] ps = ps
crashed_privates (event.Crash w ∷ events) ps = crashed_privates events (slice_set ps w None)
crashed_privates (other ∷ events) ps = ps

crashed_long : (events : List Event) → AreCrashes events → (ps : List (Option Private))
    → length (crashed_privates events ps) ≡ length ps
crashed_long [] crashes ps = refl
crashed_long (event.Crash w ∷ events) crashes ps = crashed_long events crashes (slice_set ps w None) ∙ length-set ps w None
crashed_long (event.Submit w job ∷ events) crashes ps = absurd crashes
crashed_long (event.Step w ∷ events) crashes ps = absurd crashes
crashed_long (event.Restart w ∷ events) crashes ps = absurd crashes
crashed_long (event.Withdraw w ∷ events) crashes ps = absurd crashes

crashes_same : (events : List Event) → AreCrashes events → (answers : List Answer) (old new : WorldView)
    → EventListContract old events answers new → SameWith (crashed_privates events old.privates) old new
crashes_same [] crashes [] old new all = subst (SameWith old.privates old) (sym all) (refl, refl, refl, refl)
crashes_same [] crashes (a ∷ answers) old new all = absurd all
crashes_same (event.Crash w ∷ events) crashes [] old new all = absurd all
crashes_same (event.Crash w ∷ events) crashes (a ∷ answers) old new all =
    let first = crash_same w old all.0 all.1.call.0 all.1.call.2 in
    let rest = crashes_same events crashes answers all.0 new all.2 in
    (rest.0 ∙ first.0, rest.1 ∙ first.1, rest.2 ∙ first.2, rest.3 ∙ ap (crashed_privates events) first.3)
crashes_same (event.Submit w job ∷ events) crashes answers old new all = absurd crashes
crashes_same (event.Step w ∷ events) crashes answers old new all = absurd crashes
crashes_same (event.Restart w ∷ events) crashes answers old new all = absurd crashes
crashes_same (event.Withdraw w ∷ events) crashes answers old new all = absurd crashes

-- ---- the crashes of all that are up

crash_asks : (n : ℕ) (ps : List (Option Private)) → AreCrashes (all_asked_events (crash_commands_from n ps))
crash_asks n [] = tt
crash_asks n (None ∷ ps) = crash_asks (suc n) ps
crash_asks n (Some p ∷ ps) = crash_asks (suc n) ps

crash_orders : (n : ℕ) (ps : List (Option Private)) → AreOrders (crash_commands_from n ps)
crash_orders n [] = tt
crash_orders n (None ∷ ps) = crash_orders (suc n) ps
crash_orders n (Some p ∷ ps) = (refl, crash_orders (suc n) ps)

abbrev AreCrashCommands : List Command → Type 0
AreCrashCommands [] = Unit {0}
AreCrashCommands (command.Crash w ∷ commands) = AreCrashCommands commands
AreCrashCommands (other ∷ commands) = ⊥

crash_only : (n : ℕ) (ps : List (Option Private)) → AreCrashCommands (crash_commands_from n ps)
crash_only n [] = tt
crash_only n (None ∷ ps) = crash_only (suc n) ps
crash_only n (Some p ∷ ps) = crash_only (suc n) ps

crash_next : (front ps : List (Option Private))
    → crashed_privates (all_asked_events (crash_commands_from (length (front ++ None ∷ [])) ps))
    ((front ++ None ∷ []) ++ ps) ≡ (front ++ None ∷ []) ++ nones ps
    → crashed_privates (all_asked_events (crash_commands_from (suc (length front)) ps)) (front ++ None ∷ ps) ≡ front ++ None ∷ nones ps
crash_next front ps rest =
    let long : length (front ++ None ∷ []) ≡ suc (length front) = omega (arith, length-append front (None ∷ [])) in
    let at = append_assoc front (None ∷ []) ps in
    let there = append_assoc front (None ∷ []) (nones ps) in
    ap (λ (n : ℕ). crashed_privates (all_asked_events (crash_commands_from n ps)) (front ++ None ∷ ps)) (sym long)
    ∙ (ap (crashed_privates (all_asked_events (crash_commands_from (length (front ++ None ∷ [])) ps))) (sym at) ∙ (rest ∙ there))

crash_all : (front ps : List (Option Private))
    → crashed_privates (all_asked_events (crash_commands_from (length front) ps)) (front ++ ps) ≡ front ++ nones ps
crash_all front [] = refl
crash_all front (None ∷ ps) = crash_next front ps (crash_all (front ++ None ∷ []) ps)
crash_all front (Some p ∷ ps) =
    ap (crashed_privates (all_asked_events (crash_commands_from (suc (length front)) ps))) (set_front front None (Some p) ps) ∙ crash_next front ps (crash_all (front ++ None ∷ []) ps)

-- ---- accepted crash lines

lines_happen : (names : List (List ℕ)) (commands : List Command) (lines : List (List ℕ)) → AreCrashCommands commands
    → AreCommandLines names commands lines → (tallied : TalliedWorld) (from to : EngineState)
    → from ≡ record { names = names; world = Some tallied } → AcceptsLines from (map text lines) to
    → (after : TalliedWorld) × (to ≡ record { names = names; world = Some after }) × AppliesEvents tallied.world (all_asked_events commands) after.world
lines_happen names [] [] only are tallied from to is accepts = (tallied, accepts ∙ is, ([], refl))
lines_happen names [] (line ∷ lines) only are tallied from to is accepts = absurd are
lines_happen names (command.Crash w ∷ commands) [] only are tallied from to is accepts = absurd are
lines_happen names (command.Crash w ∷ commands) (line ∷ lines) only are tallied from to is accepts =
    let state : EngineState = record { names = names; world = Some tallied } in
    let accepted : AcceptsLine state (text line) accepts.0 = subst (λ (s : EngineState). AcceptsLine s (text line) accepts.0) is accepts.1 in
    let asked : accepted.request ≡ World (command.Crash w) = same_Some _ _ (sym accepted.asks ∙ are.1.asks) in
    let does : CommandEffectIn (Some tallied) state (command.Crash w) accepted.reply accepts.0 = subst (λ (r : Request). RequestEffect state (Some r) accepted.reply accepts.0) asked accepted.obeys in
    let runs = command_runs tallied does.0 accepted.reply accepted.taken (command.Crash w) refl does.1 in
    let first : AppliesEvents tallied.world (event.Crash w ∷ []) does.0.world = subst (λ (es : List Event). AppliesEvents tallied.world es does.0.world) runs.1 runs.2 in
    let rest = lines_happen names commands lines only are.2 does.0 accepts.0 to does.2 accepts.2 in
    (rest.0, rest.1, happens_then (event.Crash w ∷ []) (all_asked_events commands) tallied.world does.0.world rest.0.world first rest.2)
lines_happen names (other ∷ commands) lines only are tallied from to is accepts = absurd only

-- ---- recovery after the crashes

memory_same : (one other : WorldView) → one.shape ≡ other.shape → one.words ≡ other.words
    → world_memory one ≡ world_memory other
memory_same one other shape words = cc (shape, words)

pub recovers_again : (names others : List (List ℕ)) (bytes crashes : List ℕ) (found begun again : WorldView)
    → AreWholeLines bytes → RecoversWorld bytes names found → length found.privates ≡ found.shape.workers
    → AppendsCommands names [] (crash_commands_from 0 found.privates) crashes → HasCrashedAll found begun → RecoversWorld (bytes ++ crashes) others again → (names ≡ others) × AreWorldsAlike begun again
recovers_again names others bytes crashes found begun again whole before all writes fallen recovers =
    let commands = crash_commands_from 0 found.privates in
    let events = all_asked_events commands in
    let final : EngineState = record { names = others; world = Some recovers.tallied } in
    let first : EngineState = record { names = names; world = Some before.tallied } in
    let written = command_lines names commands crashes [] writes (crash_orders 0 found.privates) in
    let cut : lines_of crashes ≡ map text written.0 = ap lines_of (sym (append-nil crashes)) ∙ (written.2 ∙ (ap (λ (ls : List InputLine). map text written.0 ++ ls) lines_none ∙ append-nil (map text written.0))) in
    let lines : recovers.lines ≡ before.lines ++ map text written.0 = sym (rest_is recovers.header recovers.lines (lines_of (bytes ++ crashes)) recovers.are) ∙ (ap rest_of (lines_whole bytes crashes whole) ∙ (rest_front before.header before.lines (lines_of crashes) (lines_of bytes) before.are ∙ ap (λ (ls : List InputLine). before.lines ++ ls) cut)) in
    let parts = split_accepts before.lines (map text written.0) nothing_open final (subst (λ (ls : List InputLine). AcceptsLines nothing_open ls final) lines recovers.accepts) in
    let same = accept_all before.lines nothing_open nothing_open first parts.0 (refl, tt) before.accepts parts.1 in
    let alike : AreWorldsAlike found before.tallied.world = subst (AreWorldsAlike found) (sym before.its) (alike_itself found) in
    let opened = open_by names found before.tallied parts.0 parts.0.world refl same alike in
    let after = lines_happen names commands written.0 (crash_only 0 found.privates) written.1 opened.tallied parts.0 final opened.is parts.2 in
    let down = crashes_same events (crash_asks 0 found.privates) after.2.0 opened.tallied.world after.0.world after.2.1 in
    let fell = crashes_same fallen.events fallen.crashes fallen.happened.0 found begun fallen.happened.1 in
    let long : length begun.privates ≡ length found.privates = ap length fell.3 ∙ crashed_long fallen.events fallen.crashes found.privates in
    let mine = all_none begun.privates found.privates long (λ worker less. fallen.down worker (omega (arith, less, long, all))) in
    let theirs = down.3 ∙ (ap (crashed_privates events) (sym opened.alike.privates) ∙ crash_all [] found.privates) in
    let shape = fell.0 ∙ (opened.alike.shape ∙ sym down.0) in
    let words = memory_same begun found fell.0 fell.1 ∙ (opened.alike.words ∙ sym (memory_same after.0.world opened.tallied.world down.0 down.1)) in
    let worlds : AreWorldsAlike begun after.0.world = record { shape = shape; words = words; privates = mine ∙ sym theirs; history = fell.2 ∙ (opened.alike.history ∙ sym down.2) } in
    final_alike names others begun recovers.tallied again recovers.its record { tallied = after.0; is = after.1; alike = worlds }

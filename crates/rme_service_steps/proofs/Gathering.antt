-- All seats are joined in one, and their entries in one list.
use Rattle.std.proofs.Common.{◌≡◌, ℕ, zero, suc, ◌+◌, ◌<◌, ◌≤◌, List, [], ◌∷◌, ◌++◌, length, refl, sym, ◌∙◌, ap, subst, arith}
use Rattle.std.specs.Prelude.{slice_get, Some}
use Rattle.std.proofs.lemmas.Option.{same_Some}
use Rattle.std.proofs.lemmas.List.{length-append, append-nil, append_assoc}
use mathlib.Core.Option.{some}
use lib.ListN.{get_elem?}
use Rattle.atomic_table.specs.Table.{Me, Final, Seen, Joins}
use Rattle.atomic_table.specs.Seated.{TableId}
use Rattle.atomic_table.proofs.Lists.{at_last, at_longer}
use Rattle.rme_words.specs.declared.shape.Shape.{Shape}
use Rattle.rme_program.specs.declared.note.Entry.{Entry}
use Rattle.rme_service_steps.specs.declared.seat_record.Part.{Part}
use Rattle.rme_service_steps.specs.declared.seat_record.SeatRecord.{SeatRecord}
use Rattle.rme_service_steps.specs.Layout.{words_of_table}
use Rattle.rme_service_steps.specs.Rule.{ServiceInvariant, RecordsInvariant, TableInvariant, total_of, part_count_of_worker, part_is_of_worker, one_part_record, all_parts, empty_record}
use Rattle.rme_service_steps.specs.SeatViews.{ServiceId, SeatView, WordTableInvariant}
use Rattle.rme_service_steps.specs.Closing.{SeatsAreOfService, parts_given, entries_given, seat_count_of_worker, SeatHasWorkersPart, ServiceIsGathered}
use Rattle.rme_service_steps.proofs.Totals.{total_append, total_at}
use Rattle.rme_service_steps.proofs.Cutting.{joins}

-- The last seat's come first.
parts_last : (seats : List SeatView) (seat : SeatView) → parts_given (seats ++ seat ∷ []) ≡ seat.part ∷ parts_given seats
parts_last [] seat = refl
parts_last (x ∷ seats) seat = ap (λ (ps : List Part). ps ++ x.part ∷ []) (parts_last seats seat)

entries_last : (seats : List SeatView) (seat : SeatView) → entries_given (seats ++ seat ∷ []) ≡ seat.part.entries ++ entries_given seats
entries_last [] seat = sym (append-nil seat.part.entries)
entries_last (x ∷ seats) seat = ap (λ (es : List Entry). es ++ x.part.entries) (entries_last seats seat) ∙ append_assoc seat.part.entries (entries_given seats) x.part.entries

-- Each seat's part is among them, the same number of times.
part_given : (seats : List SeatView) (k : ℕ) (seat : SeatView) → slice_get seats k ≡ Some seat → (j : ℕ) × (get_elem? (parts_given seats) j ≡ some seat.part)
part_given [] k seat at = cc
part_given (x ∷ seats) zero seat at =
    (length (parts_given seats), at_last (parts_given seats) x.part (length (parts_given seats)) refl ∙ ap (λ (y : SeatView). some y.part) (same_Some _ _ at))
part_given (x ∷ seats) (suc k) seat at = let rest = part_given seats k seat at in (rest.0, at_longer (parts_given seats) (x.part ∷ []) rest.0 seat.part rest.1)

seats_counted : (w : ℕ) (seats : List SeatView) → total_of (part_is_of_worker w) (parts_given seats) ≡ seat_count_of_worker w seats
seats_counted w [] = refl
seats_counted w (x ∷ seats) =
    let rest = seats_counted w seats in
    let both = total_append (part_is_of_worker w) (parts_given seats) (x.part ∷ []) in
    omega (arith, rest, both)

-- While seats are joined: the first has the parts, and the history the entries, of all joined ones.
pub record Joined (ident : ServiceId) (seats rest : List SeatView) (own : TableId) (mine : Me ℕ SeatRecord) (old now : List Entry) (room_then room_now : ℕ) : Type 0 where
  pub table : own ≡ ident.table
  pub me : mine ≡ (record { shape = ident.shape; parts = mine.0.parts }, [])
  pub parts : mine.0.parts ++ parts_given rest ≡ parts_given seats
  pub entries : now ++ entries_given rest ≡ old ++ entries_given seats
  pub ours : SeatsAreOfService ident rest
  pub room : room_now ≡ room_then

at_front : {A : Type 0} (xs ys : List A) (k : ℕ) (x : A) → slice_get xs k ≡ Some x → slice_get (xs ++ ys) k ≡ Some x
at_front [] ys k x at = cc
at_front (y ∷ xs) ys zero x at = at
at_front (y ∷ xs) ys (suc k) x at = at_front xs ys k x at

at_end : {A : Type 0} (xs : List A) (x : A) → slice_get (xs ++ x ∷ []) (length xs) ≡ Some x
at_end [] x = refl
at_end (y ∷ xs) x = at_end xs x

-- The last of some seats is removed.
module _ (ident : ServiceId) (rest left : List SeatView) (seat : SeatView) (takes : rest ≡ left ++ seat ∷ []) (ours : SeatsAreOfService ident rest) where
  pub last_ours : seat.ident ≡ ident
  last_ours = ours (length left) seat (ap (λ (xs : List SeatView). slice_get xs (length left)) takes ∙ at_end left seat)

  pub left_ours : SeatsAreOfService ident left
  left_ours k x at = ours k x (ap (λ (xs : List SeatView). slice_get xs k) takes ∙ at_front left (seat ∷ []) k x at)

  pub left_parts : parts_given rest ≡ seat.part ∷ parts_given left
  left_parts = ap parts_given takes ∙ parts_last left seat

  pub left_entries : entries_given rest ≡ seat.part.entries ++ entries_given left
  left_entries = ap entries_given takes ∙ entries_last left seat

-- Its entries have room, and are put to the history.
module _ (old now rest left own : List Entry) (all room : ℕ) (cut : rest ≡ own ++ left) where
  pub room_for : length (now ++ rest) ≤ all → length now + length own ≤ all
  room_for wide =
      let l = length-append now rest in
      let r : length rest ≡ length own + length left = ap (λ (es : List Entry). length es) cut ∙ length-append own left in
      omega (arith, l, r, wide)

  pub history_on : (later : List Entry) → later ≡ now ++ own → later ++ left ≡ now ++ rest
  history_on later grows =
      ap (λ (es : List Entry). es ++ left) grows ∙ append_assoc now own left ∙ ap (λ (es : List Entry). now ++ es) (sym cut)

pub joined_first : (ident : ServiceId) (seats left : List SeatView) (seat : SeatView) (table : TableId) (me : Me ℕ SeatRecord) (old now : List Entry) (room_then room : ℕ)
    → SeatsAreOfService ident seats → seats ≡ left ++ seat ∷ [] → table ≡ seat.ident.table → me ≡ (one_part_record seat.ident.shape seat.part, []) → now ≡ old ++ seat.part.entries → room ≡ room_then
    → Joined ident seats left table me old now room_then room
joined_first ident seats left seat table me old now room_then room ours takes own is grows same = record {
  table = own ∙ ap (λ (x : ServiceId). x.table) mine;
  me = is ∙ ap (λ (x : ServiceId). let m : Me ℕ SeatRecord = (one_part_record x.shape seat.part, []) in m) mine ∙ ap (λ (ps : List Part). let m : Me ℕ SeatRecord = (record { shape = ident.shape; parts = ps }, []) in m) (sym has);
  parts = ap (λ (ps : List Part). ps ++ parts_given left) has ∙ sym (left_parts ident seats left seat takes ours);
  entries = history_on old old (entries_given seats) (entries_given left) seat.part.entries 0 0 (left_entries ident seats left seat takes ours) now grows;
  ours = left_ours ident seats left seat takes ours;
  room = same;
}
  where
    mine : seat.ident ≡ ident
    mine = last_ours ident seats left seat takes ours

    has : me.0.parts ≡ seat.part ∷ []
    has = ap (λ (m : Me ℕ SeatRecord). m.0.parts) is

pub joined_next : (ident : ServiceId) (seats rest left : List SeatView) (seat : SeatView) (table later : TableId) (me after : Me ℕ SeatRecord) (other : Me ℕ SeatRecord) (old now more : List Entry) (room_then room wide : ℕ)
    → Joined ident seats rest table me old now room_then room → rest ≡ left ++ seat ∷ [] → later ≡ table → other ≡ (one_part_record seat.ident.shape seat.part, [])
    → after ≡ (all_parts me.0 other.0, me.1) → more ≡ now ++ seat.part.entries → wide ≡ room → Joined ident seats left later after old more room_then wide
joined_next ident seats rest left seat table later me after other old now more room_then room wide joined takes same is both grows keeps = record {
  table = same ∙ joined.table;
  me = whole ∙ ap (λ (ps : List Part). let m : Me ℕ SeatRecord = (record { shape = ident.shape; parts = ps }, []) in m) (sym has);
  parts = ap (λ (ps : List Part). ps ++ parts_given left) has ∙ append_assoc me.0.parts (seat.part ∷ []) (parts_given left)
      ∙ ap (λ (ps : List Part). me.0.parts ++ ps) (sym (left_parts ident rest left seat takes joined.ours)) ∙ joined.parts;
  entries = history_on old now (entries_given rest) (entries_given left) seat.part.entries 0 0 (left_entries ident rest left seat takes joined.ours) more grows ∙ joined.entries;
  ours = left_ours ident rest left seat takes joined.ours;
  room = keeps ∙ joined.room;
}
  where
    gained : after ≡ (all_parts me.0 (one_part_record seat.ident.shape seat.part), me.1)
    gained = both ∙ ap (λ (m : Me ℕ SeatRecord). let n : Me ℕ SeatRecord = (all_parts me.0 m.0, me.1) in n) is

    has : after.0.parts ≡ me.0.parts ++ seat.part ∷ []
    has = ap (λ (m : Me ℕ SeatRecord). m.0.parts) gained

    whole : after ≡ (record { shape = ident.shape; parts = me.0.parts ++ seat.part ∷ [] }, [])
    whole = gained ∙ ap (λ (m : Me ℕ SeatRecord). let n : Me ℕ SeatRecord = (record { shape = m.0.shape; parts = me.0.parts ++ seat.part ∷ [] }, m.1) in n) joined.me

-- The next seat may be joined.
pub may_join : (ident : ServiceId) (seats rest left : List SeatView) (seat : SeatView) (table theirs tid : TableId) (key shape : Shape) (me other : Me ℕ SeatRecord) (id its : ℕ) (old now : List Entry) (room_then room : ℕ)
    → Joined ident seats rest table me old now room_then room → rest ≡ left ++ seat ∷ [] → theirs ≡ seat.ident.table → other ≡ (one_part_record seat.ident.shape seat.part, [])
    → record { table = tid; shape = shape } ≡ ident → WordTableInvariant tid key shape
    → (table ≡ tid) × (theirs ≡ tid) × (other.1 ≡ []) × (0 < tid.words) × Joins (TableInvariant key) id me.0 its other.0 (all_parts me.0 other.0) empty_record
may_join ident seats rest left seat table theirs tid key shape me other id its old now room_then room joined takes own is known keeps = (
  joined.table ∙ sym tables,
  own ∙ ap (λ (x : ServiceId). x.table) (last_ours ident rest left seat takes joined.ours) ∙ sym tables,
  ap (λ (m : Me ℕ SeatRecord). m.1) is,
  omega (arith, keeps.words),
  joins key id its me.0 other.0 (ap (λ (m : Me ℕ SeatRecord). m.0.shape) joined.me ∙ sym (keeps.key ∙ ap (λ (x : ServiceId). x.shape) known)),
)
  where
    tables : tid ≡ ident.table
    tables = ap (λ (x : ServiceId). x.table) known

pub joined_room : (ident : ServiceId) (seats rest left : List SeatView) (seat : SeatView) (table : TableId) (me : Me ℕ SeatRecord) (old now : List Entry) (room_then room : ℕ)
    → Joined ident seats rest table me old now room_then room → rest ≡ left ++ seat ∷ [] → length old + length (entries_given seats) ≤ room_then → length now + length seat.part.entries ≤ room
joined_room ident seats rest left seat table me old now room_then room joined takes wide =
    let all : length (now ++ entries_given rest) ≡ length old + length (entries_given seats) =
    ap (λ (es : List Entry). length es) joined.entries ∙ length-append old (entries_given seats) in
    room_for old now (entries_given rest) (entries_given left) seat.part.entries room 0 (left_entries ident rest left seat takes joined.ours) (omega (arith, all, wide, joined.room))

pub first_room : (ident : ServiceId) (seats left : List SeatView) (seat : SeatView) (old : List Entry) (room : ℕ) → SeatsAreOfService ident seats → seats ≡ left ++ seat ∷ []
    → length old + length (entries_given seats) ≤ room → length old + length seat.part.entries ≤ room
first_room ident seats left seat old room ours takes wide =
    let l = length-append old (entries_given seats) in
    room_for old old (entries_given seats) (entries_given left) seat.part.entries room 0 (left_entries ident seats left seat takes ours) (omega (arith, l, wide))

-- What the table shows at the end.
pub gathers : (ident : ServiceId) (key : Shape) (seats : List SeatView) (id : ℕ) (me : Me ℕ SeatRecord) (words : List ℕ) (slots : List ℕ) (old_words new_words : List ℕ) (old new : List Entry)
    → Final (Seen (TableInvariant key) id me.0) words slots → key ≡ ident.shape → me ≡ (record { shape = ident.shape; parts = parts_given seats }, [])
    → new_words ≡ old_words ++ words_of_table ident.shape words → new ≡ old ++ entries_given seats → ServiceIsGathered ident.shape seats old_words old new_words new
gathers ident key seats id me words slots old_words new_words old new (state, seen, same, long, homes) keyed is bank entries = record {
  words = words;
  parts = shown.parts;
  history = shown.history;
  world = subst (λ (ws : List ℕ). ServiceInvariant ident.shape ws shown.parts shown.history) same shown.world;
  given = given;
  apart = apart;
  bank = bank;
  entries = entries;
}
  where
    shown : RecordsInvariant ident.shape state.words state.views
    shown = subst (λ (k : Shape). RecordsInvariant k state.words state.views) keyed seen.0

    mine : SeatRecord
    mine = record { shape = ident.shape; parts = parts_given seats }

    there : get_elem? state.views id ≡ some mine
    there = seen.1 ∙ ap (λ (m : Me ℕ SeatRecord). some m.0) is

    given : (k : ℕ) (seat : SeatView) → slice_get seats k ≡ Some seat → SeatHasWorkersPart ident.shape shown.parts seat
    given k seat at =
        let among = part_given seats k seat at in
        let own = (shown.agrees id mine there).own among.0 seat.part among.1 in
        record { worker = own.0; here = own.1 }

    apart : (w : ℕ) → w < ident.shape.workers → seat_count_of_worker w seats ≤ 1
    apart w worker =
        let one = shown.once w worker in
        let some_part = total_at (part_count_of_worker w) state.views id mine there in
        let counted = seats_counted w seats in
        omega (arith, one, some_part, counted)

-- The opening: the words are all 0, and the first seat has the parts of all workers.
use Rattle.std.proofs.Common.{◌≡◌, ◌⊎◌, ℕ, zero, suc, ◌+◌, ◌-◌, ◌<◌, ◌≤◌, List, [], ◌∷◌, ◌++◌, map, length, get_or, refl, sym, ◌∙◌, ap, subst, inl, inr, arith}
use Rattle.std.specs.Prelude.{false, Some, None, slice_get, replicate}
use Rattle.std.specs.List.{range_with_len}
use Rattle.std.proofs.lemmas.Bool.{cases_Bool, cases_eq, eq-eqb, ne_eqb}
use Rattle.std.proofs.lemmas.List.{length-append}
use Rattle.std.proofs.lemmas.Option.{same_Some}
use lib.ListN.{get_elem?, length-replicate}
use mathlib.Core.Option.{some, some-injective, some-ne-none}
use Rattle.atomic_table.specs.Table.{Me, Splits}
use Rattle.atomic_table.specs.Seated.{TableId}
use Rattle.rme_words.specs.declared.shape.Shape.{Shape}
use Rattle.rme_words.specs.declared.address.Address.{Address}
use Rattle.rme_words.specs.Words.{is_shape_address}
use Rattle.rme_words.proofs.Loads.{read_outside, true-of_shape}
use Rattle.rme_program.specs.declared.note.Entry.{Entry}
use Rattle.rme_machine.specs.Invariant.{Invariant}
use Rattle.rme_machine.specs.Machine.{MachineState, WorkerState, opening_worker, opening_state}
use Rattle.rme_machine.specs.AbstractState.{abstract_state}
use Rattle.rme_machine.specs.FurtherLaws.{StateHasDrafts, StanceHasDraft}
use Rattle.rme_machine.proofs.Opening.{opening}
use Rattle.rme_service_steps.specs.declared.seat_record.Part.{Part}
use Rattle.rme_service_steps.specs.declared.seat_record.SeatRecord.{SeatRecord}
use Rattle.rme_service_steps.specs.Layout.{position_of_address, table_size, words_of_table}
use Rattle.rme_service_steps.specs.Parts.{fresh_part}
use Rattle.rme_service_steps.specs.Rule.{ServiceInvariant, RecordsInvariant, RecordAgrees, TableInvariant, table_memory, privates_of_parts, total_of, part_count_of_worker, part_is_of_worker, one_part_record, only_part, opening_record, other_parts, first_part}
use Rattle.rme_service_steps.specs.Steps.{PartWasInWorld}
use Rattle.rme_service_steps.specs.SeatViews.{ServiceId, SeatView, WordTableInvariant, SeatInvariant}
use Rattle.rme_service_steps.specs.Opening.{zero_table, record_from_worker, IsFreshSeat}
use Rattle.rme_service_steps.proofs.Tables.{found_read}
use Rattle.rme_service_steps.proofs.Worlds.{world_of}
use Rattle.rme_service_steps.proofs.Cutting.{splits}

one_more : (n : ℕ) → 1 + n ≡ suc n
one_more n = omega arith

-- A list of one value many times has it everywhere, and past its end where that is what is asked for.
same_at : {A : Type 0} (x : A) (n i : ℕ) → get_or (replicate n x) i x ≡ x
same_at x zero i = refl
same_at x (suc n) zero = refl
same_at x (suc n) (suc i) = same_at x n i

all_same : {A : Type 0} (x y : A) (n i : ℕ) → slice_get (replicate n x) i ≡ Some y → y ≡ x
all_same x y zero i at = cc
all_same x y (suc n) zero at = sym (same_Some _ _ at)
all_same x y (suc n) (suc i) at = all_same x y n i at

-- A member of a list with one more at its end is that, or a member of the list.
pub last_or_before : {A : Type 0} (xs : List A) (x : A) (k : ℕ) (y : A) → slice_get (xs ++ x ∷ []) k ≡ Some y → (slice_get xs k ≡ Some y) ⊎ ((k ≡ length xs) × (y ≡ x))
last_or_before [] x zero y at = inr (refl, sym (same_Some _ _ at))
last_or_before [] x (suc k) y at = cc
last_or_before (z ∷ xs) x zero y at = inl at
last_or_before (z ∷ xs) x (suc k) y at = elim (last_or_before xs x k y at) [
  | inl before ↦ inl before
  | inr last ↦ inr (omega (arith, last.0), last.1)
]

module _ (s : Shape) where
  blank : (a : Address) → table_memory s (zero_table s) a ≡ 0
  blank a = elim (cases_Bool (is_shape_address s a)) [
    | inl is ↦
        let within = true-of_shape s a is in
        sym (found_read s (zero_table s) (length-replicate (table_size s) 0) a within) ∙ same_at 0 (table_size s) (position_of_address s a)
    | inr not ↦ read_outside s (words_of_table s (zero_table s)) a not
  ]

  opened : Invariant s (table_memory s (zero_table s)) (privates_of_parts fresh_part) [] × (abstract_state s (table_memory s (zero_table s)) (privates_of_parts fresh_part) [] ≡ opening_state s)
  opened = opening s (table_memory s (zero_table s)) (privates_of_parts fresh_part) blank (λ w worker. refl)

  drafts : StateHasDrafts (abstract_state s (table_memory s (zero_table s)) (privates_of_parts fresh_part) []) (λ (w : ℕ). (fresh_part w).draft)
  drafts = subst (λ (state : MachineState). StateHasDrafts state (λ (w : ℕ). (fresh_part w).draft)) (sym opened.1)
      (λ w me at. subst (λ (x : WorkerState). StanceHasDraft x.stance None) (sym (all_same opening_worker me s.workers w at)) tt)

  pub opening_world : ServiceInvariant s (zero_table s) fresh_part []
  opening_world = world_of s (zero_table s) fresh_part [] (length-replicate (table_size s) 0) opened.0
      (λ w worker. record { own = refl; entries = refl }) drafts (λ w me at. tt)

  -- So each worker's fresh part was in a world.
  pub fresh_stood : (w : ℕ) → w < s.workers → PartWasInWorld s (fresh_part w)
  fresh_stood w worker = record { words = zero_table s; parts = fresh_part; history = []; world = opening_world; worker = worker; here = refl }

-- The fresh parts of a row of workers: each worker's comes once.
none_before : (w from n : ℕ) → w < from → total_of (part_is_of_worker w) (map fresh_part (range_with_len from n)) ≡ 0
none_before w from zero low = refl
none_before w from (suc n) low =
    let this : part_is_of_worker w (fresh_part from) ≡ 0 = rw (ne_eqb from w (λ e. omega (arith, low, e))) refl in
    let rest = none_before w (from + 1) n (omega (arith, low)) in
    omega (arith, this, rest)

one_among : (w from n : ℕ) → from ≤ w → w < from + n → total_of (part_is_of_worker w) (map fresh_part (range_with_len from n)) ≡ 1
one_among w from zero low high = absurd (omega (arith, low, high))
one_among w from (suc n) low high = elim (cases_eq from w) [
  | inl e ↦
      let this : part_is_of_worker w (fresh_part from) ≡ 1 = rw (eq-eqb from w e) refl in
      let rest = none_before w (from + 1) n (omega (arith, e)) in
      omega (arith, this, rest)
  | inr apart ↦
      let this : part_is_of_worker w (fresh_part from) ≡ 0 = rw (ne_eqb from w apart) refl in
      let rest = one_among w (from + 1) n (omega (arith, low, apart)) (omega (arith, high)) in
      omega (arith, this, rest)
]

fresh_at : (from n k : ℕ) (p : Part) → get_elem? (map fresh_part (range_with_len from n)) k ≡ some p → (k < n) × (p ≡ fresh_part (from + k))
fresh_at from zero k p at = absurd (some-ne-none p (sym at))
fresh_at from (suc n) zero p at = (omega arith, sym (some-injective (fresh_part from) p at) ∙ ap fresh_part (omega arith))
fresh_at from (suc n) (suc k) p at =
    let rest = fresh_at (from + 1) n k p at in
    (omega (arith, rest.0), rest.1 ∙ ap fresh_part (omega arith))

-- The rule holds at the opening.
pub opens : (s : Shape) → RecordsInvariant s (zero_table s) (opening_record s ∷ [])
opens s = record { parts = fresh_part; history = []; once = once; agrees = agrees; world = opening_world s }
  where
    once : (w : ℕ) → w < s.workers → total_of (part_count_of_worker w) (opening_record s ∷ []) ≡ 1
    once w worker = let one = one_among w 0 s.workers (omega arith) (omega (arith, worker)) in omega (arith, one)

    agrees : (seat : ℕ) (its : SeatRecord) → get_elem? (opening_record s ∷ []) seat ≡ some its → RecordAgrees s fresh_part its
    agrees zero its at = subst (λ (r : SeatRecord). RecordAgrees s fresh_part r) (some-injective (opening_record s) its at) record {
      shaped = λ some_part. refl;
      own = λ k p here. (let is = fresh_at 0 s.workers k p here in
          let P : Part → Type 0 = λ (x : Part). (x.worker < s.workers) × (fresh_part x.worker ≡ x) in
          let fresh : P (fresh_part (0 + k)) = (omega (arith, is.0), refl) in subst P (sym is.1) fresh);
    }
    agrees (suc seat) its at = absurd (some-ne-none its (sym at))

-- A worker's part is the first of those that are left.
first_left : (s : Shape) (w : ℕ) → w < s.workers → ◌≡◌ {A = SeatRecord} (record_from_worker s w) record { shape = s; parts = fresh_part w ∷ (record_from_worker s (w + 1)).parts }
first_left s w worker =
    let count : s.workers - w ≡ suc (s.workers - (w + 1)) = omega (arith, worker) in
    ap {B = SeatRecord} (λ (n : ℕ). record { shape = s; parts = map fresh_part (range_with_len w n) }) count

-- A worker's part is split off the first seat: that is allowed, and the parts of both seats after it.
module _ (ident : ServiceId) (me : Me ℕ SeatRecord) (w : ℕ) (left : me ≡ (record_from_worker ident.shape w, [])) (worker : w < ident.shape.workers) where
  cut : ◌≡◌ {A = SeatRecord} me.0 record { shape = ident.shape; parts = fresh_part w ∷ (record_from_worker ident.shape (w + 1)).parts }
  cut = ap (λ (m : Me ℕ SeatRecord). m.0) left ∙ first_left ident.shape w worker

  pub may_deal : (mine tid : TableId) (key shape : Shape) (id : ℕ) → record { table = tid; shape = shape } ≡ ident → WordTableInvariant tid key shape → mine ≡ ident.table → (mine ≡ tid) × (0 < tid.words) × Splits (TableInvariant key) id me.0 (other_parts me.0) (first_part me.0)
  may_deal mine tid key shape id known keeps own =
      let P : SeatRecord → Type 0 = λ (r : SeatRecord). Splits (TableInvariant key) id r (other_parts r) (first_part r) in (
        own ∙ ap (λ (x : ServiceId). x.table) (sym known),
        omega (arith, keeps.words),
        subst P (sym cut) (splits key id ident.shape (fresh_part w) (record_from_worker ident.shape (w + 1)).parts),
      )

  pub dealt_rest : (after : Me ℕ SeatRecord) → after ≡ (other_parts me.0, me.1) → after ≡ (record_from_worker ident.shape (w + 1), [])
  dealt_rest after is =
      is ∙ ap (λ (m : Me ℕ SeatRecord). (other_parts m.0, m.1)) left ∙ ap (λ (r : SeatRecord). let m : Me ℕ SeatRecord = (other_parts r, []) in m) (first_left ident.shape w worker)

  dealt_me : (after : Me ℕ SeatRecord) → after ≡ (first_part me.0, []) → after ≡ (one_part_record ident.shape (fresh_part w), [])
  dealt_me after is = is ∙ ap (λ (r : SeatRecord). let m : Me ℕ SeatRecord = (first_part r, []) in m) cut

  -- A fresh seat satisfies the invariant of every seat.
  pub dealt_seated : (after : Me ℕ SeatRecord) (es : List Entry) (room : ℕ) → after ≡ (first_part me.0, []) → es ≡ [] → ident.shape.jobs ≤ room → SeatInvariant after w false es room
  dealt_seated after es room is none wide =
      let fresh : SeatInvariant (one_part_record ident.shape (fresh_part w), []) w false [] room =
      record { one = refl; own = refl; drafts = refl; all = refl; jobs = wide; stood = fresh_stood ident.shape w worker } in
      subst (λ (xs : List Entry). SeatInvariant after w false xs room) (sym none) (subst (λ (m : Me ℕ SeatRecord). SeatInvariant m w false [] room) (sym (dealt_me after is)) fresh)

  pub dealt_stand : (others mine : TableId) (after : Me ℕ SeatRecord) → others ≡ mine → mine ≡ ident.table → after ≡ (first_part me.0, [])
      → ◌≡◌ {A = SeatView} record { ident = record { table = others; shape = after.0.shape }; part = only_part after.0 } record { ident = ident; part = fresh_part w }
  dealt_stand others mine after same own is = λ k. record {
    ident = record { table = (same ∙ own) k; shape = ap (λ (m : Me ℕ SeatRecord). m.0.shape) (dealt_me after is) k };
    part = ap (λ (m : Me ℕ SeatRecord). only_part m.0) (dealt_me after is) k;
  }

-- One more seat is split off.
pub dealt_more : (ident : ServiceId) (seats more : List SeatView) (w : ℕ) (seat : SeatView) → length seats ≡ w → ((k : ℕ) (s : SeatView) → slice_get seats k ≡ Some s → IsFreshSeat ident k s)
    → seat ≡ record { ident = ident; part = fresh_part w } → more ≡ seats ++ seat ∷ [] → (k : ℕ) (s : SeatView) → slice_get more k ≡ Some s → IsFreshSeat ident k s
dealt_more ident seats more w seat long fresh is grows k s at = elim (last_or_before seats seat k s (subst (λ (xs : List SeatView). slice_get xs k ≡ Some s) grows at)) [
  | inl before ↦ fresh k s before
  | inr last ↦
      (let P : ℕ → SeatView → Type 0 = λ (n : ℕ) (x : SeatView). IsFreshSeat ident n x in
      let here : P w record { ident = ident; part = fresh_part w } = record { ours = refl; part = refl } in
      let named : P w s = subst (λ (x : SeatView). P w x) (sym is ∙ sym last.1) here in
      subst (λ (n : ℕ). P n s) (sym long ∙ sym last.0) named)
]

pub one_longer : {A : Type 0} (xs ys : List A) (y : A) (n : ℕ) → xs ≡ ys ++ y ∷ [] → length ys ≡ n → length xs ≡ n + 1
one_longer xs ys y n grows long = ap (λ (l : List _). length l) grows ∙ length-append ys (y ∷ []) ∙ omega (arith, long)

-- The gathered parts, with each lock filled from them, are a closed service.
use Rattle.std.proofs.Common.{◌≡◌, ℕ, ◌<◌, List, [], ◌++◌, length, refl, sym, ◌∙◌, ap, subst, arith}
use Rattle.std.specs.Prelude.{Bool, true, false, ◌==◌, if◌then◌else◌, slice_get, Option, Some, None}
use Rattle.std.specs.List.{All}
use Rattle.std.specs.List.Sorted.{IsPermutation, IsSorted}
use Rattle.std.proofs.lemmas.Bool.{eq-eqb}
use Rattle.std.proofs.lemmas.List.Sorted.{IsPermutation-trans, All-permutation}
use Rattle.std.proofs.lemmas.Option.{slice_get_within}
use Rattle.rme_words.specs.declared.shape.Shape.{Shape}
use Rattle.rme_words.specs.declared.address.Address.{Address}
use Rattle.rme_words.specs.Words.{Memory, word_count}
use Rattle.rme_tree.specs.Nodes.{owner_in}
use Rattle.rme_program.specs.declared.note.Entry.{Entry}
use Rattle.rme_machine.specs.Invariant.{Invariant}
use Rattle.rme_machine.specs.Histories.{history_of_lock, history_of_worker}
use Rattle.rme_machine.specs.AbstractState.{Privates, abstract_state}
use Rattle.rme_machine.specs.AbstractCells.{AbstractCells, is_lock_settled}
use Rattle.rme_machine.proofs.Tables.{tables}
use Rattle.rme_history.specs.Places.{place_order}
use Rattle.rme_history.proofs.Machines.{legal_both}
use Rattle.rme_history.proofs.Returning.{returning}
use Rattle.rme_service_steps.specs.Layout.{words_of_table}
use Rattle.rme_service_steps.specs.Rule.{table_memory, privates_of_parts}
use Rattle.rme_service_steps.specs.declared.seat_record.Part.{Part}
use Rattle.rme_service_steps.specs.SeatViews.{SeatView}
use Rattle.rme_service_steps.specs.Closing.{entries_given, ServiceIsGathered}
use Rattle.rme_service_steps.proofs.Positions.{bank_count}
use Rattle.rme_table.specs.declared.closed.ClosedLock.{ClosedLock}
use Rattle.rme_table.specs.Downs.{all_given}
use Rattle.rme_table.specs.Filling.{LockHasRoom, LocksHaveRoom, IsFilledLock, entries_to_copy, is_lock_settled_by_words}
use Rattle.rme_table.specs.Closing.{IsClosedService, IsClosedLock, abstract_state_of_parts}
use Rattle.rme_table.proofs.Mixed.{all_kept, history_mixed, lock_mixed}

-- Whether a lock is settled by the words is whether it is in the abstract state.
pub settled_as : (s : Shape) (mem : Address → ℕ) (privs : Privates) (es : List Entry) (lock : ℕ) (owner : Option ℕ) → Invariant s mem privs es → lock < s.locks → owner_in s mem lock ≡ owner
    → is_lock_settled_by_words mem owner ≡ is_lock_settled (abstract_state s mem privs es) lock
settled_as s mem privs es lock None fact below is = sym (tables.free s mem privs es lock fact below is)
settled_as s mem privs es lock (Some worker) fact below is = sym (tables.owned s mem privs es lock worker fact below is)

-- The gathered words are as many as the shape has.
pub gathered_long : (s : Shape) (downs : List SeatView) (before after : List ℕ) (old new : List Entry) → ServiceIsGathered s downs before old after new → before ≡ [] → length after ≡ word_count s
gathered_long s downs before after old new g none =
    ap (λ (l : List ℕ). length l) (g.bank ∙ ap (λ (l : List ℕ). l ++ words_of_table s g.words) none) ∙ bank_count s g.words

module _ (s : Shape) (downs : List SeatView) (before after : List ℕ) (old new sorted : List Entry) (g : ServiceIsGathered s downs before old after new) (none : before ≡ []) (nothing : old ≡ [])
    (all : all_given s downs ≡ true) (mixes : IsPermutation new sorted) (order : IsSorted place_order sorted) where
  entries_are : new ≡ entries_given downs
  entries_are = g.entries ∙ ap (λ (es : List Entry). es ++ entries_given downs) nothing

  own : (k : ℕ) (d : SeatView) → slice_get downs k ≡ Some d → (d.part.worker < s.workers) × (history_of_worker g.history d.part.worker ≡ d.part.entries)
  own k d at =
      let given = g.given k d at in
      (given.worker, (g.world.books d.part.worker given.worker).entries ∙ ap (λ (p : Part). p.entries) given.here)

  sorts : IsPermutation (entries_given downs) sorted
  sorts = subst (λ (es : List Entry). IsPermutation es sorted) entries_are mixes

  mixed : IsPermutation g.history sorted
  mixed = IsPermutation-trans _ _ _ (history_mixed s g.history downs g.world.fact.legal all own g.apart) sorts

  back : (lock : ℕ) → history_of_lock sorted lock ≡ history_of_lock g.history lock
  back = returning s g.history sorted ((legal_both s g.history).0 g.world.fact.legal).1 mixed order

  -- If there is only one lock, all entries are its own.
  only : s.locks ≡ 1 → history_of_lock sorted 0 ≡ sorted
  only one =
      let jobs = ((legal_both s g.history).0 g.world.fact.legal).1.jobs in
      let first : All (λ (e : Entry). (e.receipt.lock == 0) ≡ true) g.history = λ k d within. eq-eqb _ _ (omega (arith, one, (jobs k d within).lock)) in
      all_kept (λ (e : Entry). e.receipt.lock == 0) sorted (All-permutation (λ (e : Entry). (e.receipt.lock == 0) ≡ true) g.history sorted mixed first)

  pub still_only : (bank : Memory) (entries : List Entry) → bank.shape ≡ s → entries ≡ sorted → bank.shape.locks ≡ 1 → history_of_lock entries 0 ≡ entries
  still_only bank entries shaped same one =
      subst (λ (es : List Entry). history_of_lock es 0 ≡ es) (sym same) (only (ap (λ (x : Shape). x.locks) (sym shaped) ∙ one))

  room_by : (few : Bool) (rooms : List ClosedLock) → LocksHaveRoom s (if few then [] else entries_given downs) rooms → LocksHaveRoom s (if few then [] else sorted) rooms
  room_by true rooms have = have
  room_by false rooms have = record {
    count = have.count;
    each = λ lock room at. subst (λ (n : ℕ). LockHasRoom s n room) (sym (lock_mixed lock (entries_given downs) sorted sorts)) (have.each lock room at);
  }

  -- The reserved room is enough for the sorted entries.
  pub still_room : (bank : Memory) (entries : List Entry) (rooms : List ClosedLock) → bank.shape ≡ s → entries ≡ sorted → LocksHaveRoom s (entries_to_copy s (entries_given downs)) rooms
      → LocksHaveRoom bank.shape (entries_to_copy bank.shape entries) rooms
  still_room bank entries rooms shaped same have =
      let P : Shape → List Entry → Type 0 = λ (x : Shape) (es : List Entry). LocksHaveRoom x (entries_to_copy x es) rooms in
      let here : P s sorted = room_by (s.locks == 1) rooms have in
      subst (λ (x : Shape). P x entries) (sym shaped) (subst (λ (es : List Entry). P s es) (sym same) here)

  one_lock : (lock : ℕ) (closed : ClosedLock) → lock < s.locks → IsFilledLock record { shape = s; words = words_of_table s g.words } sorted lock closed
      → IsClosedLock s g.words (abstract_state_of_parts s g.words g.parts g.history) lock closed
  one_lock lock closed below filled =
      let mem = table_memory s g.words in
      let privs = privates_of_parts g.parts in record {
        cells = filled.cells;
        as_shown = subst (λ (cells : List ℕ). AbstractCells s (abstract_state_of_parts s g.words g.parts g.history) lock cells) (sym filled.cells) ((tables.tables s mem privs g.history g.world.fact).cells lock below);
        owner = filled.owner ∙ (tables.tables s mem privs g.history g.world.fact).owners lock below;
        settled = filled.settled ∙ settled_as s mem privs g.history lock (owner_in s mem lock) g.world.fact below refl;
        entries = filled.its_entries ∙ back lock;
      }

  pub closes : (bank : Memory) (entries : List Entry) (locks : List ClosedLock) → bank ≡ record { shape = s; words = after } → entries ≡ sorted → length locks ≡ bank.shape.locks
      → ((lock : ℕ) (closed : ClosedLock) → slice_get locks lock ≡ Some closed → IsFilledLock bank entries lock closed) → IsClosedService s downs locks
  closes bank entries locks is same count filled = record {
    words = g.words;
    parts = g.parts;
    history = g.history;
    world = g.world;
    given = g.given;
    all = all;
    legal = g.world.fact.legal;
    count = long;
    each = λ lock closed at.
        let within = slice_get_within locks lock closed at in
        one_lock lock closed (omega (arith, within, long)) (moved lock closed (filled lock closed at));
  }
    where
      whole : bank ≡ record { shape = s; words = words_of_table s g.words }
      whole = is ∙ ap {B = Memory} (λ (ws : List ℕ). record { shape = s; words = ws }) (g.bank ∙ ap (λ (ws : List ℕ). ws ++ words_of_table s g.words) none)

      long : length locks ≡ s.locks
      long = count ∙ ap (λ (m : Memory). m.shape.locks) whole

      moved : (lock : ℕ) (closed : ClosedLock) → IsFilledLock bank entries lock closed → IsFilledLock record { shape = s; words = words_of_table s g.words } sorted lock closed
      moved lock closed fills =
          let P : Memory → List Entry → Type 0 = λ (m : Memory) (es : List Entry). IsFilledLock m es lock closed in
          subst (λ (m : Memory). P m sorted) whole (subst (λ (es : List Entry). P bank es) same fills)

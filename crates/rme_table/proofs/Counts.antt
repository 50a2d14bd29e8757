-- The gathered parts, with the counts of each lock, are a closed service with counts.
use Rattle.std.proofs.Common.{◌≡◌, ℕ, ◌+◌, ◌<◌, ◌≤◌, List, [], ◌∷◌, ◌++◌, length, refl, sym, ◌∙◌, ap, subst, inl, inr, arith}
use Rattle.std.specs.Prelude.{Bool, true, false, not, slice_get, slice_set, Option, Some, None}
use Rattle.std.proofs.lemmas.Option.{slice_get_within}
use Rattle.rme_words.specs.declared.shape.Shape.{Shape}
use Rattle.rme_words.specs.declared.address.Address.{Address}
use Rattle.rme_words.specs.declared.address.Address.TheVariants.{Turn}
use Rattle.rme_words.specs.Words.{Memory}
use Rattle.rme_tree.specs.Nodes.{owner_in}
use Rattle.rme_program.specs.declared.note.Entry.{Entry}
use Rattle.rme_machine.specs.Invariant.{LockInvariant, OwnedLockInvariant}
use Rattle.rme_machine.specs.Histories.{place_of}
use Rattle.rme_machine.specs.AbstractCells.{AbstractCells}
use Rattle.rme_machine.specs.Views.{LockWords, WorkerWords, is_pending, lock_words, worker_words}
use Rattle.rme_machine.proofs.Sections.{place_count}
use Rattle.rme_machine.proofs.Tables.{tables}
use Rattle.rme_service_steps.specs.Layout.{words_of_table}
use Rattle.rme_service_steps.specs.Rule.{table_memory, privates_of_parts}
use Rattle.rme_service_steps.specs.SeatViews.{SeatView}
use Rattle.rme_service_steps.specs.Closing.{entries_given, ServiceIsGathered}
use Rattle.rme_service_steps.proofs.Opened.{last_or_before}
use Rattle.rme_table.specs.declared.closed.CountedLock.{CountedLock}
use Rattle.rme_table.specs.Downs.{all_given}
use Rattle.rme_table.specs.Filling.{is_lock_settled_by_words}
use Rattle.rme_table.specs.Closing.{abstract_state_of_parts}
use Rattle.rme_table.specs.Counting.{LockHasCountRoom, IsCountedService, IsCountFilled, IsCountedLock, finished_by_turn}
use Rattle.rme_table.proofs.Closes.{settled_as}
use Rattle.rme_table.proofs.Filled.{written}

-- The first `done` locks are filled, and the others still have their room.
pub record PartCounted (memory : Memory) (done : ℕ) (locks : List CountedLock) : Type 0 where
  pub count : length locks ≡ memory.shape.locks
  pub filled : (lock : ℕ) (counted : CountedLock) → slice_get locks lock ≡ Some counted → lock < done → IsCountFilled memory lock counted
  pub rooms : (lock : ℕ) (room : CountedLock) → slice_get locks lock ≡ Some room → done ≤ lock → LockHasCountRoom memory.shape room

pub one_counted : (memory : Memory) (done : ℕ) (locks later : List CountedLock) (counted : CountedLock) → PartCounted memory done locks
    → later ≡ slice_set locks done counted → length later ≡ length locks → IsCountFilled memory done counted → PartCounted memory (done + 1) later
one_counted memory done locks later counted part puts long filled = record {
  count = long ∙ part.count;
  filled = λ lock x at less. elim (written locks done counted lock x (at_set lock x at)) [
    | inl here ↦ (let P : ℕ → CountedLock → Type 0 = λ (k : ℕ) (y : CountedLock). IsCountFilled memory k y in
        subst (λ (k : ℕ). P k x) (sym here.0) (subst (λ (y : CountedLock). P done y) (sym here.1) filled))
    | inr other ↦ part.filled lock x other.1 (omega (arith, less, other.0))
  ];
  rooms = λ lock x at least. elim (written locks done counted lock x (at_set lock x at)) [
    | inl here ↦ absurd (omega (arith, here.0, least))
    | inr other ↦ part.rooms lock x other.1 (omega (arith, least))
  ];
}
  where
    at_set : (lock : ℕ) (x : CountedLock) → slice_get later lock ≡ Some x → slice_get (slice_set locks done counted) lock ≡ Some x
    at_set lock x at = subst (λ (xs : List CountedLock). slice_get xs lock ≡ Some x) puts at

-- One more lock has its room.
pub one_room : (shape : Shape) (locks later : List CountedLock) (room : CountedLock) → ((k : ℕ) (x : CountedLock) → slice_get locks k ≡ Some x → LockHasCountRoom shape x) → LockHasCountRoom shape room
    → later ≡ locks ++ room ∷ [] → (k : ℕ) (x : CountedLock) → slice_get later k ≡ Some x → LockHasCountRoom shape x
one_room shape locks later room have has grows k x at =
    elim (last_or_before locks room k x (subst (λ (xs : List CountedLock). slice_get xs k ≡ Some x) grows at)) [
      | inl before ↦ have k x before
      | inr last ↦ subst (λ (y : CountedLock). LockHasCountRoom shape y) (sym last.1) has
    ]

-- A lock's turn determines the number of its finished sections.
owned_finished : (s : Shape) (words : LockWords) (es : List Entry) (lock worker : ℕ) (own : WorkerWords) (pending : Bool) → OwnedLockInvariant s words es lock record { worker = worker; words = own } pending
    → finished_by_turn (not pending) words.turn ≡ place_of es lock
owned_finished s words es lock worker own true stands = elim stands [
  | inl settled ↦ (let turn = settled.turn in omega (arith, turn))
  | inr logged ↦ (let turn = logged.turn in omega (arith, turn))
]
owned_finished s words es lock worker own false stands = elim stands.2 [
  | inl settled ↦ (let turn = settled.turn in omega (arith, turn))
  | inr over ↦ (let turn = over.turn in omega (arith, turn))
]

finished_is : (s : Shape) (mem : Address → ℕ) (es : List Entry) (lock : ℕ) (owner : Option ℕ) → LockInvariant s (lock_words s mem lock) es lock owner (worker_words mem)
    → finished_by_turn (is_lock_settled_by_words mem owner) (mem (Turn lock)) ≡ place_of es lock
finished_is s mem es lock None stands = let turn = stands.turn in omega (arith, turn)
finished_is s mem es lock (Some worker) stands =
    owned_finished s (lock_words s mem lock) es lock worker (worker_words mem worker) (is_pending (worker_words mem worker)) stands

module _ (s : Shape) (downs : List SeatView) (before after : List ℕ) (g : ServiceIsGathered s downs before [] after (entries_given downs)) (none : before ≡ []) (all : all_given s downs ≡ true) where
  one_lock : (lock : ℕ) (counted : CountedLock) → lock < s.locks → IsCountFilled record { shape = s; words = words_of_table s g.words } lock counted
      → IsCountedLock s g.words (abstract_state_of_parts s g.words g.parts g.history) lock counted
  one_lock lock counted below filled =
      let mem = table_memory s g.words in
      let privs = privates_of_parts g.parts in
      let owner = owner_in s mem lock in record {
        cells = filled.cells;
        as_shown = subst (λ (cells : List ℕ). AbstractCells s (abstract_state_of_parts s g.words g.parts g.history) lock cells) (sym filled.cells) ((tables.tables s mem privs g.history g.world.fact).cells lock below);
        owner = filled.owner ∙ (tables.tables s mem privs g.history g.world.fact).owners lock below;
        settled = filled.settled ∙ settled_as s mem privs g.history lock owner g.world.fact below refl;
        entries = filled.finished ∙ ap (λ (b : Bool). finished_by_turn b (mem (Turn lock))) filled.settled
            ∙ finished_is s mem g.history lock owner (g.world.fact.stands lock below) ∙ place_count g.history lock;
      }

  pub counts : (bank : Memory) (locks : List CountedLock) → bank ≡ record { shape = s; words = after } → length locks ≡ bank.shape.locks
      → ((lock : ℕ) (counted : CountedLock) → slice_get locks lock ≡ Some counted → IsCountFilled bank lock counted) → IsCountedService s downs locks
  counts bank locks is count filled = record {
    words = g.words;
    parts = g.parts;
    history = g.history;
    world = g.world;
    given = g.given;
    all = all;
    legal = g.world.fact.legal;
    count = long;
    each = λ lock counted at.
        let within = slice_get_within locks lock counted at in
        let P : Memory → Type 0 = λ (m : Memory). IsCountFilled m lock counted in
        one_lock lock counted (omega (arith, within, long)) (subst P whole (filled lock counted at));
  }
    where
      whole : bank ≡ record { shape = s; words = words_of_table s g.words }
      whole = is ∙ ap {B = Memory} (λ (ws : List ℕ). record { shape = s; words = ws }) (g.bank ∙ ap (λ (ws : List ℕ). ws ++ words_of_table s g.words) none)

      long : length locks ≡ s.locks
      long = count ∙ ap (λ (m : Memory). m.shape.locks) whole

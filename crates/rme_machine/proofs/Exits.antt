-- The steps of an owner whose job is done, until its turn is even.
use Rattle.std.proofs.Common.{◌≡◌, ℕ, ◌+◌, ◌%◌, ◌<◌, List, refl, sym, ◌∙◌, ap, subst, inl, inr, arith}
use Rattle.std.specs.Prelude.{false, ◌==◌, Some}
use Rattle.std.proofs.lemmas.Bool.{cases_Bool, eqb-true, eqb-false}
use Rattle.std.proofs.lemmas.Option.{same_Some}
use Rattle.rme_words.specs.declared.shape.Shape.{Shape}
use Rattle.rme_words.specs.declared.address.Address.{Address}
use Rattle.rme_words.specs.declared.address.Address.TheVariants.{Turn}
use Rattle.rme_words.specs.Words.{StoreEffect}
use Rattle.rme_tree.specs.Nodes.{held_levels_in}
use Rattle.rme_program.specs.declared.note.Entry.{Entry}
use Rattle.rme_program.specs.declared.private.Private.{Private}
use Rattle.rme_program.specs.declared.stage.Stage.TheVariants.{Leaving}
use Rattle.rme_program.specs.declared.stage.Departure.{Departure}
use Rattle.rme_program.specs.declared.stage.Departure.TheVariants.{LoadExitTurn, StoreExitTurn, Clear}
use Rattle.rme_program.specs.Steps.{exit_stage}
use Rattle.rme_machine.specs.declared.label.Act.TheVariants.{Still}
use Rattle.rme_machine.specs.Histories.{place_of, lock_row}
use Rattle.rme_machine.specs.Views.{WorkerWords, LockWords, worker_words, lock_words, is_pending}
use Rattle.rme_machine.specs.AbstractState.{Privates}
use Rattle.rme_machine.specs.Knowledge.{PrivateInvariant, IsDoneAt}
use Rattle.rme_machine.specs.Invariant.{Invariant, OwnedLockInvariant, IsSettledLock}
use Rattle.rme_machine.specs.Changes.{PrivateChange}
use Rattle.rme_machine.specs.Laws.{RefinementStep, concrete_state}
use Rattle.rme_machine.proofs.Moves.{LockMove, turn_move}
use Rattle.rme_machine.proofs.Kept.{owner_of, private_kept, lock_kept}
use Rattle.rme_machine.proofs.Shows.{load_frame, lock_frame, owned_at}
use Rattle.rme_machine.proofs.Faces.{quiet, entered_same}

-- The private state of a worker at a stage of Exit.
abbrev pub leaver : ℕ → ℕ → Departure → Private
leaver w b departure = record { worker = w; begun = b; stage = Leaving departure }

-- Another private state at the same memory.
pub knows_more : (s : Shape) (mem : Address → ℕ) (privs privs' : Privates) (es : List Entry) (w b : ℕ) (old new : Departure) → Invariant s mem privs es → w < s.workers
    → privs w ≡ Some (leaver w b old) → PrivateChange privs privs' w (Some (leaver w b new)) → PrivateInvariant s (worker_words mem w) (held_levels_in s mem w) (lock_words s mem) w (leaver w b new)
    → RefinementStep s (concrete_state mem privs es) (concrete_state mem privs' es) w Still
knows_more s mem privs privs' es w b old new fact worker was became fits =
    let kept : Invariant s mem privs' es =
    private_kept s mem privs privs' es w (Some (leaver w b new)) fact became
    (λ q e. let P : Private → Type 0 = λ p. PrivateInvariant s (worker_words mem w) (held_levels_in s mem w) (lock_words s mem) w p in subst P (same_Some _ _ e) fits) in
    quiet s mem mem privs privs' es w (leaver w b old) (leaver w b new) (worker_words mem w) worker kept (load_frame s mem privs privs' es w _ became)
    (λ l lock. refl) refl refl refl refl refl refl was became.at (entered_same _ (Some _) (Some _) refl) refl

pub load_exit_turn : (s : Shape) (mem : Address → ℕ) (privs privs' : Privates) (es : List Entry) (w b lock found : ℕ) → Invariant s mem privs es → w < s.workers
    → privs w ≡ Some (leaver w b (LoadExitTurn lock)) → found ≡ mem (Turn lock)
    → PrivateChange privs privs' w (Some record { worker = w; begun = b; stage = exit_stage s lock found })
    → RefinementStep s (concrete_state mem privs es) (concrete_state mem privs' es) w Still
load_exit_turn s mem privs privs' es w b lock found fact worker was is became =
    let fits : PrivateInvariant s (worker_words mem w) (held_levels_in s mem w) (lock_words s mem) w (leaver w b (LoadExitTurn lock)) = fact.fits w _ worker was in
    elim (cases_Bool (found % 2 == 0)) [
      | inl even ↦
          (let now : PrivateChange privs privs' w (Some (leaver w b (Clear lock s.height))) = rw even at became in
          knows_more s mem privs privs' es w b _ _ fact worker was now record {
            is = refl;
            shaped = record { worker = worker; begun = fits.shaped.begun; stage = (fits.shaped.stage, s.counted.tree.some_level, omega arith) };
            knows = (fits.knows, λ top. omega (arith, is, eqb-true _ _ even));
          })
      | inr odd ↦
          (let now : PrivateChange privs privs' w (Some (leaver w b (StoreExitTurn lock found))) = rw odd at became in
          knows_more s mem privs privs' es w b _ _ fact worker was now record {
            is = refl;
            shaped = record { worker = worker; begun = fits.shaped.begun; stage = fits.shaped.stage };
            knows = (fits.knows, sym is, omega (arith, eqb-false _ _ odd));
          })
    ]

-- A finished owner's lock, by whether its turn is even.
pub even_settled : (s : Shape) (lock : LockWords) (es : List Entry) (l w : ℕ) (own : WorkerWords) → OwnedLockInvariant s lock es l record { worker = w; words = own } false → lock.turn % 2 ≡ 0
    → IsSettledLock lock (lock_row s es l) (place_of es l)
even_settled s lock es l w own stands even = elim stands.2 [
  | inl settled ↦ settled
  | inr over ↦ absurd (omega (arith, over.turn, even))
]

odd_over : (s : Shape) (lock : LockWords) (es : List Entry) (l w turn : ℕ) (own : WorkerWords) → OwnedLockInvariant s lock es l record { worker = w; words = own } false → lock.turn ≡ turn → turn % 2 ≡ 1
    → OwnedLockInvariant s record lock { turn = turn + 1 } es l record { worker = w; words = own } false
odd_over s lock es l w turn own stands is odd = elim stands.2 [
  | inl settled ↦ absurd (omega (arith, settled.turn, is, odd))
  | inr over ↦ (stands.0, stands.1, inl (record { turn = omega (arith, over.turn, is); cells = over.cells }))
]

-- The lock of an owner whose job is finished.
pub owner_stands : (s : Shape) (mem : Address → ℕ) (privs : Privates) (es : List Entry) (w l : ℕ) → Invariant s mem privs es → w < s.workers → l < s.locks
    → held_levels_in s mem w l ≡ s.height → is_pending (worker_words mem w) ≡ false → OwnedLockInvariant s (lock_words s mem l) es l record { worker = w; words = worker_words mem w } false
owner_stands s mem privs es w l fact worker lock holds past = rw past at (rw (owner_of s mem l w worker holds) at (fact.stands l lock))

pub store_exit_turn : (s : Shape) (mem mem' : Address → ℕ) (privs privs' : Privates) (es : List Entry) (w b lock turn : ℕ) → Invariant s mem privs es → w < s.workers
    → privs w ≡ Some (leaver w b (StoreExitTurn lock turn)) → StoreEffect mem mem' (Turn lock) (turn + 1)
    → PrivateChange privs privs' w (Some (leaver w b (Clear lock s.height)))
    → RefinementStep s (concrete_state mem privs es) (concrete_state mem' privs' es) w Still
store_exit_turn s mem mem' privs privs' es w b lock turn fact worker was wrote became =
    let fits : PrivateInvariant s (worker_words mem w) (held_levels_in s mem w) (lock_words s mem) w (leaver w b (StoreExitTurn lock turn)) = fact.fits w _ worker was in
    let past : IsDoneAt (worker_words mem w) (held_levels_in s mem w) b lock s.height = fits.knows.0 in
    let new : LockWords = record (lock_words s mem lock) { turn = turn + 1 } in
    let move : LockMove s mem mem' lock new = turn_move s mem mem' lock (turn + 1) wrote in
    let later : (locks : ℕ → LockWords) → locks lock ≡ new → PrivateInvariant s (worker_words mem w) (held_levels_in s mem w) locks w (leaver w b (Clear lock s.height)) =
    λ locks is. record {
      is = refl;
      shaped = record { worker = worker; begun = fits.shaped.begun; stage = (fits.shaped.stage, s.counted.tree.some_level, omega arith) };
      knows = (past, λ top. omega (arith, ap (λ (words : LockWords). words.turn) is, fits.knows.2));
    } in
    let stands : OwnedLockInvariant s new es lock record { worker = w; words = worker_words mem w } (is_pending (worker_words mem w)) =
    rw past.past (odd_over s (lock_words s mem lock) es lock w turn (worker_words mem w)
    (owner_stands s mem privs es w lock fact worker fits.shaped.stage past.holds past.past) fits.knows.1 fits.knows.2) in
    let kept : Invariant s mem' privs' es =
    lock_kept s mem mem' privs privs' es w lock (Some (leaver w b (Clear lock s.height))) new fact worker fits.shaped.stage past.holds move became
    (λ q e locks is. let P : Private → Type 0 = λ p. PrivateInvariant s (worker_words mem w) (held_levels_in s mem w) locks w p in subst P (same_Some _ _ e) (later locks is))
    stands in
    quiet s mem mem' privs privs' es w (leaver w b (StoreExitTurn lock turn)) (leaver w b (Clear lock s.height)) (worker_words mem w) worker kept
    (lock_frame s mem mem' privs privs' es w lock _ new move became) (λ l below. move.trees.owner l)
    (owned_at s mem' privs' es w lock kept worker fits.shaped.stage (move.trees.held w lock ∙ past.holds)
    ∙ sym (owned_at s mem privs es w lock fact worker fits.shaped.stage past.holds))
    (move.owns w) refl refl refl refl was became.at (entered_same _ (Some _) (Some _) refl) refl

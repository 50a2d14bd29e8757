-- The words of every world are sound.
use Rattle.std.proofs.Common.{◌≡◌, ℕ, ◌+◌, ◌*◌, ◌%◌, ◌<◌, ◌≤◌, Bool, true, false, List, Option, Some, None, refl, sym, ◌∙◌, ap, inl, inr, arith}
use Rattle.std.specs.Prelude.{◌↔◌, IsNone, MatchOption, not}
use Rattle.std.proofs.lemmas.Option.{none-some}
use Rattle.rme_words.specs.declared.shape.Shape.{Shape}
use Rattle.rme_words.specs.declared.address.Address.{Address}
use Rattle.rme_words.specs.declared.address.Address.TheVariants.{Turn}
use Rattle.rme_tree.specs.Nodes.{held_levels_in, owner_in}
use Rattle.rme_script.specs.Cells.{mask_has_cell}
use Rattle.rme_program.specs.declared.note.Entry.{Entry}
use Rattle.rme_machine.specs.Histories.{lock_row, place_of}
use Rattle.rme_machine.specs.Views.{WorkerWords, worker_words, lock_words, is_pending}
use Rattle.rme_machine.specs.Invariant.{Invariant, IsSettledLock, LockInvariant, OwnedLockInvariant}
use Rattle.rme_machine.specs.AbstractState.{Privates}
use Rattle.rme_machine.proofs.Locals.{nodes_clause}
use Rattle.rme_machine.specs.AbstractCells.{is_lock_settled}
use Rattle.rme_machine.specs.AbstractState.{abstract_state}
use Rattle.rme_machine.proofs.Historical.{turn_small}
use Rattle.rme_machine.proofs.Standing.{at_lock}
use Rattle.rme_machine.proofs.Tables.{tables}
use Rattle.rme_process_file.specs.declared.damage.Damage.{Damage}
use Rattle.rme_process_file.specs.declared.damage.Damage.TheVariants as damage
use Rattle.rme_process_file.specs.FileContents.{sections_by, is_owner_settled}
use Rattle.rme_process_file.specs.Sound.{IsSoundWorker, IsSoundLock, IsSound, IsDamageOf, SoundLaw, SettledLaw, SectionsLaw}

even_twice : (n : ℕ) → 2 * n % 2 ≡ 0
even_twice n = omega arith

-- The number of finished sections, from the turn.
even_sections : (turn p : ℕ) (settled : Bool) → turn ≡ 2 * p → sections_by turn settled ≡ p
even_sections turn p true is = omega (arith, is)
even_sections turn p false is = omega (arith, is)

logged_sections : (turn p : ℕ) → turn ≡ 2 * p + 1 → sections_by turn false ≡ p
logged_sections turn p is = omega (arith, is)

over_sections : (turn p : ℕ) → turn + 1 ≡ 2 * p → sections_by turn true ≡ p
over_sections turn p is = omega (arith, is)

module _ (s : Shape) (mem : Address → ℕ) (privs : Privates) (es : List Entry) (fact : Invariant s mem privs es) where
  -- A worker's account implies it.
  worker : (w : ℕ) → w < s.workers → IsSoundWorker s (worker_words mem w) (held_levels_in s mem w)
  worker w below =
      let account = fact.accounts w below in
      record {
        numbers = record { done = account.done; begun = account.begun; few = account.few };
        stakes = account.stake;
        pending = account.slate;
        receipt = record {
          blank = λ zero. let blank = account.blank zero in record { reply = blank.0; place = blank.1; at = blank.2 };
          lock = λ past some. at_lock s mem privs es w fact below past some;
          withdrawn = λ past some gone. (account.withdrawn past some gone).reply;
        };
      }

  -- The turn and the mask of a lock, by its owner.
  pub record Turns (lock : ℕ) (owner : Option ℕ) : Type 0 where
    pub few : mem (Turn lock) ≤ 2 * place_of es lock + 1
    pub even : owner ≡ None → mem (Turn lock) % 2 ≡ 0
    pub within : mem (Turn lock) % 2 ≡ 1 → (c : ℕ) → mask_has_cell (lock_words s mem lock).mask c ≡ true → c < s.cells

  settled : (lock : ℕ) (owner : Option ℕ) → IsSettledLock (lock_words s mem lock) (lock_row s es lock) (place_of es lock) → Turns lock owner
  settled lock owner is =
      let even : mem (Turn lock) % 2 ≡ 0 = ap (λ (n : ℕ). n % 2) is.turn ∙ even_twice (place_of es lock) in
      record {
        few = omega (arith, is.turn);
        even = λ free. even;
        within = λ odd. absurd (omega (arith, even, odd));
      }

  owned : (lock u : ℕ) (own : WorkerWords) (pending : Bool) → OwnedLockInvariant s (lock_words s mem lock) es lock record { worker = u; words = own } pending → Turns lock (Some u)
  owned lock u own true stands = elim stands [
    | inl is ↦ settled lock (Some u) is
    | inr is ↦ record { few = omega (arith, is.turn); even = λ free. absurd (none-some u (sym free)); within = λ odd. is.mask.within }
  ]
  owned lock u own false stands = elim stands.2 [
    | inl is ↦ settled lock (Some u) is
    | inr is ↦ record { few = omega (arith, is.turn); even = λ free. absurd (none-some u (sym free)); within = λ odd. is.mask.within }
  ]

  turns : (lock : ℕ) (owner : Option ℕ) → LockInvariant s (lock_words s mem lock) es lock owner (worker_words mem) → Turns lock owner
  turns lock None stands = settled lock None stands
  turns lock (Some u) stands = owned lock u (worker_words mem u) (is_pending (worker_words mem u)) stands

  lock_sound : (lock : ℕ) → lock < s.locks → IsSoundLock s mem lock
  lock_sound lock below =
      let its = turns lock (owner_in s mem lock) (fact.stands lock below) in
      record {
        nodes = nodes_clause s mem privs es lock fact below;
        turn = record { few = omega (arith, its.few, turn_small s mem privs es lock fact); even = its.even };
        mask = λ odd cell small set. its.within odd cell set;
      }

pub sound_world : SoundLaw
sound_world s mem privs es fact = record { workers = worker s mem privs es fact; locks = lock_sound s mem privs es fact }

-- ---- the cells of a lock and its sections

module _ (s : Shape) (mem : Address → ℕ) (privs : Privates) (es : List Entry) (fact : Invariant s mem privs es) (lock : ℕ) (below : lock < s.locks) where
  settled_when : (owner : Option ℕ) → owner_in s mem lock ≡ owner → is_owner_settled (worker_words mem) owner ≡ is_lock_settled (abstract_state s mem privs es) lock
  settled_when None is = sym (tables.free s mem privs es lock fact below is)
  settled_when (Some u) is = sym (tables.owned s mem privs es lock u fact below is)

  owned_sections : (u : ℕ) (own : WorkerWords) (pending : Bool) → OwnedLockInvariant s (lock_words s mem lock) es lock record { worker = u; words = own } pending → sections_by (mem (Turn lock)) (not pending) ≡ place_of es lock
  owned_sections u own true stands = elim stands [
    | inl is ↦ even_sections _ _ false is.turn
    | inr is ↦ logged_sections _ _ is.turn
  ]
  owned_sections u own false stands = elim stands.2 [
    | inl is ↦ even_sections _ _ true is.turn
    | inr is ↦ over_sections _ _ is.turn
  ]

  sections_when : (owner : Option ℕ) → LockInvariant s (lock_words s mem lock) es lock owner (worker_words mem) → sections_by (mem (Turn lock)) (is_owner_settled (worker_words mem) owner) ≡ place_of es lock
  sections_when None stands = even_sections _ _ true stands.turn
  sections_when (Some u) stands = owned_sections u (worker_words mem u) (is_pending (worker_words mem u)) stands

pub settled_world : SettledLaw
settled_world s mem privs es lock fact below = settled_when s mem privs es fact lock below (owner_in s mem lock) refl

pub sections_world : SectionsLaw
sections_world s mem privs es lock fact below = sections_when s mem privs es fact lock below (owner_in s mem lock) (fact.stands lock below)

-- ---- damage

-- Damaged words are not sound.
pub harm_unsound : (s : Shape) (mem : Address → ℕ) (d : Damage) → IsDamageOf s mem d → IsSound s mem → ⊥
harm_unsound s mem (damage.Begun w) harm sound = harm.not (sound.workers w harm.there).numbers.few
harm_unsound s mem (damage.Done w) harm sound = let numbers = (sound.workers w harm.there).numbers in harm.not (numbers.done, numbers.begun)
harm_unsound s mem (damage.Stake w lock) harm sound = harm.not ((sound.workers w harm.there).stakes lock)
harm_unsound s mem (damage.Slate w) harm sound = harm.not (sound.workers w harm.there).pending
harm_unsound s mem (damage.Receipt w) harm sound = harm.not (sound.workers w harm.there).receipt
harm_unsound s mem (damage.Node lock node) harm sound = harm.not ((sound.locks lock harm.there).nodes node)
harm_unsound s mem (damage.Turn lock) harm sound = harm.not (sound.locks lock harm.there).turn
harm_unsound s mem (damage.Mask lock) harm sound = harm.not (sound.locks lock harm.there).mask

-- No damage is found if and only if all workers and all locks are sound.
pub none_both : (s : Shape) (mem : Address → ℕ) (found : Option Damage)
    → ((w : ℕ) → w < s.workers → IsSoundWorker s (worker_words mem w) (held_levels_in s mem w))
    → MatchOption found ((lock : ℕ) → lock < s.locks → IsSoundLock s mem lock) (λ (d : Damage). IsDamageOf s mem d) → IsNone found ↔ IsSound s mem
none_both s mem None workers locks = (λ none. record { workers = workers; locks = locks }, λ sound. refl)
none_both s mem (Some d) workers harm = (λ none. absurd cc, λ sound. absurd (harm_unsound s mem d harm sound))

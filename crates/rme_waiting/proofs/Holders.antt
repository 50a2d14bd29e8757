-- The worker found above a waiting worker is the one that it waits for.
use Rattle.std.proofs.Common.{◌≡◌, ℕ, suc, ◌<◌, ◌≤◌, ◌↔◌, Bool, true, false, refl, sym, ◌∙◌, ap₂, subst, inl, inr, arith, nat_lt, ◌&&◌, ◌==◌, Option, Some, None}
use Rattle.std.specs.Prelude.{IfSome}
use Rattle.std.proofs.lemmas.Bool.{and_parts, cases_eq, cases_Bool, eq-eqb, eqb-true, le-ltb, ltb-true, lt-ltb}
use Rattle.std.proofs.lemmas.Option.{none-some, same_Some}
use Rattle.rme_words.specs.declared.shape.Shape.{Shape}
use Rattle.rme_words.specs.declared.address.Address.{Address}
use Rattle.rme_tree.specs.Paths.{node, held_levels, HoldsNode, Blocks, first_number_passing}
use Rattle.rme_tree.specs.Nodes.{lock_nodes, held_levels_in}
use Rattle.rme_tree.proofs.Firsts.{first_only, first_fails}
use Rattle.rme_tree.proofs.Holding.{held_is, held_within, held_least, own_less}
use Rattle.rme_tree.proofs.Ownership.{owner_law}
use Rattle.rme_tree.proofs.Steps.{same_level}
use Rattle.rme_machine.specs.Views.{worker_words, is_pending}
use Rattle.rme_waiting.specs.Waiting.{WaitsForLock, WaitsForWorker, holds_next_node, next_node, next_node_holder, blocked_by}

-- The first number that passes a test, by who passes it.
pub first_shown : (n : ℕ) (test : ℕ → Bool) (P : ℕ → Type 0) (found : Option ℕ) → IfSome found (λ b. b < n)
    → ((b : ℕ) → b < n → (found ≡ Some b) ↔ P b) → ((b : ℕ) → b < n → (test b ≡ true) ↔ P b) → found ≡ first_number_passing n test
first_shown n test P None within shown passes =
    sym (first_fails n test (λ b less pass. absurd (none-some b ((shown b less).1 ((passes b less).0 pass)))))
first_shown n test P (Some b) within shown passes =
    sym (first_only n test b within ((passes b within).1 ((shown b within).0 refl)) (λ k less pass. sym (same_Some b k ((shown k less).1 ((passes k less).0 pass)))))

module _ (f : ℕ → ℕ) (s : Shape) (worker other : ℕ) (is_worker : worker < s.workers) (is_other : other < s.workers) where
  -- The test finds the worker that blocks another.
  pub passes_blocks : holds_next_node f s worker other ≡ true → Blocks f s.leaves s.height other worker
  unfolding holds_next_node
  passes_blocks passes =
      let parts = and_parts (node s.leaves other (suc (held_levels f s.leaves worker s.height)) == node s.leaves worker (suc (held_levels f s.leaves worker s.height)))
      (nat_lt (held_levels f s.leaves worker s.height) (held_levels f s.leaves other s.height)) passes in
      let more : held_levels f s.leaves worker s.height < held_levels f s.leaves other s.height = ltb-true _ _ parts.1 in
      let less : held_levels f s.leaves worker s.height < s.height = omega (arith, more, held_within f s.leaves other s.height) in (
        less,
        record {
          level = held_levels f s.leaves worker s.height;
          is_level = less;
          there = eqb-true _ _ parts.0;
          own = own_less f s.leaves other (held_levels f s.leaves other s.height) (suc (held_levels f s.leaves worker s.height)) (omega (arith, more)) (held_is f s.leaves other s.height).own;
        },
      )

  pub blocks_passes : Blocks f s.leaves s.height other worker → holds_next_node f s worker other ≡ true
  unfolding holds_next_node
  blocks_passes blocks =
      let tree = s.counted.tree in
      let r : HoldsNode f s.leaves s.height other (node s.leaves worker (suc (held_levels f s.leaves worker s.height))) = blocks.1 in
      let level : suc r.level ≡ suc (held_levels f s.leaves worker s.height) =
      same_level s.leaves s.height other worker (suc r.level) (suc (held_levels f s.leaves worker s.height)) tree.is_power
      (omega (arith, is_other, tree.enough)) (omega (arith, is_worker, tree.enough)) (omega (arith, r.is_level)) (omega (arith, blocks.0)) r.there in
      let P : ℕ → Type 0 = λ j. node s.leaves other j ≡ node s.leaves worker (suc (held_levels f s.leaves worker s.height)) in
      let more : suc r.level ≤ held_levels f s.leaves other s.height = held_least f s.leaves other s.height (suc r.level) (omega (arith, r.is_level)) r.own in
      ap₂ (λ (a b : Bool). a && b) (eq-eqb _ _ (subst P level r.there)) (lt-ltb _ _ (omega (arith, more, level)))

-- The blocker in a lock is the holder of the next node there.
pub holder_found : (s : Shape) (mem : Address → ℕ) (worker lock : ℕ) (found : Option ℕ) → worker < s.workers → IfSome found (λ b. b < s.workers)
    → ((b : ℕ) → b < s.workers → (found ≡ Some b) ↔ Blocks (lock_nodes mem lock) s.leaves s.height b worker)
    → found ≡ next_node_holder s mem worker lock
holder_found s mem worker lock found is_worker within shown =
    first_shown s.workers (holds_next_node (lock_nodes mem lock) s worker) (λ b. Blocks (lock_nodes mem lock) s.leaves s.height b worker) found within shown
    (λ b less. (passes_blocks (lock_nodes mem lock) s worker b is_worker less, blocks_passes (lock_nodes mem lock) s worker b is_worker less))

-- A worker that waits for a lock holds fewer levels than there are.
pub waits_below : (s : Shape) (mem : Address → ℕ) (worker lock : ℕ) → worker < s.workers → WaitsForLock s mem worker lock → held_levels_in s mem worker lock < s.height
waits_below s mem worker lock is_worker waits =
    let tree = s.counted.tree in
    elim (cases_eq (held_levels_in s mem worker lock) s.height) [
      | inl all ↦ absurd (waits.outside ((owner_law (lock_nodes mem lock) s.leaves s.height s.workers worker tree.is_power tree.enough is_worker).1 all))
      | inr below ↦ omega (arith, below, held_within (lock_nodes mem lock) s.leaves worker s.height)
    ]

module _ (s : Shape) (mem : Address → ℕ) (worker : ℕ) (is_worker : worker < s.workers) where
  -- A worker without a pending job waits for nobody, and so does one whose slate names no lock.
  pub no_job : is_pending (worker_words mem worker) ≡ false → blocked_by s mem worker ≡ None
  unfolding blocked_by
  no_job none = rw none refl

  pub no_job_waits : is_pending (worker_words mem worker) ≡ false → (found : Option ℕ) → found ≡ None → (other : ℕ) → (found ≡ Some other) ↔ WaitsForWorker s mem worker other
  no_job_waits none found is other = (λ e. absurd (none-some other (sym is ∙ e)), λ (r : WaitsForWorker s mem worker other). let p : true ≡ false = sym r.waits.pending ∙ none in cc)

  pub no_lock : s.locks ≤ (worker_words mem worker).slate_lock → blocked_by s mem worker ≡ None
  unfolding blocked_by
  no_lock beyond =
      let beside : nat_lt (worker_words mem worker).slate_lock s.locks ≡ false = le-ltb _ _ beyond in
      elim (cases_Bool (is_pending (worker_words mem worker))) [
        | inl waits ↦ rw (waits, beside) refl
        | inr rests ↦ rw rests refl
      ]

  pub no_lock_waits : s.locks ≤ (worker_words mem worker).slate_lock → (found : Option ℕ) → found ≡ None → (other : ℕ) → (found ≡ Some other) ↔ WaitsForWorker s mem worker other
  no_lock_waits beyond found is other = (λ e. absurd (none-some other (sym is ∙ e)), λ (r : WaitsForWorker s mem worker other). absurd (omega (arith, beyond, r.waits.asked, r.waits.is_lock)))

  -- A worker with a pending job of a lock waits for the one that blocks it there.
  module _ (lock : ℕ) (pending : is_pending (worker_words mem worker) ≡ true) (asked : (worker_words mem worker).slate_lock ≡ lock) (is_lock : lock < s.locks)
      (found : Option ℕ) (within : IfSome found (λ b. b < s.workers))
      (shown : (b : ℕ) → b < s.workers → (found ≡ Some b) ↔ Blocks (lock_nodes mem lock) s.leaves s.height b worker) where
    pub waits_blocked : found ≡ blocked_by s mem worker
    unfolding blocked_by
    waits_blocked =
        let P : ℕ → Type 0 = λ (l : ℕ). found ≡ next_node_holder s mem worker l in
        let here : found ≡ next_node_holder s mem worker (worker_words mem worker).slate_lock = subst P (sym asked) (holder_found s mem worker lock found is_worker within shown) in
        let inside : nat_lt (worker_words mem worker).slate_lock s.locks ≡ true = lt-ltb _ _ (omega (arith, asked, is_lock)) in
        rw (pending, inside) here

    pub waits_shown : (other : ℕ) → other < s.workers → (found ≡ Some other) ↔ WaitsForWorker s mem worker other
    waits_shown other less = (
      (λ e.
          let tree = s.counted.tree in
          let blocks : Blocks (lock_nodes mem lock) s.leaves s.height other worker = (shown other less).0 e in
          record {
            lock = lock;
            waits = record {
              pending = pending;
              asked = asked;
              is_lock = is_lock;
              outside = λ owns.
                  let holds = (owner_law (lock_nodes mem lock) s.leaves s.height s.workers worker tree.is_power tree.enough is_worker).0 owns in
                  omega (arith, holds, blocks.0);
            };
            holds = blocks.1;
          }),
      (λ (r : WaitsForWorker s mem worker other).
          let same : r.lock ≡ lock = sym r.waits.asked ∙ asked in
          let P : ℕ → Type 0 = λ l. WaitsForLock s mem worker l × HoldsNode (lock_nodes mem l) s.leaves s.height other (next_node s mem worker l) in
          let at : WaitsForLock s mem worker lock × HoldsNode (lock_nodes mem lock) s.leaves s.height other (next_node s mem worker lock) = subst P same (r.waits, r.holds) in
          (shown other less).1 (waits_below s mem worker lock is_worker at.0, at.1)),
    )

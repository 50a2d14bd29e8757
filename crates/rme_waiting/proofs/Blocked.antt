-- Who waits for another, in trees in which every taken node has a holder: exactly the workers whose next node is taken.
use Rattle.std.proofs.Common.{◌≡◌, ◌≢◌, ℕ, suc, ◌<◌, true, false, refl, sym, ◌∙◌, ap, subst, arith, nat_lt, Option, Some, None}
use Rattle.std.specs.Prelude.{IsSome}
use Rattle.std.proofs.lemmas.Bool.{lt-ltb}
use Rattle.rme_words.specs.declared.shape.Shape.{Shape}
use Rattle.rme_words.specs.declared.address.Address.{Address}
use Rattle.rme_tree.specs.Paths.{side, HoldsNode}
use Rattle.rme_tree.specs.HeldTrees.{EveryNodeIsHeld}
use Rattle.rme_tree.specs.Nodes.{lock_nodes}
use Rattle.rme_tree.proofs.Firsts.{first_none, first_passes}
use Rattle.rme_tree.proofs.Holders.{blocker_law}
use Rattle.rme_tree.proofs.Levels.{side_pos}
use Rattle.rme_machine.specs.Views.{worker_words}
use Rattle.rme_waiting.specs.Waiting.{WaitsForLock, blocked_by, holds_next_node, next_node, next_node_holder}
use Rattle.rme_waiting.proofs.Holders.{blocks_passes, passes_blocks, waits_below}

module _ (s : Shape) (mem : Address → ℕ) (worker lock : ℕ) (is_worker : worker < s.workers) (waits : WaitsForLock s mem worker lock) where
  -- The worker that it waits for is the holder of its next node there.
  blocked_there : blocked_by s mem worker ≡ next_node_holder s mem worker lock
  unfolding blocked_by
  blocked_there =
      let inside : nat_lt (worker_words mem worker).slate_lock s.locks ≡ true = lt-ltb _ _ (omega (arith, waits.asked, waits.is_lock)) in
      let same : next_node_holder s mem worker (worker_words mem worker).slate_lock ≡ next_node_holder s mem worker lock = ap (λ (l : ℕ). next_node_holder s mem worker l) waits.asked in
      rw (waits.pending, inside) same

  -- The holder has stored its side.
  pub blocked_taken : IsSome (blocked_by s mem worker) → lock_nodes mem lock (next_node s mem worker lock) ≢ 0
  blocked_taken is zero = go (next_node_holder s mem worker lock) refl
    where
      P : Option ℕ → Type 0
      P o = IsSome o

      no_worker : P None → ⊥
      no_worker is = cc

      go : (found : Option ℕ) → next_node_holder s mem worker lock ≡ found → ⊥
      go None e = (let none : blocked_by s mem worker ≡ None = blocked_there ∙ e in no_worker (subst P none is))
      go (Some other) e =
          let at : (other < s.workers) × (holds_next_node (lock_nodes mem lock) s worker other ≡ true) = first_passes s.workers (holds_next_node (lock_nodes mem lock) s worker) other e in
          let r : HoldsNode (lock_nodes mem lock) s.leaves s.height other (next_node s mem worker lock) = (passes_blocks (lock_nodes mem lock) s worker other is_worker at.0 at.1).1 in
          let stored : lock_nodes mem lock (next_node s mem worker lock) ≡ side s.leaves other (suc r.level) =
          ap (lock_nodes mem lock) (sym r.there) ∙ r.own r.level (omega arith) in
          omega (arith, stored, zero, side_pos s.leaves other (suc r.level))

  pub taken_blocked : EveryNodeIsHeld (lock_nodes mem lock) s.leaves s.height s.workers → lock_nodes mem lock (next_node s mem worker lock) ≢ 0 → IsSome (blocked_by s mem worker)
  taken_blocked root taken = go (next_node_holder s mem worker lock) refl
    where
      go : (found : Option ℕ) → next_node_holder s mem worker lock ≡ found → IsSome (blocked_by s mem worker)
      go None e =
          let tree = s.counted.tree in
          let r = blocker_law (lock_nodes mem lock) s.leaves s.height s.workers worker tree.is_power tree.enough is_worker (waits_below s mem worker lock is_worker waits) taken root in
          let fails : holds_next_node (lock_nodes mem lock) s worker r.0 ≡ false = first_none s.workers (holds_next_node (lock_nodes mem lock) s worker) r.0 e r.1 in
          let passes : holds_next_node (lock_nodes mem lock) s worker r.0 ≡ true = blocks_passes (lock_nodes mem lock) s worker r.0 is_worker r.1 r.3 in
          absurd (let t : true ≡ false = sym passes ∙ fails in cc)
      go (Some other) e = (let P : Option ℕ → Type 0 = λ o. IsSome o in let some : blocked_by s mem worker ≡ Some other = blocked_there ∙ e in subst P (sym some) refl)

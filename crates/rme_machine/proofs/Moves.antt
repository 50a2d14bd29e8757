-- What an operation on one word changes: the words of one worker, the words of one lock, or a node.
use Rattle.std.proofs.Common.{◌≡◌, ◌≢◌, ℕ, suc, ◌/◌, ◌%◌, ◌<◌, length, refl, sym, subst, inl, inr, arith}
use Rattle.std.specs.Prelude.{slice_set, slice_index}
use Rattle.std.proofs.lemmas.Bool.{cases_eq}
use Rattle.rme_words.specs.declared.shape.Shape.{Shape}
use Rattle.rme_words.specs.declared.address.Address.{Address}
use Rattle.rme_words.specs.declared.address.Address.TheVariants.{Begun, Done, Reply, Place, At, SlateLock, SlateLen, SlateWord, Node, Turn, Cell, Shadow, ShadowReply, Mask}
use Rattle.rme_words.specs.Words.{StoreEffect}
use Rattle.rme_tree.specs.HeldTrees.{EveryNodeIsHeld, TreeStep, OwnerStep, tree_size}
use Rattle.rme_tree.specs.Paths.{node, side}
use Rattle.rme_tree.specs.Nodes.{lock_nodes, held_levels_in, owner_in}
use Rattle.rme_tree.specs.NodeStores.{SameNodes}
use Rattle.rme_tree.proofs.Ownership.{same_tree, owner_step_law}
use Rattle.rme_tree.proofs.Memory.{take_in, clear_in, other_lock, no_node}
use Rattle.rme_machine.specs.Views.{WorkerWords, LockWords, worker_words, lock_words, slate_of_worker}
use Rattle.rme_machine.proofs.Lists.{made_same, made_set, made_at, made_long}

-- Every lock's tree is unchanged.
pub record SameTrees (s : Shape) (mem mem' : Address → ℕ) : Type 0 where
  pub held : (u l : ℕ) → held_levels_in s mem' u l ≡ held_levels_in s mem u l
  pub owner : (l : ℕ) → owner_in s mem' l ≡ owner_in s mem l
  pub rooted : (l : ℕ) → EveryNodeIsHeld (lock_nodes mem l) s.leaves s.height s.workers → EveryNodeIsHeld (lock_nodes mem' l) s.leaves s.height s.workers

-- The words of worker w are new, and everything else is unchanged.
pub record OwnMove (s : Shape) (mem mem' : Address → ℕ) (w : ℕ) (new : WorkerWords) : Type 0 where
  pub own : worker_words mem' w ≡ new
  pub others : (u : ℕ) → u ≢ w → worker_words mem' u ≡ worker_words mem u
  pub locks : (l : ℕ) → lock_words s mem' l ≡ lock_words s mem l
  pub trees : SameTrees s mem mem'

-- The words of lock l are new, and everything else is unchanged.
pub record LockMove (s : Shape) (mem mem' : Address → ℕ) (l : ℕ) (new : LockWords) : Type 0 where
  pub lock : lock_words s mem' l ≡ new
  pub others : (k : ℕ) → k ≢ l → lock_words s mem' k ≡ lock_words s mem k
  pub owns : (u : ℕ) → worker_words mem' u ≡ worker_words mem u
  pub trees : SameTrees s mem mem'

-- Worker w now holds `levels` levels of lock l, and everything else is unchanged.
pub record NodeMove (s : Shape) (mem mem' : Address → ℕ) (l w levels : ℕ) : Type 0 where
  pub owns : (u : ℕ) → worker_words mem' u ≡ worker_words mem u
  pub locks : (k : ℕ) → lock_words s mem' k ≡ lock_words s mem k
  pub self : held_levels_in s mem' w l ≡ levels
  pub others : (u : ℕ) → u < s.workers → u ≢ w → held_levels_in s mem' u l ≡ held_levels_in s mem u l
  pub elsewhere : (u k : ℕ) → k ≢ l → held_levels_in s mem' u k ≡ held_levels_in s mem u k
  pub owner_elsewhere : (k : ℕ) → k ≢ l → owner_in s mem' k ≡ owner_in s mem k
  pub owner_step : OwnerStep (tree_size s.leaves s.height s.workers) (lock_nodes mem l) (lock_nodes mem' l) w levels
  pub rooted : (k : ℕ) → k < s.locks → EveryNodeIsHeld (lock_nodes mem k) s.leaves s.height s.workers → EveryNodeIsHeld (lock_nodes mem' k) s.leaves s.height s.workers

-- Every other worker holds the same levels in each lock.
pub held_others : (s : Shape) (mem mem' : Address → ℕ) (l w levels : ℕ) → NodeMove s mem mem' l w levels
    → (u k : ℕ) → u < s.workers → u ≢ w → held_levels_in s mem' u k ≡ held_levels_in s mem u k
held_others s mem mem' l w levels move u k other apart =
    elim (cases_eq k l) [
      | inl here ↦ (let P : ℕ → Type 0 = λ k. held_levels_in s mem' u k ≡ held_levels_in s mem u k in subst P (sym here) (move.others u other apart))
      | inr elsewhere ↦ move.elsewhere u k elsewhere
    ]

-- Two views with equal fields are equal.
own_parts : (one other : WorkerWords) → one.begun ≡ other.begun → one.done ≡ other.done → one.reply ≡ other.reply → one.place ≡ other.place
    → one.at ≡ other.at → one.slate_lock ≡ other.slate_lock → one.slate_len ≡ other.slate_len → one.slate ≡ other.slate → one ≡ other
own_parts one other begun done reply place at slate_lock slate_len slate =
    λ i. record { begun = begun i; done = done i; reply = reply i; place = place i; at = at i; slate_lock = slate_lock i; slate_len = slate_len i; slate = slate i }

lock_parts : (one other : LockWords) → one.turn ≡ other.turn → one.cells ≡ other.cells → one.shadows ≡ other.shadows
    → one.shadow_reply ≡ other.shadow_reply → one.mask ≡ other.mask → one ≡ other
lock_parts one other turn cells shadows shadow_reply mask =
    λ i. record { turn = turn i; cells = cells i; shadows = shadows i; shadow_reply = shadow_reply i; mask = mask i }

-- An address is one of a worker's own words, or one of a lock's words other than its nodes.
abbrev IsOwn : ℕ → Address → Type 0
IsOwn u (Begun v) = v ≡ u
IsOwn u (Done v) = v ≡ u
IsOwn u (Reply v) = v ≡ u
IsOwn u (Place v) = v ≡ u
IsOwn u (At v) = v ≡ u
IsOwn u (SlateLock v) = v ≡ u
IsOwn u (SlateLen v) = v ≡ u
IsOwn u (SlateWord v i j) = v ≡ u
IsOwn u (Node v p) = ⊥
IsOwn u (Turn v) = ⊥
IsOwn u (Cell v c) = ⊥
IsOwn u (Shadow v c) = ⊥
IsOwn u (ShadowReply v) = ⊥
IsOwn u (Mask v) = ⊥

abbrev IsOfLock : ℕ → Address → Type 0
IsOfLock l (Begun v) = ⊥
IsOfLock l (Done v) = ⊥
IsOfLock l (Reply v) = ⊥
IsOfLock l (Place v) = ⊥
IsOfLock l (At v) = ⊥
IsOfLock l (SlateLock v) = ⊥
IsOfLock l (SlateLen v) = ⊥
IsOfLock l (SlateWord v i j) = ⊥
IsOfLock l (Node v p) = ⊥
IsOfLock l (Turn v) = v ≡ l
IsOfLock l (Cell v c) = v ≡ l
IsOfLock l (Shadow v c) = v ≡ l
IsOfLock l (ShadowReply v) = v ≡ l
IsOfLock l (Mask v) = v ≡ l

-- A view is unchanged if none of its words was stored.
module _ (s : Shape) (mem mem' : Address → ℕ) (a : Address) (x : ℕ) (wrote : StoreEffect mem mem' a x) where
  slate_unmoved : (u : ℕ) → ((i j : ℕ) → SlateWord u i j ≢ a) → slate_of_worker mem' u ≡ slate_of_worker mem u
  unfolding slate_of_worker
  slate_unmoved u off = made_same _ _ 24 (λ i within. wrote.off _ (off (i / 3) (i % 3)))

  cells_unmoved : (l : ℕ) → ((c : ℕ) → Cell l c ≢ a) → (lock_words s mem' l).cells ≡ (lock_words s mem l).cells
  cells_unmoved l off = made_same _ _ s.cells (λ c within. wrote.off _ (off c))

  shadows_unmoved : (l : ℕ) → ((c : ℕ) → Shadow l c ≢ a) → (lock_words s mem' l).shadows ≡ (lock_words s mem l).shadows
  shadows_unmoved l off = made_same _ _ s.cells (λ c within. wrote.off _ (off c))

  own_unmoved : (u : ℕ) → (IsOwn u a → ⊥) → worker_words mem' u ≡ worker_words mem u
  own_unmoved u none =
      own_parts _ _ (kept (Begun u) refl) (kept (Done u) refl) (kept (Reply u) refl) (kept (Place u) refl) (kept (At u) refl)
      (kept (SlateLock u) refl) (kept (SlateLen u) refl) (slate_unmoved u (λ i j. apart (SlateWord u i j) refl))
    where
      apart : (b : Address) → IsOwn u b → b ≢ a
      apart b is e = none (let P : Address → Type 0 = λ b. IsOwn u b in subst P e is)

      kept : (b : Address) → IsOwn u b → mem' b ≡ mem b
      kept b is = wrote.off b (λ e. none (let P : Address → Type 0 = λ b. IsOwn u b in subst P e is))

  lock_unmoved : (l : ℕ) → (IsOfLock l a → ⊥) → lock_words s mem' l ≡ lock_words s mem l
  lock_unmoved l none =
      lock_parts _ _ (kept (Turn l) refl) (cells_unmoved l (λ c. apart (Cell l c) refl)) (shadows_unmoved l (λ c. apart (Shadow l c) refl))
      (kept (ShadowReply l) refl) (kept (Mask l) refl)
    where
      apart : (b : Address) → IsOfLock l b → b ≢ a
      apart b is e = none (let P : Address → Type 0 = λ b. IsOfLock l b in subst P e is)

      kept : (b : Address) → IsOfLock l b → mem' b ≡ mem b
      kept b is = wrote.off b (λ e. none (let P : Address → Type 0 = λ b. IsOfLock l b in subst P e is))

  trees_unmoved : ((l p : ℕ) → a ≢ Node l p) → SameTrees s mem mem'
  trees_unmoved off = record {
    held = λ u l. (same_tree (lock_nodes mem l) (lock_nodes mem' l) s.leaves s.height s.workers (no_node mem mem' a x wrote off l)).0 u;
    owner = λ l. (same_tree (lock_nodes mem l) (lock_nodes mem' l) s.leaves s.height s.workers (no_node mem mem' a x wrote off l)).1;
    rooted = λ l. (same_tree (lock_nodes mem l) (lock_nodes mem' l) s.leaves s.height s.workers (no_node mem mem' a x wrote off l)).2;
  }

-- A stored word of a slate.
slate_stored : (mem mem' : Address → ℕ) (w x i : ℕ) → i < 24 → StoreEffect mem mem' (SlateWord w (i / 3) (i % 3)) x → slate_of_worker mem' w ≡ slice_set (slate_of_worker mem w) i x
unfolding slate_of_worker
slate_stored mem mem' w x i within wrote =
    made_set _ _ 24 i x within wrote.at (λ j less apart. wrote.off (SlateWord w (j / 3) (j % 3)) (λ e.
    let operations : j / 3 ≡ i / 3 = cc in
    let parts : j % 3 ≡ i % 3 = cc in
    apart (omega arith)))

-- The kinds of store. An index of a slate's word is below 24: word i is part i % 3 of operation i / 3.
module _ (s : Shape) (mem mem' : Address → ℕ) (w x : ℕ) where
  own_move : (a : Address) (new : WorkerWords) → StoreEffect mem mem' a x → ((u : ℕ) → IsOwn u a → w ≡ u) → ((l : ℕ) → IsOfLock l a → ⊥) → ((l p : ℕ) → a ≢ Node l p)
      → worker_words mem' w ≡ new → OwnMove s mem mem' w new
  own_move a new wrote is_own no_lock no_node own = record {
    own = own;
    others = λ u apart. own_unmoved s mem mem' a x wrote u (λ is. apart (sym (is_own u is)));
    locks = λ l. lock_unmoved s mem mem' a x wrote l (no_lock l);
    trees = trees_unmoved s mem mem' a x wrote no_node;
  }

  pub begun_move : StoreEffect mem mem' (Begun w) x → OwnMove s mem mem' w record (worker_words mem w) { begun = x }
  begun_move wrote =
      own_move (Begun w) _ wrote (λ u e. e) (λ l e. e) (λ l p. λ e. cc)
      (own_parts _ _ wrote.at (wrote.off (Done w) (λ e. cc)) (wrote.off (Reply w) (λ e. cc)) (wrote.off (Place w) (λ e. cc))
      (wrote.off (At w) (λ e. cc)) (wrote.off (SlateLock w) (λ e. cc)) (wrote.off (SlateLen w) (λ e. cc))
      (slate_unmoved s mem mem' (Begun w) x wrote w (λ i j e. cc)))

  pub done_move : StoreEffect mem mem' (Done w) x → OwnMove s mem mem' w record (worker_words mem w) { done = x }
  done_move wrote =
      own_move (Done w) _ wrote (λ u e. e) (λ l e. e) (λ l p. λ e. cc)
      (own_parts _ _ (wrote.off (Begun w) (λ e. cc)) wrote.at (wrote.off (Reply w) (λ e. cc)) (wrote.off (Place w) (λ e. cc))
      (wrote.off (At w) (λ e. cc)) (wrote.off (SlateLock w) (λ e. cc)) (wrote.off (SlateLen w) (λ e. cc))
      (slate_unmoved s mem mem' (Done w) x wrote w (λ i j e. cc)))

  pub reply_move : StoreEffect mem mem' (Reply w) x → OwnMove s mem mem' w record (worker_words mem w) { reply = x }
  reply_move wrote =
      own_move (Reply w) _ wrote (λ u e. e) (λ l e. e) (λ l p. λ e. cc)
      (own_parts _ _ (wrote.off (Begun w) (λ e. cc)) (wrote.off (Done w) (λ e. cc)) wrote.at (wrote.off (Place w) (λ e. cc))
      (wrote.off (At w) (λ e. cc)) (wrote.off (SlateLock w) (λ e. cc)) (wrote.off (SlateLen w) (λ e. cc))
      (slate_unmoved s mem mem' (Reply w) x wrote w (λ i j e. cc)))

  pub place_move : StoreEffect mem mem' (Place w) x → OwnMove s mem mem' w record (worker_words mem w) { place = x }
  place_move wrote =
      own_move (Place w) _ wrote (λ u e. e) (λ l e. e) (λ l p. λ e. cc)
      (own_parts _ _ (wrote.off (Begun w) (λ e. cc)) (wrote.off (Done w) (λ e. cc)) (wrote.off (Reply w) (λ e. cc)) wrote.at
      (wrote.off (At w) (λ e. cc)) (wrote.off (SlateLock w) (λ e. cc)) (wrote.off (SlateLen w) (λ e. cc))
      (slate_unmoved s mem mem' (Place w) x wrote w (λ i j e. cc)))

  pub at_move : StoreEffect mem mem' (At w) x → OwnMove s mem mem' w record (worker_words mem w) { at = x }
  at_move wrote =
      own_move (At w) _ wrote (λ u e. e) (λ l e. e) (λ l p. λ e. cc)
      (own_parts _ _ (wrote.off (Begun w) (λ e. cc)) (wrote.off (Done w) (λ e. cc)) (wrote.off (Reply w) (λ e. cc)) (wrote.off (Place w) (λ e. cc))
      wrote.at (wrote.off (SlateLock w) (λ e. cc)) (wrote.off (SlateLen w) (λ e. cc))
      (slate_unmoved s mem mem' (At w) x wrote w (λ i j e. cc)))

  pub slate_lock_move : StoreEffect mem mem' (SlateLock w) x → OwnMove s mem mem' w record (worker_words mem w) { slate_lock = x }
  slate_lock_move wrote =
      own_move (SlateLock w) _ wrote (λ u e. e) (λ l e. e) (λ l p. λ e. cc)
      (own_parts _ _ (wrote.off (Begun w) (λ e. cc)) (wrote.off (Done w) (λ e. cc)) (wrote.off (Reply w) (λ e. cc)) (wrote.off (Place w) (λ e. cc))
      (wrote.off (At w) (λ e. cc)) wrote.at (wrote.off (SlateLen w) (λ e. cc))
      (slate_unmoved s mem mem' (SlateLock w) x wrote w (λ i j e. cc)))

  pub slate_len_move : StoreEffect mem mem' (SlateLen w) x → OwnMove s mem mem' w record (worker_words mem w) { slate_len = x }
  slate_len_move wrote =
      own_move (SlateLen w) _ wrote (λ u e. e) (λ l e. e) (λ l p. λ e. cc)
      (own_parts _ _ (wrote.off (Begun w) (λ e. cc)) (wrote.off (Done w) (λ e. cc)) (wrote.off (Reply w) (λ e. cc)) (wrote.off (Place w) (λ e. cc))
      (wrote.off (At w) (λ e. cc)) (wrote.off (SlateLock w) (λ e. cc)) wrote.at
      (slate_unmoved s mem mem' (SlateLen w) x wrote w (λ i j e. cc)))

  pub slate_word_move : (i : ℕ) → i < 24 → StoreEffect mem mem' (SlateWord w (i / 3) (i % 3)) x
      → OwnMove s mem mem' w record (worker_words mem w) { slate = slice_set (worker_words mem w).slate i x }
  slate_word_move i within wrote =
      own_move (SlateWord w (i / 3) (i % 3)) _ wrote (λ u e. e) (λ l e. e) (λ l p. λ e. cc)
      (own_parts _ _ (wrote.off (Begun w) (λ e. cc)) (wrote.off (Done w) (λ e. cc)) (wrote.off (Reply w) (λ e. cc)) (wrote.off (Place w) (λ e. cc))
      (wrote.off (At w) (λ e. cc)) (wrote.off (SlateLock w) (λ e. cc)) (wrote.off (SlateLen w) (λ e. cc))
      (slate_stored mem mem' w x i within wrote))

module _ (s : Shape) (mem mem' : Address → ℕ) (l x : ℕ) where
  lock_move : (a : Address) (new : LockWords) → StoreEffect mem mem' a x → ((k : ℕ) → IsOfLock k a → l ≡ k) → ((u : ℕ) → IsOwn u a → ⊥) → ((k p : ℕ) → a ≢ Node k p)
      → lock_words s mem' l ≡ new → LockMove s mem mem' l new
  lock_move a new wrote is_of no_own no_node lock = record {
    lock = lock;
    others = λ k apart. lock_unmoved s mem mem' a x wrote k (λ is. apart (sym (is_of k is)));
    owns = λ u. own_unmoved s mem mem' a x wrote u (no_own u);
    trees = trees_unmoved s mem mem' a x wrote no_node;
  }

  pub turn_move : StoreEffect mem mem' (Turn l) x → LockMove s mem mem' l record (lock_words s mem l) { turn = x }
  turn_move wrote =
      lock_move (Turn l) _ wrote (λ k e. e) (λ u e. e) (λ k p. λ e. cc)
      (lock_parts _ _ wrote.at (cells_unmoved s mem mem' (Turn l) x wrote l (λ d e. cc)) (shadows_unmoved s mem mem' (Turn l) x wrote l (λ d e. cc)) (wrote.off (ShadowReply l) (λ e. cc)) (wrote.off (Mask l) (λ e. cc)))

  pub cell_move : (c : ℕ) → c < s.cells → StoreEffect mem mem' (Cell l c) x
      → LockMove s mem mem' l record (lock_words s mem l) { cells = slice_set (lock_words s mem l).cells c x }
  cell_move c within wrote =
      lock_move (Cell l c) _ wrote (λ k e. e) (λ u e. e) (λ k p. λ e. cc)
      (lock_parts _ _ (wrote.off (Turn l) (λ e. cc))
      (made_set _ _ s.cells c x within wrote.at (λ d less apart. wrote.off _ (λ e. apart (cc))))
      (shadows_unmoved s mem mem' (Cell l c) x wrote l (λ d e. cc)) (wrote.off (ShadowReply l) (λ e. cc)) (wrote.off (Mask l) (λ e. cc)))

  pub shadow_move : (c : ℕ) → c < s.cells → StoreEffect mem mem' (Shadow l c) x
      → LockMove s mem mem' l record (lock_words s mem l) { shadows = slice_set (lock_words s mem l).shadows c x }
  shadow_move c within wrote =
      lock_move (Shadow l c) _ wrote (λ k e. e) (λ u e. e) (λ k p. λ e. cc)
      (lock_parts _ _ (wrote.off (Turn l) (λ e. cc)) (cells_unmoved s mem mem' (Shadow l c) x wrote l (λ d e. cc))
      (made_set _ _ s.cells c x within wrote.at (λ d less apart. wrote.off _ (λ e. apart (cc))))
      (wrote.off (ShadowReply l) (λ e. cc)) (wrote.off (Mask l) (λ e. cc)))

  pub shadow_reply_move : StoreEffect mem mem' (ShadowReply l) x → LockMove s mem mem' l record (lock_words s mem l) { shadow_reply = x }
  shadow_reply_move wrote =
      lock_move (ShadowReply l) _ wrote (λ k e. e) (λ u e. e) (λ k p. λ e. cc)
      (lock_parts _ _ (wrote.off (Turn l) (λ e. cc)) (cells_unmoved s mem mem' (ShadowReply l) x wrote l (λ d e. cc)) (shadows_unmoved s mem mem' (ShadowReply l) x wrote l (λ d e. cc)) wrote.at (wrote.off (Mask l) (λ e. cc)))

  pub mask_move : StoreEffect mem mem' (Mask l) x → LockMove s mem mem' l record (lock_words s mem l) { mask = x }
  mask_move wrote =
      lock_move (Mask l) _ wrote (λ k e. e) (λ u e. e) (λ k p. λ e. cc)
      (lock_parts _ _ (wrote.off (Turn l) (λ e. cc)) (cells_unmoved s mem mem' (Mask l) x wrote l (λ d e. cc)) (shadows_unmoved s mem mem' (Mask l) x wrote l (λ d e. cc)) (wrote.off (ShadowReply l) (λ e. cc)) wrote.at)

-- What a store of a node leaves unchanged: every word other than the nodes, and every other lock's tree.
module _ (s : Shape) (mem mem' : Address → ℕ) (l p x w levels : ℕ) (worker : w < s.workers) (wrote : StoreEffect mem mem' (Node l p) x)
    (step : TreeStep (tree_size s.leaves s.height s.workers) (lock_nodes mem l) (lock_nodes mem' l) w levels) where
  node_elsewhere : (k : ℕ) → k ≢ l → SameNodes mem mem' k
  node_elsewhere k apart = other_lock mem mem' l p x k wrote apart

  node_move : NodeMove s mem mem' l w levels
  node_move = record {
    owns = λ u. own_unmoved s mem mem' (Node l p) x wrote u (λ e. e);
    locks = λ k. lock_unmoved s mem mem' (Node l p) x wrote k (λ e. e);
    self = step.self;
    others = step.others;
    elsewhere = λ u k apart. (same_tree (lock_nodes mem k) (lock_nodes mem' k) s.leaves s.height s.workers (node_elsewhere k apart)).0 u;
    owner_elsewhere = λ k apart. (same_tree (lock_nodes mem k) (lock_nodes mem' k) s.leaves s.height s.workers (node_elsewhere k apart)).1;
    owner_step = owner_step_law (lock_nodes mem l) (lock_nodes mem' l) s.leaves s.height s.workers w levels s.counted.tree.is_power s.counted.tree.enough worker step;
    rooted = λ k lock root. elim (cases_eq k l) [
      | inl here ↦ (let P : ℕ → Type 0 = λ k. EveryNodeIsHeld (lock_nodes mem' k) s.leaves s.height s.workers in subst P (sym here) step.rooted)
      | inr apart ↦ (same_tree (lock_nodes mem k) (lock_nodes mem' k) s.leaves s.height s.workers (node_elsewhere k apart)).2 root
    ];
  }

-- The two kinds of change of a node.
pub take_move : (s : Shape) (mem mem' : Address → ℕ) (l w k : ℕ) → w < s.workers → k < s.height
    → EveryNodeIsHeld (lock_nodes mem l) s.leaves s.height s.workers → held_levels_in s mem w l ≡ k → mem (Node l (node s.leaves w (suc k))) ≡ 0
    → StoreEffect mem mem' (Node l (node s.leaves w (suc k))) (side s.leaves w (suc k)) → NodeMove s mem mem' l w (suc k)
take_move s mem mem' l w k worker level rooted holds free wrote =
    node_move s mem mem' l _ _ w (suc k) worker wrote (take_in s mem mem' l w k worker level rooted holds free wrote)

pub clear_move : (s : Shape) (mem mem' : Address → ℕ) (l w k : ℕ) → w < s.workers → k < s.height
    → EveryNodeIsHeld (lock_nodes mem l) s.leaves s.height s.workers → held_levels_in s mem w l ≡ suc k
    → StoreEffect mem mem' (Node l (node s.leaves w (suc k))) 0 → NodeMove s mem mem' l w k
clear_move s mem mem' l w k worker level rooted holds wrote =
    node_move s mem mem' l _ _ w k worker wrote (clear_in s mem mem' l w k worker level rooted holds wrote)

-- The lengths of the lists that are read from a memory.
pub cells_long : (s : Shape) (mem : Address → ℕ) (l : ℕ) → length (lock_words s mem l).cells ≡ s.cells
cells_long s mem l = made_long (λ (c : ℕ). mem (Cell l c)) s.cells

pub shadows_long : (s : Shape) (mem : Address → ℕ) (l : ℕ) → length (lock_words s mem l).shadows ≡ s.cells
shadows_long s mem l = made_long (λ (c : ℕ). mem (Shadow l c)) s.cells

pub slate_long : (mem : Address → ℕ) (w : ℕ) → length (worker_words mem w).slate ≡ 24
unfolding slate_of_worker
slate_long mem w = made_long (λ (i : ℕ). mem (SlateWord w (i / 3) (i % 3))) 24

-- A cell, a shadow word and a word of a slate, read from a memory.
pub cell_read : (s : Shape) (mem : Address → ℕ) (l c : ℕ) → c < s.cells → mem (Cell l c) ≡ slice_index (lock_words s mem l).cells c
cell_read s mem l c within = sym (made_at (λ (c : ℕ). mem (Cell l c)) s.cells c 0 within)

pub shadow_read : (s : Shape) (mem : Address → ℕ) (l c : ℕ) → c < s.cells → mem (Shadow l c) ≡ slice_index (lock_words s mem l).shadows c
shadow_read s mem l c within = sym (made_at (λ (c : ℕ). mem (Shadow l c)) s.cells c 0 within)

pub slate_read : (mem : Address → ℕ) (w i : ℕ) → i < 24 → mem (SlateWord w (i / 3) (i % 3)) ≡ slice_index (worker_words mem w).slate i
unfolding slate_of_worker
slate_read mem w i within = sym (made_at (λ (i : ℕ). mem (SlateWord w (i / 3) (i % 3))) 24 i 0 within)

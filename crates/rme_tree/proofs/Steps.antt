-- The laws of one step: two workers whose paths meet, taking a node, releasing the topmost one, and a blocked step.
use Rattle.std.proofs.Common.{◌≡◌, ◌≢◌, ℕ, zero, suc, ◌-◌, ◌^◌, ◌<◌, ◌≤◌, sym, ◌∙◌, ap, subst, inl, inr, arith}
use Rattle.std.proofs.Math.Pow.{pow_mono}
use Rattle.std.proofs.lemmas.Bool.{cases_eq}
use Rattle.rme_tree.specs.Paths.{node, side, held_levels, OwnsUpTo, IsHeldLevels}
use Rattle.rme_tree.specs.HeldTrees.{NodeHolder, EveryNodeIsHeld, NodeStoreEffect, TreeStep, HeldByOther, tree_size}
use Rattle.rme_tree.specs.Laws.{PathLaw, NodeTakeLaw, NodeClearLaw, NodeBlockedLaw, SameOwnerLaw, FreeTreeLaw}
use Rattle.rme_tree.proofs.Levels.{node-zero, node-suc, side-suc, node-down, side_pos, side_le, node_range, same_height}
use Rattle.rme_tree.proofs.Holding.{own_more, own_less, held_is, held_from, held_at, held_least}

-- Workers that both hold their paths up to a common node are one worker: where their paths meet, their sides differ.
pub one_holder : (f : ℕ → ℕ) (m u w k : ℕ) → OwnsUpTo f m u k → OwnsUpTo f m w k → node m u k ≡ node m w k → u ≡ w
one_holder f m u w zero own_u own_w meet = omega (arith, node-zero m u, node-zero m w)
one_holder f m u w (suc k) own_u own_w meet =
    let sides : side m u (suc k) ≡ side m w (suc k) =
    sym (own_u k (omega arith)) ∙ ap f meet ∙ own_w k (omega arith) in
    one_holder f m u w k (own_less f m u (suc k) k (omega arith) own_u) (own_less f m w (suc k) k (omega arith) own_w)
    (omega (arith, node-down m u k, node-down m w k))

-- Paths that meet from the same side already meet one level below.
pub same_below : (m u w k : ℕ) → node m u (suc k) ≡ node m w (suc k) → side m u (suc k) ≡ side m w (suc k) → node m u k ≡ node m w k
same_below m u w k meet sides = omega (arith, node-down m u k, node-down m w k)

-- A worker's nodes above its leaf are nodes of the tree.
pub node_inside : (m h w k : ℕ) → m ≡ 2 ^ h → w < m → k < h → (1 ≤ node m w (suc k)) × (node m w (suc k) < m)
node_inside m h w k power few less =
    let P : ℕ → Type 0 = λ n. w < n → (1 ≤ node n w (suc k)) × (node n w (suc k) < n) in
    subst P (sym power) (λ few. (
      omega (arith, node_range h w (h - suc k) (suc k) few (omega arith), pow_mono {i = 0} {j = h - suc k} (omega arith)),
      omega (arith, node_range h w (h - suc k) (suc k) few (omega arith), pow_mono {i = suc (h - suc k)} {j = h} (omega arith)),
    )) few

-- The same at a level from 1 up to the height.
pub node_within : (m h w j : ℕ) → m ≡ 2 ^ h → w < m → 1 ≤ j → j ≤ h → (1 ≤ node m w j) × (node m w j < m)
node_within m h w zero power few from to = absurd (omega arith)
node_within m h w (suc k) power few from to = node_inside m h w k power few to

-- Equal nodes have equal levels.
pub same_level : (m h u w i j : ℕ) → m ≡ 2 ^ h → u < m → w < m → i ≤ h → j ≤ h → node m u i ≡ node m w j → i ≡ j
same_level m h u w i j power few_u few_w i_in j_in meet =
    let P : ℕ → Type 0 = λ n. u < n → w < n → node n u i ≡ node n w j → i ≡ j in
    subst P (sym power) (λ few_u few_w meet. same_height h u w i j few_u few_w i_in j_in meet) few_u few_w meet

-- The root is on every path.
pub same_root : (m h u w : ℕ) → m ≡ 2 ^ h → u < m → w < m → node m u h ≡ node m w h
same_root m h u w power few_u few_w =
    let P : ℕ → Type 0 = λ n. u < n → w < n → node n u h ≡ node n w h in
    subst P (sym power) (λ few_u few_w. omega (arith, node_range h u 0 h few_u (omega arith), node_range h w 0 h few_w (omega arith))) few_u few_w

pub same_owner : SameOwnerLaw
same_owner f m h u w power few_u few_w own_u own_w = one_holder f m u w h own_u own_w (same_root m h u w power few_u few_w)

-- A holder of the node of `w` at level k + 1 holds its own path up to that level.
holder_level : (f : ℕ → ℕ) (m h n w k : ℕ) → m ≡ 2 ^ h → n ≤ m → w < n → k < h → (r : NodeHolder f m h n (node m w (suc k))) → r.holds.level ≡ k
holder_level f m h n w k power few is_worker less r =
    omega (arith, same_level m h r.worker w (suc r.holds.level) (suc k) power (omega (arith, r.is_worker)) (omega arith) (omega (arith, r.holds.is_level)) (omega arith) r.holds.there)

-- A worker other than `w` whose path passes the node of `w` at its own level j + 1 does so at the level of `w`.
meets_level : (m h n w k u j : ℕ) → m ≡ 2 ^ h → n ≤ m → w < n → k < h → u < n → j < h → node m u (suc j) ≡ node m w (suc k) → j ≡ k
meets_level m h n w k u j power few is_worker less is_other in_height meet =
    omega (arith, same_level m h u w (suc j) (suc k) power (omega arith) (omega arith) (omega arith) (omega arith) meet)

-- Only the word of one node changed: a path that avoids it keeps its words.
own_off : (f g : ℕ → ℕ) (m u k v x : ℕ) → NodeStoreEffect f g v x → ((i : ℕ) → i < k → node m u (suc i) ≢ v) → OwnsUpTo f m u k → OwnsUpTo g m u k
own_off f g m u k v x put off own i less = put.off (node m u (suc i)) (off i less) ∙ own i less

-- A node whose word is a side is not one whose word is 0.
not_free : (f : ℕ → ℕ) (m u v i : ℕ) → f v ≡ 0 → f (node m u (suc i)) ≡ side m u (suc i) → node m u (suc i) ≢ v
not_free f m u v i free here e = let t : f (node m u (suc i)) ≡ 0 = ap f e ∙ free in omega (arith, side_pos m u (suc i))

module _ (f g : ℕ → ℕ) (m h n w k : ℕ) (power : m ≡ 2 ^ h) (few : n ≤ m) (is_worker : w < n) (less : k < h) (root : EveryNodeIsHeld f m h n) where
  -- Above a free node of its path, a worker's sides are not stored.
  above_free : f (node m w (suc k)) ≡ 0 → suc k < h → f (node m w (suc (suc k))) ≢ side m w (suc (suc k))
  above_free free higher here =
      let inside : (1 ≤ node m w (suc (suc k))) × (node m w (suc (suc k)) < m) = node_inside m h w (suc k) power (omega arith) higher in
      let r : NodeHolder f m h n (node m w (suc (suc k))) = root _ inside.0 inside.1 (omega (arith, side_pos m w (suc (suc k)))) in
      let level : r.holds.level ≡ suc k = holder_level f m h n w (suc k) power few is_worker higher r in
      let P : ℕ → Type 0 = λ j. (node m r.worker (suc j) ≡ node m w (suc (suc k))) × OwnsUpTo f m r.worker (suc j) in
      let at : (node m r.worker (suc (suc k)) ≡ node m w (suc (suc k))) × OwnsUpTo f m r.worker (suc (suc k)) = subst P level (r.holds.there, r.holds.own) in
      let sides : side m r.worker (suc (suc k)) ≡ side m w (suc (suc k)) = sym (at.1 (suc k) (omega arith)) ∙ ap f at.0 ∙ here in
      let below : node m r.worker (suc k) ≡ node m w (suc k) = same_below m r.worker w (suc k) at.0 sides in
      not_free f m r.worker (node m w (suc k)) k free (at.1 k (omega arith)) below

  module _ (holds : held_levels f m w h ≡ k) (free : f (node m w (suc k)) ≡ 0) (put : NodeStoreEffect f g (node m w (suc k)) (side m w (suc k))) where
    taken_own : OwnsUpTo g m w (suc k)
    taken_own =
        own_more g m w k
        (own_off f g m w k _ _ put (λ i below. not_free f m w _ i free ((held_at f m w h k holds).own i below)) (held_at f m w h k holds).own)
        put.at

    taken_self : IsHeldLevels g m w h (suc k)
    taken_self = record {
      within = omega arith;
      own = taken_own;
      ends = λ higher here. above_free free higher
          (sym (put.off _ (λ e. absurd (omega (arith, same_level m h w w (suc (suc k)) (suc k) power (omega arith) (omega arith) (omega arith) (omega arith) e)))) ∙ here);
    }

    taken_other : (u : ℕ) → u < n → u ≢ w → IsHeldLevels g m u h (held_levels f m u h)
    taken_other u is_other other =
        let was : IsHeldLevels f m u h (held_levels f m u h) = held_is f m u h in
        record {
          within = was.within;
          own = own_off f g m u _ _ _ put (λ i below. not_free f m u _ i free (was.own i below)) was.own;
          ends = λ higher here. elim (cases_eq (node m u (suc (held_levels f m u h))) (node m w (suc k))) [
            | inl meet ↦
                (let level : held_levels f m u h ≡ k = meets_level m h n w k u _ power few is_worker less is_other higher meet in
                let P : ℕ → Type 0 = λ j. (node m u (suc j) ≡ node m w (suc k)) × OwnsUpTo f m u j × (g (node m u (suc j)) ≡ side m u (suc j)) in
                let at : (node m u (suc k) ≡ node m w (suc k)) × OwnsUpTo f m u k × (g (node m u (suc k)) ≡ side m u (suc k)) = subst P level (meet, was.own, here) in
                other (one_holder f m u w k at.1 (held_at f m w h k holds).own
                (same_below m u w k at.0 (sym at.2 ∙ ap g at.0 ∙ put.at))))
            | inr apart ↦ was.ends higher (sym (put.off _ apart) ∙ here)
          ];
        }

    taken_root : EveryNodeIsHeld g m h n
    taken_root v some inside taken =
        elim (cases_eq v (node m w (suc k))) [
          | inl here ↦ record { worker = w; is_worker = is_worker; holds = record { level = k; is_level = less; there = sym here; own = taken_own } }
          | inr apart ↦
              (let r : NodeHolder f m h n v = root v some inside (λ e. taken (put.off v apart ∙ e)) in
              record {
                worker = r.worker;
                is_worker = r.is_worker;
                holds = record {
                  level = r.holds.level;
                  is_level = r.holds.is_level;
                  there = r.holds.there;
                  own = own_off f g m r.worker _ _ _ put (λ i below. not_free f m r.worker _ i free (r.holds.own i below)) r.holds.own;
                };
              })
        ]

    taken : TreeStep (tree_size m h n) f g w (suc k)
    taken = record {
      self = held_from g m w h (suc k) taken_self;
      others = λ u is_other other. held_from g m u h _ (taken_other u is_other other);
      rooted = taken_root;
    }

  module _ (holds : held_levels f m w h ≡ suc k) (put : NodeStoreEffect f g (node m w (suc k)) 0) where
    cleared_own : OwnsUpTo f m w (suc k)
    cleared_own = (held_at f m w h (suc k) holds).own

    cleared_self : IsHeldLevels g m w h k
    cleared_self = record {
      within = omega arith;
      own = own_off f g m w k _ _ put
          (λ i below e. absurd (omega (arith, same_level m h w w (suc i) (suc k) power (omega arith) (omega arith) (omega arith) (omega arith) e)))
          (own_less f m w (suc k) k (omega arith) cleared_own);
      ends = λ higher here. omega (arith, put.at, here, side_pos m w (suc k));
    }

    -- The path of another worker that holds it so far does not pass that node.
    cleared_off : (u j : ℕ) → u < n → u ≢ w → j ≤ h → OwnsUpTo f m u j → (i : ℕ) → i < j → node m u (suc i) ≢ node m w (suc k)
    cleared_off u j is_other other in_height own i below meet =
        let level : i ≡ k = meets_level m h n w k u i power few is_worker less is_other (omega arith) meet in
        let P : ℕ → Type 0 = λ i. (i < j) × (node m u (suc i) ≡ node m w (suc k)) in
        let at : (k < j) × (node m u (suc k) ≡ node m w (suc k)) = subst P level (below, meet) in
        other (one_holder f m u w (suc k) (own_less f m u j (suc k) (omega (arith, at.0)) own) cleared_own at.1)

    cleared_other : (u : ℕ) → u < n → u ≢ w → IsHeldLevels g m u h (held_levels f m u h)
    cleared_other u is_other other =
        let was : IsHeldLevels f m u h (held_levels f m u h) = held_is f m u h in
        record {
          within = was.within;
          own = own_off f g m u _ _ _ put (cleared_off u _ is_other other was.within was.own) was.own;
          ends = λ higher here. elim (cases_eq (node m u (suc (held_levels f m u h))) (node m w (suc k))) [
            | inl meet ↦ omega (arith, side_pos m u (suc (held_levels f m u h)), here, ap g meet ∙ put.at)
            | inr apart ↦ was.ends higher (sym (put.off _ apart) ∙ here)
          ];
        }

    -- A worker that holds its path beyond the cleared node is another worker.
    cleared_holder : (v : ℕ) → v ≢ node m w (suc k) → (r : NodeHolder f m h n v) → OwnsUpTo g m r.worker (suc r.holds.level)
    cleared_holder v apart r =
        elim (cases_eq r.worker w) [
          | inl same ↦
              (let P : ℕ → Type 0 = λ u. (node m u (suc r.holds.level) ≡ v) × OwnsUpTo f m u (suc r.holds.level) in
              let at : (node m w (suc r.holds.level) ≡ v) × OwnsUpTo f m w (suc r.holds.level) = subst P same (r.holds.there, r.holds.own) in
              let Q : ℕ → Type 0 = λ u. OwnsUpTo g m u (suc r.holds.level) in
              subst Q (sym same) (own_off f g m w _ _ _ put
              (λ i below e.
              let level : i ≡ k = meets_level m h n w k w i power few is_worker less is_worker (omega (arith, r.holds.is_level)) e in
              let top : r.holds.level ≡ k = omega (arith, holds, held_least f m w h (suc r.holds.level) (omega (arith, r.holds.is_level)) at.1) in
              let R : ℕ → Type 0 = λ j. node m w (suc j) ≡ v in
              apart (sym (subst R top at.0)))
              at.1))
          | inr other ↦ own_off f g m r.worker _ _ _ put (cleared_off r.worker _ r.is_worker other (omega (arith, r.holds.is_level)) r.holds.own) r.holds.own
        ]

    cleared_root : EveryNodeIsHeld g m h n
    cleared_root v some inside taken =
        let apart : v ≢ node m w (suc k) = λ e. taken (ap g e ∙ put.at) in
        let r : NodeHolder f m h n v = root v some inside (λ e. taken (put.off v apart ∙ e)) in
        record {
          worker = r.worker;
          is_worker = r.is_worker;
          holds = record {
            level = r.holds.level;
            is_level = r.holds.is_level;
            there = r.holds.there;
            own = cleared_holder v apart r;
          };
        }

    cleared : TreeStep (tree_size m h n) f g w k
    cleared = record {
      self = held_from g m w h k cleared_self;
      others = λ u is_other other. held_from g m u h _ (cleared_other u is_other other);
      rooted = cleared_root;
    }

pub take : NodeTakeLaw
take f g m h n w k power few is_worker less holds free put root = taken f g m h n w k power few is_worker less root holds free put

pub clear : NodeClearLaw
clear f g m h n w k power few is_worker less holds put root = cleared f g m h n w k power few is_worker less root holds put

blocks : (f : ℕ → ℕ) (m h n w k : ℕ) → IsHeldLevels f m w h k → k < h → (r : NodeHolder f m h n (node m w (suc k))) → r.holds.level ≡ k → HeldByOther f m h n w k
blocks f m h n w k is less r level =
    let P : ℕ → Type 0 = λ j. (node m r.worker (suc j) ≡ node m w (suc k)) × OwnsUpTo f m r.worker (suc j) in
    let at : (node m r.worker (suc k) ≡ node m w (suc k)) × OwnsUpTo f m r.worker (suc k) = subst P level (r.holds.there, r.holds.own) in
    let word : f (node m w (suc k)) ≡ side m r.worker (suc k) = sym (ap f at.0) ∙ at.1 k (omega arith) in
    let apart : side m r.worker (suc k) ≢ side m w (suc k) = λ e. is.ends less (word ∙ e) in
    record {
      other_side = omega (arith, word, apart, side_pos m w (suc k), side_le m w (suc k), side_pos m r.worker (suc k), side_le m r.worker (suc k));
      blocker = r.worker;
      is_worker = r.is_worker;
      is_other = λ same. apart (ap (λ (u : ℕ). side m u (suc k)) same);
      there = at.0;
      holds = held_least f m r.worker h (suc k) (omega arith) at.1;
    }

pub blocked : NodeBlockedLaw
blocked f m h n w k power few is_worker less holds taken root =
    let inside : (1 ≤ node m w (suc k)) × (node m w (suc k) < m) = node_inside m h w k power (omega arith) less in
    let r : NodeHolder f m h n (node m w (suc k)) = root _ inside.0 inside.1 taken in
    blocks f m h n w k (held_at f m w h k holds) less r (holder_level f m h n w k power few is_worker less r)

pub free_tree : FreeTreeLaw
free_tree f m h n power few free = (
  λ v some inside taken. absurd (taken (free v some inside)),
  λ w less. held_from f m w h 0 record {
    within = omega arith;
    own = λ i below. absurd (omega arith);
    ends = λ higher here.
        let inside : (1 ≤ node m w 1) × (node m w 1 < m) = node_inside m h w 0 power less higher in
        omega (arith, free _ inside.0 inside.1, here, side_pos m w 1);
  },
)

pub path_law : PathLaw
path_law m h w power few = (
  node-zero m w,
  node-suc m w,
  side-suc m w,
  (let P : ℕ → Type 0 = λ n. w < n → node n w h ≡ 1 in
      subst P (sym power) (λ few. omega (arith, node_range h w 0 h few (omega arith))) few),
)

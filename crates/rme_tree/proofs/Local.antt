-- The clause on nodes by sides and children is equivalent to every node having a holder.
use Rattle.std.proofs.Common.{◌≡◌, ◌≢◌, ℕ, zero, suc, ◌+◌, ◌*◌, ◌^◌, ◌<◌, ◌≤◌, ◌⊎◌, sym, ◌∙◌, ap, inl, inr, arith, pow-suc, mul-le-mul_right, refl}
use Rattle.std.proofs.lemmas.Bool.{cases_eq}
use Rattle.rme_tree.specs.Paths.{node, side}
use Rattle.rme_tree.specs.HeldTrees.{NodeHolder, EveryNodeIsHeld, IsLocalTree, IsLocalNode, child_node}
use Rattle.rme_tree.specs.Laws.{LocalTreeLaw}
use Rattle.rme_tree.proofs.Levels.{comes, node-zero, node-down, side_pos, side_le}
use Rattle.rme_tree.proofs.Holding.{own_more}
use Rattle.rme_tree.proofs.Steps.{node_inside}

-- The worker's leaf, which is a child of the node.
at_leaf : (f : ℕ → ℕ) (m d n v w : ℕ) → w < n → 0 < d → f v ≢ 0 → f v ≤ 2 → child_node v (f v) ≡ m + w → NodeHolder f m d n v
at_leaf f m d n v w is_worker higher taken few e =
    let up : (node m w 1 ≡ v) × (side m w 1 ≡ f v) = comes m w 0 v (f v) taken few (node-zero m w ∙ sym e) in
    record {
      worker = w;
      is_worker = is_worker;
      holds = record {
        level = 0;
        is_level = higher;
        there = up.0;
        own = own_more f m w 0 (λ i below. absurd (omega arith)) (ap f up.0 ∙ sym up.1);
      };
    }

-- The holder of a child holds the node too.
from_child : (f : ℕ → ℕ) (m d n v : ℕ) → f v ≢ 0 → f v ≤ 2 → NodeHolder f m d n (child_node v (f v)) → NodeHolder f m (suc d) n v
from_child f m d n v taken few r =
    let up : (node m r.worker (suc (suc r.holds.level)) ≡ v) × (side m r.worker (suc (suc r.holds.level)) ≡ f v) =
    comes m r.worker (suc r.holds.level) v (f v) taken few r.holds.there in
    record {
      worker = r.worker;
      is_worker = r.is_worker;
      holds = record {
        level = suc r.holds.level;
        is_level = omega (arith, r.holds.is_level);
        there = up.0;
        own = own_more f m r.worker (suc r.holds.level) r.holds.own (ap f up.0 ∙ sym up.1);
      };
    }

-- The holder of a node, found downward. `d` is an upper bound for the levels from the leaves up to the node.
found : (f : ℕ → ℕ) (m n : ℕ) → IsLocalTree f m n → (d v : ℕ) → 1 ≤ v → v < m → m ≤ v * 2 ^ d → f v ≢ 0 → NodeHolder f m d n v
found f m n every zero v some inside far taken = absurd (omega arith)
found f m n every (suc d) v some inside far taken =
    let here : IsLocalNode f m n v = every v some inside in
    elim (here.named taken) [
      | inl leaf ↦ at_leaf f m (suc d) n v leaf.0 leaf.1 (omega arith) taken here.side_word leaf.2
      | inr more ↦ from_child f m d n v taken here.side_word
          (found f m n every d (child_node v (f v)) (omega (arith, taken)) more.0
          (deeper m v (f v) d taken far) more.1)
    ]
  where
    deeper : (m v x d : ℕ) → x ≢ 0 → m ≤ v * 2 ^ suc d → m ≤ child_node v x * 2 ^ d
    deeper m v x d some far =
        let wider : 2 * v ≤ child_node v x = omega (arith, some) in
        omega (arith, far, ap (λ (p : ℕ). v * p) (pow-suc 2 d), mul-le-mul_right (2 ^ d) wider)

pub local-rooted : (f : ℕ → ℕ) (m h n : ℕ) → m ≡ 2 ^ h → n ≤ m → IsLocalTree f m n → EveryNodeIsHeld f m h n
local-rooted f m h n power few every v some inside taken = found f m n every h v some inside (omega (arith, power, mul-le-mul_right (2 ^ h) some)) taken

-- The child of a held node on the side of its word: the holder's node one level below.
child_of : (f : ℕ → ℕ) (m h n v : ℕ) → (r : NodeHolder f m h n v) → (f v ≡ side m r.worker (suc r.holds.level)) × (child_node v (f v) ≡ node m r.worker r.holds.level)
child_of f m h n v r =
    let word : f v ≡ side m r.worker (suc r.holds.level) = ap f (sym r.holds.there) ∙ r.holds.own r.holds.level (omega arith) in
    (word, omega (arith, word, r.holds.there, node-down m r.worker r.holds.level))

pub rooted-local : (f : ℕ → ℕ) (m h n : ℕ) → m ≡ 2 ^ h → n ≤ m → EveryNodeIsHeld f m h n → IsLocalTree f m n
rooted-local f m h n power few root v some inside = record {
  side_word = elim (cases_eq (f v) 0) [
    | inl free ↦ omega (arith, free)
    | inr taken ↦
        (let r : NodeHolder f m h n v = root v some inside taken in
        omega (arith, (child_of f m h n v r).0, side_le m r.worker (suc r.holds.level)))
  ];
  named = λ taken.
      let r : NodeHolder f m h n v = root v some inside taken in
      let at : (f v ≡ side m r.worker (suc r.holds.level)) × (child_node v (f v) ≡ node m r.worker r.holds.level) = child_of f m h n v r in
      below r r.holds.level refl at.1;
}
  where
    below : (r : NodeHolder f m h n v) (level : ℕ) → r.holds.level ≡ level → child_node v (f v) ≡ node m r.worker r.holds.level
        → ((w : ℕ) × (w < n) × (child_node v (f v) ≡ m + w)) ⊎ ((child_node v (f v) < m) × (f (child_node v (f v)) ≢ 0))
    below r zero e at = inl (r.worker, r.is_worker, at ∙ ap (node m r.worker) e ∙ node-zero m r.worker)
    below r (suc level) e at =
        let at' : child_node v (f v) ≡ node m r.worker (suc level) = at ∙ ap (node m r.worker) e in
        let inside : (1 ≤ node m r.worker (suc level)) × (node m r.worker (suc level) < m) =
        node_inside m h r.worker level power (omega (arith, r.is_worker)) (omega (arith, r.holds.is_level)) in
        inr (
          omega (arith, at', inside.1),
          λ free. omega (arith, side_pos m r.worker (suc level), r.holds.own level (omega arith), sym (ap f at') ∙ free),
        )

pub local_law : LocalTreeLaw
local_law f m h n power few = (local-rooted f m h n power few, rooted-local f m h n power few)

-- The nodes and sides of a path. Everything else is proved from these lemmas, without a quotient or a power.
use Rattle.std.proofs.Common.{◌≡◌, ◌≢◌, ℕ, zero, suc, ◌+◌, ◌-◌, ◌*◌, ◌/◌, ◌%◌, ◌^◌, ◌<◌, ◌≤◌, sym, ap, subst, div-one, pow-suc, arith, inl, inr}
use Rattle.std.proofs.Math.Nat.{div-div-eq-div-mul}
use Rattle.std.proofs.Math.Pow.{pow_mono}
use Rattle.std.proofs.lemmas.Bool.{cases_order}
use Rattle.rme_tree.specs.Paths.{node, side}
use Rattle.rme_tree.specs.HeldTrees.{child_node}

pub node-zero : (m w : ℕ) → node m w 0 ≡ m + w
unfolding node
node-zero m w = div-one (m + w)

pub node-suc : (m w j : ℕ) → node m w (suc j) ≡ node m w j / 2
unfolding node
node-suc m w j = rw (pow-suc 2 j) (sym (div-div-eq-div-mul (m + w) (2 ^ j) 2))

pub side-suc : (m w j : ℕ) → side m w (suc j) ≡ 1 + node m w j % 2
unfolding side
side-suc m w j = let e : suc j - 1 ≡ j = omega arith in ap (λ (n : ℕ). 1 + node m w n % 2) e

pub node-down : (m w j : ℕ) → node m w j + 1 ≡ 2 * node m w (suc j) + side m w (suc j)
node-down m w j = omega (arith, node-suc m w j, side-suc m w j)

pub side_pos : (m w j : ℕ) → 0 < side m w j
unfolding side
side_pos m w j = omega arith

pub side_le : (m w j : ℕ) → side m w j ≤ 2
unfolding side
side_le m w j = omega arith

-- A path that passes the child of a node on the side of that node's word passes the node from that side.
pub comes : (m w k v x : ℕ) → x ≢ 0 → x ≤ 2 → node m w k ≡ child_node v x → (node m w (suc k) ≡ v) × (side m w (suc k) ≡ x)
comes m w k v x some few e =
    (omega (arith, some, few, e, node-suc m w k), omega (arith, some, few, e, side-suc m w k))

-- Nodes i levels below the top level are in the range of one power of two.
pub node_range : (h w i j : ℕ) → w < 2 ^ h → i + j ≡ h → (2 ^ i ≤ node (2 ^ h) w j) × (node (2 ^ h) w j < 2 ^ suc i)
node_range h w i zero few e =
    let same : i ≡ h = omega arith in
    let P : ℕ → Type 0 = λ n. (2 ^ n ≤ node (2 ^ h) w 0) × (node (2 ^ h) w 0 < 2 ^ suc n) in
    subst P (sym same) (omega (arith, node-zero (2 ^ h) w), omega (arith, node-zero (2 ^ h) w, pow-suc 2 h))
node_range h w i (suc j) few e =
    let below : (2 ^ suc i ≤ node (2 ^ h) w j) × (node (2 ^ h) w j < 2 ^ suc (suc i)) = node_range h w (suc i) j few (omega arith) in
    (omega (arith, node-suc (2 ^ h) w j, pow-suc 2 i), omega (arith, node-suc (2 ^ h) w j, pow-suc 2 i, pow-suc 2 (suc i)))

lower : (h u w i j i' j' : ℕ) → u < 2 ^ h → w < 2 ^ h → i' + i ≡ h → j' + j ≡ h → node (2 ^ h) u i ≡ node (2 ^ h) w j → i' < j' → ⊥
lower h u w i j i' j' few_u few_w at_i at_j same less =
    omega (arith, node_range h u i' i few_u at_i, node_range h w j' j few_w at_j, pow_mono {i = suc i'} {j = j'} (omega arith))

-- Equal nodes have equal levels.
pub same_height : (h u w i j : ℕ) → u < 2 ^ h → w < 2 ^ h → i ≤ h → j ≤ h → node (2 ^ h) u i ≡ node (2 ^ h) w j → i ≡ j
same_height h u w i j few_u few_w i_in j_in same =
    elim (cases_order i j) [
      | inl equal ↦ equal
      | inr (inl less) ↦ absurd (lower h w u j i (h - j) (h - i) few_w few_u (omega arith) (omega arith) (sym same) (omega arith))
      | inr (inr more) ↦ absurd (lower h u w i j (h - i) (h - j) few_u few_w (omega arith) (omega arith) same (omega arith))
    ]

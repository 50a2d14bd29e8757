-- The condition of a node's word on a leaf.
use Rattle.std.proofs.Common.{◌≡◌, ◌≢◌, ℕ, ◌+◌, ◌-◌, ◌*◌, ◌<◌, ◌≤◌, ◌↔◌, ◌∙◌, inl, inr, arith}
use Rattle.std.specs.Prelude.{IsTrue, nat_lt}
use Rattle.std.proofs.lemmas.Bool.{lt-ltb, ltb-true}
use Rattle.rme_tree.specs.HeldTrees.{IsLocalNode}

-- A node whose side has a leaf as its child: the leaf's worker is one of the shape, or not. `m` and `n` were read from
-- the shape.
pub leaf_local : (f : ℕ → ℕ) (leaves workers m n v word : ℕ) → m ≡ leaves → n ≡ workers → word ≡ f v → word ≢ 0 → word ≤ 2 → m ≤ 2 * v + word - 1
    → IsTrue (nat_lt (2 * v + word - 1 - m) n) ↔ IsLocalNode f leaves workers v
leaf_local f leaves workers m n v word is_leaves is_workers is taken few past = (
  (λ t.
      let below : 2 * v + word - 1 - m < n = ltb-true (2 * v + word - 1 - m) n t in
      record { side_word = omega (arith, is, few); named = λ some. inl (2 * v + word - 1 - m, omega (arith, below, is_workers), omega (arith, is, past, taken, is_leaves)) }),
  (λ local. elim (local.named (λ none. taken (is ∙ none))) [
    | inl leaf ↦ lt-ltb (2 * v + word - 1 - m) n (omega (arith, leaf.1, leaf.2, is, is_leaves, is_workers))
    | inr more ↦ absurd (omega (arith, more.0, is, past, is_leaves))
  ]),
)

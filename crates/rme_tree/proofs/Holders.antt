-- The owner is the worker that holds the root, and the worker that blocks another.
use Rattle.std.proofs.Common.{◌≡◌, ◌≢◌, ℕ, suc, ◌-◌, ◌^◌, ◌<◌, ◌≤◌, ◌↔◌, refl, sym, ◌∙◌, ap, subst, arith, Option, Some, None}
use Rattle.std.specs.Prelude.{IfSome}
use Rattle.std.proofs.lemmas.Option.{none-some}
use Rattle.rme_tree.specs.Paths.{node, held_levels, owner, OwnsUpTo, OwnsTree, HoldsNode, Blocks}
use Rattle.rme_tree.specs.HeldTrees.{NodeHolder}
use Rattle.rme_tree.specs.Laws.{BlockerLaw}
use Rattle.rme_tree.proofs.Holding.{held_least}
use Rattle.rme_tree.proofs.Ownership.{owner_absent, owner_holds, owner_is, held-owns, owns-held}
use Rattle.rme_tree.proofs.Steps.{path_law, node_inside, same_level}

-- A worker owns the lock if and only if it holds the root.
owns-root : (f : ℕ → ℕ) (m h w : ℕ) → m ≡ 2 ^ h → w < m → 1 ≤ h → OwnsTree f m h w → HoldsNode f m h w 1
owns-root f m h w power few some owns =
    let P : ℕ → Type 0 = λ j. (node m w j ≡ 1) × OwnsUpTo f m w j in
    let e : suc (h - 1) ≡ h = omega arith in
    let at : (node m w (suc (h - 1)) ≡ 1) × OwnsUpTo f m w (suc (h - 1)) = subst P (sym e) ((path_law m h w power few).3, owns) in
    record { level = h - 1; is_level = omega arith; there = at.0; own = at.1 }

root-owns : (f : ℕ → ℕ) (m h w : ℕ) → m ≡ 2 ^ h → w < m → HoldsNode f m h w 1 → OwnsTree f m h w
root-owns f m h w power few holds =
    let e : suc holds.level ≡ h =
    same_level m h w w (suc holds.level) h power few few (omega (arith, holds.is_level)) (omega arith) (holds.there ∙ sym (path_law m h w power few).3) in
    let P : ℕ → Type 0 = λ j. OwnsUpTo f m w j in subst P e holds.own

-- The contract of the owner, from that of the holder of the root.
module _ (f : ℕ → ℕ) (m h n : ℕ) (power : m ≡ 2 ^ h) (few : n ≤ m) (some : 1 ≤ h) where
  pub owner_found : (found : Option ℕ) → IfSome found (λ w. w < n) → ((w : ℕ) → w < n → (found ≡ Some w) ↔ HoldsNode f m h w 1) → found ≡ owner f m h n
  owner_found None is_worker shown =
      sym (owner_absent f m h n (λ w less holds.
      absurd (none-some w ((shown w less).1 (owns-root f m h w power (omega arith) some (held-owns f m h w holds))))))
  owner_found (Some w) is_worker shown =
      sym (owner_is f m h n w power few is_worker (owns-held f m h w (root-owns f m h w power (omega arith) ((shown w is_worker).0 refl))))

  pub shown_owner : (found : Option ℕ) → found ≡ owner f m h n → (w : ℕ) → w < n → (found ≡ Some w) ↔ OwnsTree f m h w
  shown_owner found e w less = (
    λ same. held-owns f m h w (owner_holds f m h n w (sym e ∙ same)).1,
    λ owns. e ∙ owner_is f m h n w power few less (owns-held f m h w owns),
  )

-- A worker does not hold the node above its own levels.
pub no_own_blocker : (f : ℕ → ℕ) (m h w : ℕ) → m ≡ 2 ^ h → w < m → Blocks f m h w w → ⊥
no_own_blocker f m h w power few blocks =
    let r : HoldsNode f m h w (node m w (suc (held_levels f m w h))) = blocks.1 in
    let e : suc r.level ≡ suc (held_levels f m w h) =
    same_level m h w w (suc r.level) (suc (held_levels f m w h)) power few few (omega (arith, r.is_level)) (omega (arith, blocks.0)) r.there in
    omega (arith, e, held_least f m w h (suc r.level) (omega (arith, r.is_level)) r.own)

-- The contract of the blocker, from that of the holder of the node above a worker's levels.
pub shown_blocker : (f : ℕ → ℕ) (m h n w k place : ℕ) (found : Option ℕ) → k ≡ held_levels f m w h → k < h → place ≡ node m w (suc k)
    → ((b : ℕ) → b < n → (found ≡ Some b) ↔ HoldsNode f m h b place) → (b : ℕ) → b < n → (found ≡ Some b) ↔ Blocks f m h b w
shown_blocker f m h n w k place found holds less at shown b is_worker =
    let e : place ≡ node m w (suc (held_levels f m w h)) = at ∙ ap (λ (j : ℕ). node m w (suc j)) holds in
    let P : ℕ → Type 0 = λ v. HoldsNode f m h b v in (
      λ same. (omega arith, subst P e ((shown b is_worker).0 same)),
      λ blocks. (shown b is_worker).1 (subst P (sym e) blocks.1),
    )

-- A blocker is another worker.
pub other_blocker : (f : ℕ → ℕ) (m h n w : ℕ) (found : Option ℕ) → m ≡ 2 ^ h → n ≤ m → w < n → IfSome found (λ b. b < n)
    → ((b : ℕ) → b < n → (found ≡ Some b) ↔ Blocks f m h b w) → IfSome found (λ b. b ≢ w)
other_blocker f m h n w None power few is_worker within shown = tt
other_blocker f m h n w (Some b) power few is_worker within shown =
    λ same.
    let P : ℕ → Type 0 = λ u. Blocks f m h u w in
    no_own_blocker f m h w power (omega arith) (subst P same ((shown b within).0 refl))

pub blocker_law : BlockerLaw
blocker_law f m h n w power few is_worker less taken root =
    let inside : (1 ≤ node m w (suc (held_levels f m w h))) × (node m w (suc (held_levels f m w h)) < m) = node_inside m h w (held_levels f m w h) power (omega arith) less in
    let r : NodeHolder f m h n (node m w (suc (held_levels f m w h))) = root _ inside.0 inside.1 taken in
    let P : ℕ → Type 0 = λ u. Blocks f m h u w in
    (r.worker, r.is_worker, (λ same. no_own_blocker f m h w power (omega arith) (subst P same (less, r.holds))), (less, r.holds))

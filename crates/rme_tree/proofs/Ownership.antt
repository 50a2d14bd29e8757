-- The owner is the worker that holds every level of its path, and the effect of a step of one worker on the ownership.
use Rattle.std.proofs.Common.{◌≡◌, ◌≢◌, ℕ, suc, ◌^◌, ◌<◌, ◌≤◌, true, eqb, refl, sym, ◌∙◌, ap, subst, inl, inr, arith, Option, Some, None}
use Rattle.std.proofs.lemmas.Bool.{cases_eq, eqb-true, eqb-false, ne_eqb}
use Rattle.rme_tree.specs.Paths.{node, held_levels, owner, OwnsTree}
use Rattle.rme_tree.specs.HeldTrees.{NodeHolder, TreeStep, tree_size}
use Rattle.rme_tree.specs.Laws.{OwnerLaw, OwnerStepLaw, SameTreeLaw}
use Rattle.rme_tree.proofs.Firsts.{first_passes, first_none, first_same, first_fails}
use Rattle.rme_tree.proofs.Holding.{held_at, held_within, held_least, held_same}
use Rattle.rme_tree.proofs.Steps.{same_owner}

-- A worker owns the lock if and only if it holds every level.
pub owns-held : (f : ℕ → ℕ) (m h w : ℕ) → OwnsTree f m h w → held_levels f m w h ≡ h
owns-held f m h w owns = omega (arith, held_within f m w h, held_least f m w h h (omega arith) owns)

pub held-owns : (f : ℕ → ℕ) (m h w : ℕ) → held_levels f m w h ≡ h → OwnsTree f m h w
held-owns f m h w holds = (held_at f m w h h holds).own

pub owner_holds : (f : ℕ → ℕ) (m h n w : ℕ) → owner f m h n ≡ Some w → (w < n) × (held_levels f m w h ≡ h)
unfolding owner
owner_holds f m h n w e =
    let at : (w < n) × (eqb (held_levels f m w h) h ≡ true) = first_passes n _ w e in
    (at.0, eqb-true _ _ at.1)

pub owner_none : (f : ℕ → ℕ) (m h n w : ℕ) → owner f m h n ≡ None → w < n → held_levels f m w h ≢ h
unfolding owner
owner_none f m h n w e less = eqb-false _ _ (first_none n (λ (w : ℕ). eqb (held_levels f m w h) h) w e less)

pub owner_is : (f : ℕ → ℕ) (m h n w : ℕ) → m ≡ 2 ^ h → n ≤ m → w < n → held_levels f m w h ≡ h → owner f m h n ≡ Some w
owner_is f m h n w power few less holds = go (owner f m h n) refl
  where
    go : (found : Option ℕ) → owner f m h n ≡ found → found ≡ Some w
    go None e = absurd (owner_none f m h n w e less holds)
    go (Some u) e =
        let at : (u < n) × (held_levels f m u h ≡ h) = owner_holds f m h n u e in
        ap (λ (x : ℕ). Some x) (same_owner f m h u w power (omega (arith, at.0)) (omega arith) (held-owns f m h u at.1) (held-owns f m h w holds))

-- If no worker holds every level, there is no owner.
pub owner_absent : (f : ℕ → ℕ) (m h n : ℕ) → ((w : ℕ) → w < n → held_levels f m w h ≢ h) → owner f m h n ≡ None
unfolding owner
owner_absent f m h n nobody = first_fails n (λ (w : ℕ). eqb (held_levels f m w h) h) (λ w less all. nobody w less (eqb-true _ _ all))

pub owner_law : OwnerLaw
owner_law f m h n w power few less = (λ e. (owner_holds f m h n w e).1, owner_is f m h n w power few less)

-- Trees in which the same workers hold every level have the same owner.
pub owner_same : (f g : ℕ → ℕ) (m h n : ℕ) → ((w : ℕ) → w < n → eqb (held_levels g m w h) h ≡ eqb (held_levels f m w h) h) → owner g m h n ≡ owner f m h n
unfolding owner
owner_same f g m h n same = first_same n _ _ same

-- The owner after a step that ends below the root, by a worker that did not own the lock.
pub owner_kept : (f g : ℕ → ℕ) (m h n w k : ℕ) → TreeStep (tree_size m h n) f g w k → held_levels f m w h ≢ h → k ≢ h → owner g m h n ≡ owner f m h n
owner_kept f g m h n w k step was is =
    owner_same f g m h n (λ u less. elim (cases_eq u w) [
      | inl same ↦
          (let P : ℕ → Type 0 = λ u. eqb (held_levels g m u h) h ≡ eqb (held_levels f m u h) h in
          subst P (sym same) (ne_eqb _ _ (λ e. is (sym step.self ∙ e)) ∙ sym (ne_eqb _ _ was)))
      | inr other ↦ ap (λ (j : ℕ). eqb j h) (step.others u less other)
    ])

-- After a step of the owner that ends below the root, there is no owner.
pub owner_left : (f g : ℕ → ℕ) (m h n w k : ℕ) → m ≡ 2 ^ h → n ≤ m → w < n → TreeStep (tree_size m h n) f g w k → held_levels f m w h ≡ h → k ≢ h → owner g m h n ≡ None
owner_left f g m h n w k power few less step was is =
    owner_absent g m h n (λ u below all. elim (cases_eq u w) [
      | inl same ↦ is (sym step.self ∙ ap (λ (v : ℕ). held_levels g m v h) (sym same) ∙ all)
      | inr other ↦ other (same_owner f m h u w power (omega (arith, below, few)) (omega (arith, less, few))
          (held-owns f m h u (sym (step.others u below other) ∙ all)) (held-owns f m h w was))
    ])

pub owner_step_law : OwnerStepLaw
owner_step_law f g m h n w k power few less step = record {
  entered = λ e. owner_is g m h n w power few less (step.self ∙ e);
  left = owner_left f g m h n w k power few less step;
  kept = owner_kept f g m h n w k step;
}

pub same_tree : SameTreeLaw
same_tree f g m h n same = (
  held_all,
  owner_same f g m h n (λ w less. ap (λ (j : ℕ). eqb j h) (held_all w)),
  (λ root v some inside taken.
      let r : NodeHolder f m h n v = root v some inside (λ e. taken (same v ∙ e)) in
      record {
        worker = r.worker;
        is_worker = r.is_worker;
        holds = record {
          level = r.holds.level;
          is_level = r.holds.is_level;
          there = r.holds.there;
          own = λ i less. same (node m r.worker (suc i)) ∙ r.holds.own i less;
        };
      }),
)
  where
    held_all : (w : ℕ) → held_levels g m w h ≡ held_levels f m w h
    held_all w = held_same f g m w h (λ i less. same (node m w (suc i)))

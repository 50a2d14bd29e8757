-- A shape is determined by its workers, locks, cells and jobs: its tree follows from the workers.
use Rattle.std.proofs.Common.{◌≡◌, ℕ, suc, ◌^◌, ◌<◌, ◌≤◌, refl, sym, ap, subst, ◌∙◌, arith, inl, inr}
use Rattle.std.proofs.lemmas.Bool.{cases_lt}
use Rattle.std.proofs.Math.Nat.{pow-suc}
use Rattle.std.proofs.Math.Pow.{pow_mono}
use Rattle.rme_words.specs.declared.shape.Shape.{Shape}
use Rattle.rme_words.specs.Shapes.{IsShape, IsTree}
use denote.Struct.Props.{props}

record Numbers : Type 0 where
  workers : ℕ
  locks : ℕ
  cells : ℕ
  jobs : ℕ
  leaves : ℕ
  height : ℕ

abbrev IsOf : Numbers → Type 0
IsOf n = IsShape n.workers n.locks n.cells n.jobs n.leaves n.height

abbrev shape_of : (n : Numbers) → IsOf n → Shape
shape_of n counted = record { workers = n.workers; locks = n.locks; cells = n.cells; jobs = n.jobs; leaves = n.leaves; height = n.height; counted = counted }

IsOf-prop : (n : Numbers) → IsProp (IsOf n)
IsOf-prop n = hlevel props

same_numbers : (a b : Numbers) (p : IsOf a) (q : IsOf b) → a ≡ b → shape_of a p ≡ shape_of b q
same_numbers a b p q e = subst (λ (n : Numbers). (h : IsOf n) → shape_of a p ≡ shape_of n h) e (λ h. ap (λ (g : IsOf a). shape_of a g) (IsOf-prop a p h)) q

no_taller : (workers l h m k : ℕ) → IsTree workers l h → IsTree workers m k → h < k → ⊥
no_taller workers l h m k s t taller =
    let double : 2 ^ suc h ≤ 2 ^ k = pow_mono (omega (arith, taller)) in
    omega (arith, double, pow-suc 2 h, s.is_power, t.is_power, s.enough, t.least (omega (arith, s.some_level, taller)))

same_height : (workers l h m k : ℕ) → IsTree workers l h → IsTree workers m k → h ≡ k
same_height workers l h m k s t =
    elim (cases_lt h k) [
      | inl lt ↦ absurd (no_taller workers l h m k s t lt)
      | inr le ↦ elim (cases_lt k h) [
        | inl gt ↦ absurd (no_taller workers m k l h t s gt)
        | inr ge ↦ omega (arith, le, ge)
      ]
    ]

pub same_shape : (s t : Shape) → s.workers ≡ t.workers → s.locks ≡ t.locks → s.cells ≡ t.cells → s.jobs ≡ t.jobs → s ≡ t
same_shape s t workers locks cells jobs =
    let tree : IsTree s.workers t.leaves t.height = rw workers t.counted.tree in
    let height : s.height ≡ t.height = same_height s.workers s.leaves s.height t.leaves t.height s.counted.tree tree in
    let leaves : s.leaves ≡ t.leaves = s.counted.tree.is_power ∙ ap (λ (h : ℕ). 2 ^ h) height ∙ sym t.counted.tree.is_power in
    let a : Numbers = record { workers = s.workers; locks = s.locks; cells = s.cells; jobs = s.jobs; leaves = s.leaves; height = s.height } in
    let b : Numbers = record { workers = t.workers; locks = t.locks; cells = t.cells; jobs = t.jobs; leaves = t.leaves; height = t.height } in
    same_numbers a b s.counted t.counted (rw (workers, locks, cells, jobs, leaves, height) refl)

-- The descent from a node to the leaf of the worker that holds it.
use Rattle.std.proofs.Common.{◌≡◌, ◌≢◌, ℕ, zero, suc, ◌+◌, ◌-◌, ◌^◌, ◌<◌, ◌≤◌, ◌↔◌, refl, sym, ◌∙◌, ap, subst, inl, inr, arith, pow-suc, Option, Some, None}
use Rattle.std.proofs.Math.Pow.{pow_mono}
use Rattle.std.proofs.lemmas.Bool.{cases_eq, cases_lt, cases_order}
use Rattle.std.proofs.lemmas.Option.{same_Some, none-some}
use Rattle.rme_tree.specs.Paths.{node, side, OwnsUpTo, HoldsNode}
use Rattle.rme_tree.specs.HeldTrees.{child_node}
use Rattle.rme_tree.proofs.Levels.{comes, node-zero, node-down, side_pos, side_le, node_range}

-- A node is `depth` levels below the root, and `level` levels above the lowest nodes.
record Lies (h v : ℕ) : Type 0 where
  depth : ℕ
  level : ℕ
  height : depth + suc level ≡ h
  least : 2 ^ depth ≤ v
  less : v < 2 ^ suc depth

lies : (h v : ℕ) → 1 ≤ v → v < 2 ^ h → Lies h v
lies zero v some inside = absurd (omega (arith, inside))
lies (suc h) v some inside =
    elim (cases_lt v (2 ^ h)) [
      | inl higher ↦
          (let r : Lies h v = lies h v some higher in
          record { depth = r.depth; level = suc r.level; height = omega (arith, r.height); least = r.least; less = r.less })
      | inr lowest ↦ record { depth = h; level = 0; height = omega arith; least = lowest; less = inside }
    ]

-- A path passes a node at the node's level.
level_at : (m h u j d l v : ℕ) → m ≡ 2 ^ h → u < m → j ≤ h → d + l ≡ h → 2 ^ d ≤ v → v < 2 ^ suc d → node m u j ≡ v → j ≡ l
level_at m h u j d l v power few inside height least less meet =
    let P : ℕ → Type 0 = λ n. u < n → node n u j ≡ v → j ≡ l in
    subst P (sym power) (λ few meet.
    let at : (2 ^ (h - j) ≤ node (2 ^ h) u j) × (node (2 ^ h) u j < 2 ^ suc (h - j)) = node_range h u (h - j) j few (omega arith) in
    elim (cases_order (h - j) d) [
      | inl same ↦ omega (arith, same)
      | inr (inl higher) ↦ absurd (omega (arith, at, meet, least, pow_mono {i = suc (h - j)} {j = d} (omega (arith, higher))))
      | inr (inr lower) ↦ absurd (omega (arith, at, meet, less, pow_mono {i = suc d} {j = h - j} (omega (arith, lower))))
    ]) few meet

-- The descent from the node `place` has reached a node `depth` levels below the root, `level` levels above the leaves.
-- A path that passes this node continues to `place` and has its sides on the way, and the path of every holder of
-- `place` passes this node.
pub record Came (f : ℕ → ℕ) (m h place v : ℕ) : Type 0 where
  pub top : ℕ
  pub depth : ℕ
  pub level : ℕ
  pub in_height : top < h
  pub height : depth + level ≡ h
  pub least : 2 ^ depth ≤ v
  pub less : v < 2 ^ suc depth
  pub to_top : (u : ℕ) → u < m → node m u level ≡ v → node m u (suc top) ≡ place
  pub above : (u i : ℕ) → u < m → node m u level ≡ v → level ≤ i → i < suc top → f (node m u (suc i)) ≡ side m u (suc i)
  pub below_top : level ≤ suc top
  pub passed : (u : ℕ) → u < m → HoldsNode f m h u place → (node m u level ≡ v) × OwnsUpTo f m u (suc top)

-- It starts at the node.
pub came_start : (f : ℕ → ℕ) (m h v : ℕ) → m ≡ 2 ^ h → 1 ≤ v → v < m → Came f m h v v
came_start f m h v power some inside =
    let r : Lies h v = lies h v some (omega arith) in
    record {
      top = r.level;
      depth = r.depth;
      level = suc r.level;
      in_height = omega (arith, r.height);
      height = r.height;
      least = r.least;
      less = r.less;
      to_top = λ u few meet. meet;
      above = λ u i few meet from to. absurd (omega arith);
      below_top = omega arith;
      passed = λ u few holds.
          let e : suc holds.level ≡ suc r.level =
          level_at m h u (suc holds.level) r.depth (suc r.level) v power few (omega (arith, holds.is_level)) r.height r.least r.less holds.there in
          let P : ℕ → Type 0 = λ j. (node m u j ≡ v) × OwnsUpTo f m u j in
          subst P e (holds.there, holds.own);
    }

module _ (f : ℕ → ℕ) (m h place v : ℕ) (power : m ≡ 2 ^ h) (came : Came f m h place v) where
  -- Above the leaves there is a level below.
  level_below : v < m → (level : ℕ) × (came.level ≡ suc level)
  level_below inside = go came.level refl
    where
      go : (level : ℕ) → came.level ≡ level → (level : ℕ) × (came.level ≡ suc level)
      go zero e = absurd (omega (arith, power, inside, came.least, pow_mono {i = h} {j = came.depth} (omega (arith, came.height))))
      go (suc level) e = (level, e)

  -- At a leaf there is none.
  no_level_below : m ≤ v → came.level ≡ 0
  no_level_below outside = go came.level refl
    where
      go : (level : ℕ) → came.level ≡ level → came.level ≡ 0
      go zero e = e
      go (suc level) e = absurd (omega (arith, power, outside, came.less, pow_mono {i = suc came.depth} {j = h} (omega (arith, came.height, e))))

  module _ (inside : v < m) (level : ℕ) (at : came.level ≡ suc level) where
    -- A path that passes the child that the node's word names passes this node from its side.
    from_child : (u : ℕ) → 1 ≤ f v → f v ≤ 2 → node m u level ≡ child_node v (f v) → (node m u came.level ≡ v) × (f (node m u (suc level)) ≡ side m u (suc level))
    from_child u some few meet =
        let up : (node m u (suc level) ≡ v) × (side m u (suc level) ≡ f v) = comes m u level v (f v) (omega arith) few meet in
        (ap (node m u) at ∙ up.0, ap f up.0 ∙ sym up.1)

    above_child : (u i : ℕ) → u < m → 1 ≤ f v → f v ≤ 2 → node m u level ≡ child_node v (f v) → level ≤ i → i < suc came.top
        → f (node m u (suc i)) ≡ side m u (suc i)
    above_child u i inside_u some few meet from to =
        let up : (node m u came.level ≡ v) × (f (node m u (suc level)) ≡ side m u (suc level)) = from_child u some few meet in
        elim (cases_eq i level) [
          | inl same ↦ (let P : ℕ → Type 0 = λ j. f (node m u (suc j)) ≡ side m u (suc j) in subst P (sym same) up.1)
          | inr other ↦ came.above u i inside_u up.0 (omega arith) to
        ]

    -- A holder's path passes this node from the side of the node's word.
    holder_side : (u : ℕ) → u < m → HoldsNode f m h u place → (node m u (suc level) ≡ v) × (f v ≡ side m u (suc level))
    holder_side u inside_u holds =
        let by : (node m u came.level ≡ v) × OwnsUpTo f m u (suc came.top) = came.passed u inside_u holds in
        let here : node m u (suc level) ≡ v = sym (ap (node m u) at) ∙ by.0 in
        (here, sym (ap f here) ∙ by.1 level (omega (arith, came.below_top)))

-- One level down, to the child that the node's word names.
pub came_down : (f : ℕ → ℕ) (m h place v c : ℕ) → m ≡ 2 ^ h → Came f m h place v → v < m → 1 ≤ f v → f v ≤ 2 → c ≡ child_node v (f v) → Came f m h place c
came_down f m h place v c power came inside some few e =
    let below : (level : ℕ) × (came.level ≡ suc level) = level_below f m h place v power came inside in
    record {
      top = came.top;
      depth = suc came.depth;
      level = below.0;
      in_height = came.in_height;
      height = omega (arith, came.height, below.1);
      least = omega (arith, came.least, e, some, pow-suc 2 came.depth);
      less = omega (arith, came.less, e, some, few, pow-suc 2 (suc came.depth));
      to_top = λ u inside_u meet. came.to_top u inside_u (from_child f m h place v power came inside below.0 below.1 u some few (meet ∙ e)).0;
      above = λ u i inside_u meet from to. above_child f m h place v power came inside below.0 below.1 u i inside_u some few (meet ∙ e) from to;
      below_top = omega (arith, came.below_top, below.1);
      passed = λ u inside_u holds.
          let at : (node m u (suc below.0) ≡ v) × (f v ≡ side m u (suc below.0)) = holder_side f m h place v power came inside below.0 below.1 u inside_u holds in
          (omega (arith, e, at.0, at.1, node-down m u below.0), (came.passed u inside_u holds).1);
    }

-- A node whose word is no side ends the descent: no worker holds the node where it started.
came_none : (f : ℕ → ℕ) (m h place v : ℕ) → m ≡ 2 ^ h → Came f m h place v → v < m → f v ≢ 1 → f v ≢ 2 → (u : ℕ) → u < m → HoldsNode f m h u place → ⊥
came_none f m h place v power came inside not_left not_right u inside_u holds =
    let below : (level : ℕ) × (came.level ≡ suc level) = level_below f m h place v power came inside in
    omega (
      arith,
      not_left,
      not_right,
      (holder_side f m h place v power came inside below.0 below.1 u inside_u holds).1,
      side_pos m u (suc below.0),
      side_le m u (suc below.0),
    )

-- The worker of a leaf holds the node where the descent started.
came_leaf : (f : ℕ → ℕ) (m h place v : ℕ) → m ≡ 2 ^ h → Came f m h place v → m ≤ v → v - m < m → HoldsNode f m h (v - m) place
came_leaf f m h place v power came outside inside =
    let bottom : came.level ≡ 0 = no_level_below f m h place v power came outside in
    let here : node m (v - m) came.level ≡ v = ap (node m (v - m)) bottom ∙ (omega (arith, node-zero m (v - m))) in
    record {
      level = came.top;
      is_level = came.in_height;
      there = came.to_top (v - m) inside here;
      own = λ i to. came.above (v - m) i inside here (omega arith) to;
    }

-- No other worker holds it.
came_only : (f : ℕ → ℕ) (m h place v : ℕ) → m ≡ 2 ^ h → Came f m h place v → m ≤ v → (u : ℕ) → u < m → HoldsNode f m h u place → v - m ≡ u
came_only f m h place v power came outside u inside_u holds =
    let bottom : came.level ≡ 0 = no_level_below f m h place v power came outside in
    omega (arith, (came.passed u inside_u holds).0, ap (node m u) bottom, node-zero m u)

-- The contract of a node's holder: at a node whose word is no side,
pub shown_none : (f : ℕ → ℕ) (m h n place v : ℕ) (found : Option ℕ) → m ≡ 2 ^ h → n ≤ m → Came f m h place v → v < m → f v ≢ 1 → f v ≢ 2
    → found ≡ None → (w : ℕ) → w < n → (found ≡ Some w) ↔ HoldsNode f m h w place
shown_none f m h n place v found power few came inside not_left not_right e w less = (
  λ same. absurd (none-some w (sym e ∙ same)),
  λ holds. absurd (came_none f m h place v power came inside not_left not_right w (omega arith) holds),
)

-- at a worker's leaf,
pub shown_leaf : (f : ℕ → ℕ) (m h n place v x : ℕ) → m ≡ 2 ^ h → n ≤ m → Came f m h place v → m ≤ v → x ≡ v - m → x < n
    → (w : ℕ) → w < n → (Some x ≡ Some w) ↔ HoldsNode f m h w place
shown_leaf f m h n place v x power few came outside at is_worker w less = (
  λ same.
      let e : v - m ≡ w = sym at ∙ same_Some x w same in
      let P : ℕ → Type 0 = λ u. HoldsNode f m h u place in
      subst P e (came_leaf f m h place v power came outside (omega arith)),
  λ holds. ap (λ (u : ℕ). Some u) (at ∙ came_only f m h place v power came outside w (omega arith) holds),
)

-- and at a leaf without a worker.
pub shown_other : (f : ℕ → ℕ) (m h n place v : ℕ) (found : Option ℕ) → m ≡ 2 ^ h → n ≤ m → Came f m h place v → m ≤ v → n ≤ v - m
    → found ≡ None → (w : ℕ) → w < n → (found ≡ Some w) ↔ HoldsNode f m h w place
shown_other f m h n place v found power few came outside nobody e w less = (
  λ same. absurd (none-some w (sym e ∙ same)),
  λ holds. absurd (omega (arith, came_only f m h place v power came outside w (omega arith) holds)),
)

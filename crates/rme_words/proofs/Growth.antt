-- The tree grows level by level until it has enough leaves.
use Rattle.std.proofs.Common.{◌≡◌, ℕ, ◌+◌, ◌*◌, ◌^◌, ◌<◌, ◌≤◌, inl, inr, arith, add-one}
use Rattle.std.proofs.Math.Nat.{pow-suc}
use Rattle.std.proofs.Math.Pow.{pow_mono}
use Rattle.std.proofs.lemmas.Bool.{cases_lt}
use Rattle.rme_words.specs.Shapes.{IsTree}

pub record Growing (workers leaves height : ℕ) : Type 0 where
  pub is_power : leaves ≡ 2 ^ height
  pub some_level : 1 ≤ height
  pub few_levels : height ≤ 8
  pub least : 1 < height → leaves < 2 * workers

pub few_levels_below : (leaves height : ℕ) → leaves ≡ 2 ^ height → leaves < 256 → height + 1 ≤ 8
few_levels_below leaves height power few =
    elim (cases_lt height 8) [
      | inl below ↦ omega arith
      | inr above ↦ let big : 2 ^ 8 ≤ 2 ^ height = pow_mono above in absurd (omega (arith, big, power, few))
    ]

pub grown : (workers leaves height : ℕ) → Growing workers leaves height → leaves < workers → workers ≤ 256 → Growing workers (leaves * 2) (height + 1)
grown workers leaves height g low few = record {
  is_power = rw (add-one, pow-suc) (omega (arith, g.is_power));
  some_level = omega arith;
  few_levels = few_levels_below leaves height g.is_power (omega arith);
  least = λ _. omega arith;
}

pub tree_is : (workers leaves height : ℕ) → Growing workers leaves height → workers ≤ leaves → IsTree workers leaves height
tree_is workers leaves height g enough = record {
  is_power = g.is_power;
  some_level = g.some_level;
  few_levels = g.few_levels;
  few_leaves = let most : 2 ^ height ≤ 2 ^ 8 = pow_mono g.few_levels in omega (arith, most, g.is_power);
  enough = enough;
  least = g.least;
}

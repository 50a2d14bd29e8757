-- The contents of the slots when all keepers have ended.
use Rattle.std.specs.Prelude.{◌≡◌, ℕ, ◌+◌, ◌≤◌, [], length, vec_capacity}
use Rattle.rme_service_steps.specs.SeatViews.{ServiceId}
use Rattle.rme_supervisor.specs.declared.life_results.LifeResults.{LifeResults}
use Rattle.rme_supervisor.specs.Ends.{WorkersFollowPlans}
use Rattle.rme_supervisor.specs.Plans.{SupervisedRun}

-- There is room for `count` more.
pub record ResultsHaveRoom (count : ℕ) (settled : LifeResults) : Type 0 where
  pub downs : length settled.downs.items + count ≤ vec_capacity settled.downs
  pub ends : length settled.ends.items + count ≤ vec_capacity settled.ends
  pub lives : length settled.lives.items + count ≤ vec_capacity settled.lives

-- The contents of the slots follow the plans.
abbrev pub ResultsFollowPlans : ServiceId → SupervisedRun → LifeResults → Type 0
ResultsFollowPlans ident run settled =
    WorkersFollowPlans ident run settled.downs.items settled.ends.items settled.lives.items

pub record ResultsAreEmpty (count : ℕ) (settled : LifeResults) : Type 0 where
  pub room : ResultsHaveRoom count settled
  pub downs : settled.downs.items ≡ []
  pub ends : settled.ends.items ≡ []
  pub lives : settled.lives.items ≡ []

use Rattle.std.proofs.Common.{rules, ◌≡◌, ℕ, ◌<◌, length, slice_index_or, Some}
use Rattle.std.specs.List.{slice_get}
use Rattle.std.proofs.lemmas.Option.{slice_get_within, get_or_from_slice_get}
use Rattle.rme_service_steps.specs.SeatViews.{SeatView}
use Rattle.rme_bench.proofs.jobs.run.time_of.Goals as goal

-- src/run.rt:132:5
pub check-requires : goal.check-requires
check-requires g c = record {
  ours = λ (k : ℕ) (seat : SeatView) (got : slice_get c.in_ok-downs.downs.items k ≡ Some seat).
      let within : k < length c.in_ok-downs.downs.items = slice_get_within c.in_ok-downs.downs.items k seat got in
      let read : slice_index_or c.in_ok-downs.downs.items k seat ≡ seat = get_or_from_slice_get c.in_ok-downs.downs.items k seat seat got in
      search rules;
}

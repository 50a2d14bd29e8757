use Rattle.std.proofs.Common.{◌≡◌, List, Some, sym, subst, ◌∙◌}
use Rattle.std.specs.List.{slice_get}
use Rattle.rme_service_steps.specs.SeatViews.{SeatView}
use Rattle.rme_bench.proofs.refused.close.close_and_print.Goals as goal

pub close_again-requires : goal.close_again-requires
close_again-requires c = λ k seat at.
    let un = c.in-Err.ensures.unclosed in
    c.requires.ours k seat (subst (λ (downs : List SeatView). slice_get downs k ≡ Some seat) un.downs_back at) ∙ sym un.service

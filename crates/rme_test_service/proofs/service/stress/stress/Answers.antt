use Rattle.std.proofs.Common.{◌≡◌, subst, arith}
use Rattle.std.proofs.lemmas.Option.{get_or_from_slice_get, slice_get_within}
use Rattle.rme.specs.SeatViews.{SeatView}
use Rattle.rme_test_service.proofs.service.stress.stress.Goals as goal

pub close-requires : goal.close-requires
close-requires g c k seat there =
    let within = slice_get_within _ k seat there in
    let long = c.in_ok-downs.ensures.len in
    let its = (c.in_ok-downs.ensures.each k seat (omega (arith, within, long))).1 in
    let same = get_or_from_slice_get _ k seat seat there in
    let P : SeatView → Type 0 = λ (x : SeatView). x.ident ≡ c.in_ok-service.service in
    subst P same its.call.met

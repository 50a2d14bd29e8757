use Rattle.std.proofs.Common.{◌==◌, None, Some, refl, rules, tests}
use Rattle.std.proofs.lemmas.Iterator.{YieldsList-from_slice}
use Rattle.std.proofs.lemmas.Iterator.Search.{position_from_yields_List}
use Rattle.std.proofs.lemmas.List.{take_rest}
use Rattle.rme_http.proofs.Targets.{names_by_place}
use Rattle.rme_http.proofs.http_request.target_of.Goals as goal

pub returns-in-Some : goal.returns-in-Some
returns-in-Some c =
    let place = position_from_yields_List (λ byte. byte == 63) _ _ c.position.result c.position.ensures.ran (YieldsList-from_slice c.args.target.now cc) (λ x b q k. search (rules, tests)) in
    let query = rw take_rest at c.space_of.ensures in
    names_by_place c.args.target.now _ c.position.result (Some c.in-Some.at) place c.in-Some.is (c.resource_of.ensures, query)

pub returns-in-None : goal.returns-in-None
returns-in-None c =
    let place = position_from_yields_List (λ byte. byte == 63) _ _ c.position.result c.position.ensures.ran (YieldsList-from_slice c.args.target.now cc) (λ x b q k. search (rules, tests)) in
    names_by_place c.args.target.now _ c.position.result None place c.in-None.is (c.resource_of-in-None.ensures, refl)

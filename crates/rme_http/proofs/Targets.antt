-- What a target names, from the place of its first question mark.
use Rattle.std.proofs.Common.{◌≡◌, ℕ, ◌==◌, List, Option, position, subst, sym, ◌∙◌}
use Rattle.rme_http.specs.Targets.{IsTarget, NamesTarget}
use Rattle.rme_http.specs.declared.http_request.HttpTarget.{HttpTarget}

pub names_by_place : (target : List ℕ) (named : HttpTarget) (answered place : Option ℕ)
    → answered ≡ position (λ byte. byte == 63) target → answered ≡ place → NamesTarget target place named → IsTarget target named
names_by_place target named answered place is_position is_place names =
    subst (λ (at : Option ℕ). NamesTarget target at named) (sym is_place ∙ is_position) names

-- A worker that is not up is down.
use Rattle.std.proofs.Common.{◌≡◌, ℕ, ◌<◌, List, length, Option, Some, None, true, false, is_some, ap, refl, subst, sym, ◌∙◌, slice_get, get_or, arith}
use Rattle.std.proofs.lemmas.Option.{slice_get-get_or}
use Rattle.rme_program.specs.declared.private.Private.{Private}
use Rattle.rme_world.specs.WorldViews.{WorldView, private_if_up, world_privates}
use Rattle.rme_session_world.specs.Downs.{IsWorkerDown}

nobody_up : (private : Option Private) → is_some private ≡ false → private ≡ None
nobody_up None none = refl
nobody_up (Some private) some = let no : true ≡ false = some in cc

pub down_if_not_up : (seen : WorldView) (worker : ℕ) → length seen.privates ≡ seen.shape.workers → worker < seen.shape.workers → is_some (world_privates seen worker) ≡ false → IsWorkerDown seen worker
down_if_not_up seen worker all within none =
    let inside : worker < length seen.privates = omega (arith, all, within) in
    let at = slice_get-get_or seen.privates worker None inside in
    at ∙ ap (λ (p : Option Private). Some p) (nobody_up (get_or seen.privates worker None) (subst (λ (o : Option (Option Private)). is_some (private_if_up o) ≡ false) at none))

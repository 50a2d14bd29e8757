-- The crash lines of the workers that are up, in order.
use Rattle.std.proofs.Common.{◌≡◌, ℕ, suc, ◌+◌, ◌<◌, ◌≤◌, List, ◌∷◌, ◌++◌, refl, sym, ◌∙◌, ap, subst, arith}
use Rattle.std.specs.Prelude.{Option, Some, None, is_some, drop, length, slice_get}
use Rattle.std.proofs.lemmas.Option.{none-some, slice_get-get_or}
use Rattle.rme_world.specs.WorldViews.{private_if_up}
use Rattle.std.proofs.Math.ListN.{drop_of_length-le}
use Rattle.rme_script.proofs.Lists.{drop_at}
use Rattle.rme_program.specs.declared.private.Private.{Private}
use Rattle.rme_wire.specs.declared.command.Command.{Command}
use Rattle.rme_durable_format.specs.BatchCommands.{crash_commands, crash_commands_from}
use Rattle.rme_durable_format.specs.CommandLines.{AppendsCommands}
use Rattle.rme_durable_format.proofs.Growing.{writes_then}

-- What the lines of the workers from this one on append to the text now is what the lines of all append to the first
-- text.
pub record FallsOn (names : List (List ℕ)) (first : List ℕ) (privates : List (Option Private)) (worker : ℕ) (now : List ℕ) : Type 0 where
  pub on : (after : List ℕ) → AppendsCommands names now (crash_commands_from worker (drop worker privates)) after → AppendsCommands names first (crash_commands_from 0 privates) after

one_fall : (worker : ℕ) (private : Option Private) (rest : List (Option Private)) → crash_commands_from worker (private ∷ rest) ≡ crash_commands worker (is_some private) ++ crash_commands_from (suc worker) rest
one_fall worker None rest = refl
one_fall worker (Some private) rest = refl

fall_at : (privates : List (Option Private)) (worker : ℕ) (private : Option Private) → slice_get privates worker ≡ Some private → crash_commands_from worker (drop worker privates) ≡ crash_commands worker (is_some private) ++ crash_commands_from (worker + 1) (drop (worker + 1) privates)
fall_at privates worker private found =
    let next : suc worker ≡ worker + 1 = omega arith in
    ap (crash_commands_from worker) (drop_at privates worker private found) ∙ one_fall worker private (drop (worker + 1) privates)
    ∙ ap (λ (w : ℕ). crash_commands worker (is_some private) ++ crash_commands_from w (drop (worker + 1) privates)) next

-- One worker's line, if the worker is up.
pub falls_on : (names : List (List ℕ)) (first now next : List ℕ) (privates : List (Option Private)) (worker : ℕ) (private : Option Private) → slice_get privates worker ≡ Some private → FallsOn names first privates worker now
    → AppendsCommands names now (crash_commands worker (is_some private)) next → FallsOn names first privates (worker + 1) next
falls_on names first now next privates worker private found falls wrote = record {
  on = λ after rest. falls.on after
      (subst (λ (cs : List Command). AppendsCommands names now cs after) (sym (fall_at privates worker private found))
      (writes_then names (crash_commands worker (is_some private)) (crash_commands_from (worker + 1) (drop (worker + 1) privates)) now next after wrote rest));
}

-- A worker has a private state only while it is up.
pub known_fall : (privates : List (Option Private)) (worker : ℕ) (known : Option Private) (place : Option (Option Private)) → slice_get privates worker ≡ place → worker < length privates → known ≡ private_if_up place
    → (private : Option Private) × (slice_get privates worker ≡ Some private) × (is_some known ≡ is_some private)
known_fall privates worker known None at within is = absurd (none-some _ (sym at ∙ slice_get-get_or privates worker None within))
known_fall privates worker known (Some private) at within is = (private, at, ap (λ (k : Option Private). is_some k) is)

-- No worker is left.
pub falls_end : (names : List (List ℕ)) (first now : List ℕ) (privates : List (Option Private)) (worker : ℕ) → length privates ≤ worker → FallsOn names first privates worker now → AppendsCommands names first (crash_commands_from 0 privates) now
falls_end names first now privates worker past falls =
    falls.on now (subst (λ (ps : List (Option Private)). AppendsCommands names now (crash_commands_from worker ps) now) (sym (drop_of_length-le privates past)) refl)

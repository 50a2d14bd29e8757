use Rattle.std.proofs.Common.{◌≡◌, List, length, refl, ap, subst, ◌∙◌}
use Rattle.std.specs.Prelude.{Option, Some, slice_get}
use Rattle.std.proofs.lemmas.Option.{slice_get_read}
use Rattle.rme_program.specs.declared.private.Private.{Private}
use Rattle.rme_world.specs.WorldViews.{WorldView}
use Rattle.rme_world.specs.WorldInvariants.{WorldInvariant}
use Rattle.rme_world.proofs.Looking.{ready_is, ready_holds}
use Rattle.rme_world.proofs.Worlds.{is_worker}
use Rattle.rme_world.proofs.world.World.ready.Goals as goal

pub returns-in-Some-Some : goal.returns-in-Some-Some
returns-in-Some-Some c =
    let its = c.in-Some-Some in
    let kept = subst WorldInvariant c.self.view_is c.self.invariant in
    let read : slice_get c.deref.result.now c.args.worker ≡ Some its.field-0.now =
    slice_get_read c.deref.result.now (length c.deref.result.now) c.args.worker its.field-0.now refl its.ensures.lookup.3.0 its.ensures.lookup.1 in
    let P : List (Option Private) → Type 0 = λ privates. slice_get privates c.args.worker ≡ Some (Some its.private) in
    let found = subst P (c.deref.ensures.value ∙ ap (λ (seen : WorldView). seen.privates) c.self.view_is) (read ∙ ap Some its.field-0-is) in
    record {
      accepted = ((λ _. is_worker c.args.self.now c.args.worker _ kept.all_privates found), (λ _. refl));
      ready = ready_is c.args.self.now c.args.worker its.private c.is_resting.result found c.is_resting.ensures;
      holds_none = λ is_so. ready_holds c.args.self.now c.args.worker kept (its.private, found, c.is_resting.ensures.0 is_so);
      refused = tt;
    }

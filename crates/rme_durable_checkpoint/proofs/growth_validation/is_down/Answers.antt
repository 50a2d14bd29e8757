use Rattle.std.proofs.Common.{Option, ap, not, sym, ◌∙◌, is_some}
use Rattle.rme_program.specs.declared.private.Private.{Private}
use Rattle.rme_world.specs.WorldInvariants.{WorldInvariant}
use Rattle.rme_durable_checkpoint.proofs.NotUp.{down_if_not_up}
use Rattle.rme_durable_checkpoint.proofs.growth_validation.is_down.Goals as goal

pub returns : goal.returns
returns c = λ told.
    down_if_not_up c.args.world.now c.args.worker c.known.ensures.kept.all_privates c.requires (ap (λ (o : Option Private). is_some o) (sym c.known.ensures.known) ∙ (c.is_none.ensures ∙ ap not told))

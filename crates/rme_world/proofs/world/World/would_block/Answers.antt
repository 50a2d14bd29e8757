use Rattle.std.proofs.Common.{◌≡◌, sym, ◌∙◌, ap, subst}
use Rattle.std.specs.Prelude.{false, true}
use Rattle.std.proofs.lemmas.Bool.{eq-eqb, eqb-true, not-false}
use Rattle.rme_words.specs.declared.shape.Shape.{Shape}
use Rattle.rme_program.specs.Steps.{private_action}
use Rattle.rme_world.specs.WorldViews.{WorldView, world_memory}
use Rattle.rme_world.proofs.Stopping.{stops, goes}
use Rattle.rme_world.proofs.world.World.would_block.Goals as goal

pub returns-in-Swap-clause-stopped : goal.returns-in-Swap-clause-stopped
returns-in-Swap-clause-stopped c yes_ =
    stops c.args.self.now c.args.worker c.in-Some.private c.in-Climbing.field-0 c.known.ensures.kept (sym c.known.ensures.known ∙ c.in-Some.is) c.in-Climbing.is
    c.in-Swap.address c.in-Swap.free c.in-Swap.field-2 c.load.result
    (ap (λ (s : Shape). private_action s c.in-Some.private) (sym c.shape.ensures) ∙ sym c.next.ensures.action ∙ c.in-Swap.is)
    (subst (λ (s : WorldView). c.load.result ≡ world_memory s c.in-Swap.address) c.self.view_is c.load.ensures)
    (λ e. let no_ : false ≡ true = rw (eq-eqb _ _ e) at yes_ in cc)

pub returns-in-Swap-clause-free : goal.returns-in-Swap-clause-free
returns-in-Swap-clause-free c no_ =
    goes c.args.self.now c.args.worker c.in-Some.private c.in-Climbing.field-0 c.known.ensures.kept (sym c.known.ensures.known ∙ c.in-Some.is) c.in-Climbing.is
    c.in-Swap.address c.in-Swap.free c.in-Swap.field-2 c.load.result
    (ap (λ (s : Shape). private_action s c.in-Some.private) (sym c.shape.ensures) ∙ sym c.next.ensures.action ∙ c.in-Swap.is)
    (subst (λ (s : WorldView). c.load.result ≡ world_memory s c.in-Swap.address) c.self.view_is c.load.ensures)
    (eqb-true _ _ (not-false _ no_))

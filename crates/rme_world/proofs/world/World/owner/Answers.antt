use Rattle.std.proofs.Common.{refl, ◌∙◌, ap}
use Rattle.rme_tree.specs.Nodes.{owner_in}
use Rattle.rme_world.specs.WorldViews.{WorldView, world_memory}
use Rattle.rme_world.proofs.Looking.{owner_shown}
use Rattle.rme_world.proofs.world.World.owner.Goals as goal

pub returns : goal.returns
returns c =
    let by_words = c.owner.ensures.owner ∙ ap (λ (s : WorldView). owner_in s.shape (world_memory s) c.args.lock) c.self.view_is in
    let below = rw c.shape.ensures at c.if-lock-shape.false in
    record { accepted = ((λ _. below), (λ _. refl)); owner = by_words; shown = by_words ∙ owner_shown c.args.self.now c.args.lock below; refused = tt }

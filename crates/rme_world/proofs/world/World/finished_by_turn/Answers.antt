use Rattle.std.proofs.Common.{◌≡◌, sym, ◌∙◌, subst, arith}
use Rattle.std.specs.Prelude.{true, false}
use Rattle.rme_words.specs.declared.address.Address.TheVariants.{Turn}
use Rattle.rme_world.specs.WorldViews.{WorldView, world_memory}
use Rattle.rme_world.specs.WorldInvariants.{WorldInvariant}
use Rattle.rme_world.proofs.Looking.{finished_is, finished_small}
use Rattle.rme_world.proofs.world.World.finished_by_turn.Goals as goal

pub small-requires : goal.small-requires
small-requires c =
    let kept = subst WorldInvariant c.self.view_is c.self.invariant in
    let turn = subst (λ (s : WorldView). c.load-turn.result ≡ world_memory s (Turn c.args.lock)) c.self.view_is c.load-turn.ensures in
    let count = finished_is c.args.self.now c.args.lock kept c.requires true (sym c.if-settled.true ∙ c.settled.ensures) in
    let small = finished_small c.args.self.now c.args.lock kept c.requires in
    omega (arith, turn, count, small)

pub returns-then-settled : goal.returns-then-settled
returns-then-settled c =
    let kept = subst WorldInvariant c.self.view_is c.self.invariant in
    let turn = subst (λ (s : WorldView). c.load-turn.result ≡ world_memory s (Turn c.args.lock)) c.self.view_is c.load-turn.ensures in
    let count = finished_is c.args.self.now c.args.lock kept c.requires true (sym c.if-settled.true ∙ c.settled.ensures) in
    omega (arith, turn, count, c.small.ensures)

pub small-requires-2 : goal.small-requires-2
small-requires-2 c =
    let kept = subst WorldInvariant c.self.view_is c.self.invariant in
    let turn = subst (λ (s : WorldView). c.load-turn.result ≡ world_memory s (Turn c.args.lock)) c.self.view_is c.load-turn.ensures in
    let count = finished_is c.args.self.now c.args.lock kept c.requires false (sym c.if-settled.false ∙ c.settled.ensures) in
    let small = finished_small c.args.self.now c.args.lock kept c.requires in
    omega (arith, turn, count, small)

pub returns : goal.returns
returns c =
    let kept = subst WorldInvariant c.self.view_is c.self.invariant in
    let turn = subst (λ (s : WorldView). c.load-turn.result ≡ world_memory s (Turn c.args.lock)) c.self.view_is c.load-turn.ensures in
    let count = finished_is c.args.self.now c.args.lock kept c.requires false (sym c.if-settled.false ∙ c.settled.ensures) in
    omega (arith, turn, count, c.small-2.ensures)

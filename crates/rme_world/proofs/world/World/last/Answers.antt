use Rattle.std.proofs.Common.{refl, sym, ◌∙◌, arith}
use Rattle.rme_world.proofs.Looking.{receipt_small, last_receipt}
use Rattle.rme_world.proofs.world.World.last.Goals as goal

pub small-requires : goal.small-requires
small-requires c =
    let small = receipt_small _ c.args.worker c.self.invariant (rw (c.shape.ensures, ← c.self.view_is) at c.if-worker-shape.false)
    record { done = sym c.load-done.ensures ∙ c.if-done-load.false ∙ c.load.ensures; some = λ e. c.if-done-eq0.false (c.if-done-load.false ∙ c.load.ensures ∙ e); kept = λ e. c.if-place.false (c.load-place.ensures ∙ e) } in
    omega (arith, c.load-2.ensures, small.0)

pub small-requires-3 : goal.small-requires-3
small-requires-3 c =
    let small = receipt_small _ c.args.worker c.self.invariant (rw (c.shape.ensures, ← c.self.view_is) at c.if-worker-shape.false)
    record { done = sym c.load-done.ensures ∙ c.if-done-load.false ∙ c.load.ensures; some = λ e. c.if-done-eq0.false (c.if-done-load.false ∙ c.load.ensures ∙ e); kept = λ e. c.if-place.false (c.load-place.ensures ∙ e) } in
    omega (arith, c.load-place.ensures, small.2)

pub returns : goal.returns
returns c = record {
  accepted = ((λ _. rw c.shape.ensures at c.if-worker-shape.false), (λ _. refl));
  some = ((λ _. rw (← c.self.view_is) record { done = sym c.load-done.ensures ∙ c.if-done-load.false ∙ c.load.ensures; some = λ e. c.if-done-eq0.false (c.if-done-load.false ∙ c.load.ensures ∙ e); kept = λ e. c.if-place.false (c.load-place.ensures ∙ e) }), (λ _. refl));
  receipt = rw (← c.self.view_is)
      (last_receipt _ c.args.worker c.self.invariant (rw (c.shape.ensures, ← c.self.view_is) at c.if-worker-shape.false)
      record { done = sym c.load-done.ensures ∙ c.if-done-load.false ∙ c.load.ensures; some = λ e. c.if-done-eq0.false (c.if-done-load.false ∙ c.load.ensures ∙ e); kept = λ e. c.if-place.false (c.load-place.ensures ∙ e) }
      _ refl (c.small.ensures ∙ c.load-2.ensures) (c.small-2.ensures ∙ c.load-done.ensures) (c.small-3.ensures ∙ c.load-place.ensures) c.load-3.ensures);
  refused = tt;
}

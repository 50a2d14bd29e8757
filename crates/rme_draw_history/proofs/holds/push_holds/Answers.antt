use Rattle.std.proofs.Common.{◌≡◌, ◌+◌, ◌-◌, ◌<◌, ◌++◌, Option, ap, sym, ◌∙◌, arith}
use Rattle.rme_words.specs.declared.shape.Shape.{Shape}
use Rattle.rme_draw_picture.specs.declared.drawing.Hold.{Hold}
use Rattle.rme_draw_history.specs.Holds.{hold_at, ended_hold, holds_from}
use Rattle.rme_draw_history.proofs.Adding.{added, holds_next}
use Rattle.rme_draw_history.proofs.holds.push_holds.Goals as goal

pub loop-lock-preserved : goal.loop-lock-preserved
loop-lock-preserved c =
    let machine = c.args.machine.now in
    let old = c.args.holding.now in
    let lock = c.loop-lock.lock in
    let locks = machine.shape.locks in
    let out = c.loop-lock.holds.items in
    let end : c.locks-lock-end.result ≡ locks = c.locks-lock-end.ensures ∙ ap (λ (s : Shape). s.locks) c.shape-shape.ensures in
    let within : lock < locks = omega (arith, c.loop-lock-test.true, end) in
    let part = ended_hold machine c.args.line lock (hold_at old lock) in
    let rest = holds_from machine c.args.line old (lock + 1) (locks - (lock + 1)) in
    let pushed = c.in_ok-push_ended.ensures ∙ ap (λ (h : Option Hold). out ++ ended_hold machine c.args.line lock h) c.hold_at.ensures in
    let so_far = ap (λ l. out ++ l) (sym (holds_next machine c.args.line old lock locks within)) ∙ c.loop-lock.invariant in
    added c.args.holds.now.items out c.push_ended.new.holds.items part rest (holds_from machine c.args.line old 0 locks) pushed so_far

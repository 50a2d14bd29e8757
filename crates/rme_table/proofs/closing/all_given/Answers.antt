use Rattle.std.proofs.Common.{sym, ◌∙◌, arith}
use Rattle.rme_table.specs.Downs.{has_down}
use Rattle.rme_table.proofs.Entries.{all_pass, one_fails}
use Rattle.rme_table.proofs.closing.all_given.Goals as goal

pub returns-then-not-has_down : goal.returns-then-not-has_down
returns-then-not-has_down c = sym (one_fails (has_down c.args.downs.now) c.args.shape.workers c.loop-worker.worker c.loop-worker-test.true (sym c.has_down.ensures ∙ c.if-not-has_down.true))

pub returns : goal.returns
returns c = sym (all_pass (has_down c.args.downs.now) 0 c.args.shape.workers (λ w less. c.loop-worker.invariant w (omega (arith, less, c.loop-worker-test.false))))

use Rattle.std.proofs.Common.{arith}
use Rattle.rme_keys.proofs.WorkerTexts.{no_range}
use Rattle.rme_keys.proofs.workers.range_between.Goals as goal

pub returns-in_default : goal.returns-in_default
returns-in_default c = λ range ends. c.in_default.ensures range.first ends.0

pub returns-in_default-worker_of_text : goal.returns-in_default-worker_of_text
returns-in_default-worker_of_text c = λ range ends. c.in_default-worker_of_text.ensures range.last ends.1

pub returns-then-high-low : goal.returns-then-high-low
returns-then-high-low c = no_range c.args.first.now c.args.last.now c.in-Some.low c.in-Some-worker_of_text.high c.in-Some.ensures c.in-Some-worker_of_text.ensures (omega arith)

pub returns : goal.returns
returns c = (c.in-Some.ensures, c.in-Some-worker_of_text.ensures, omega arith)

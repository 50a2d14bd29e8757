use Rattle.std.proofs.Common.{arith}
use Rattle.rme_keys.proofs.FileLines.{all_lines, one_line, why_refused}
use Rattle.rme_keys.proofs.keys.keys_of_lines.Goals as goal

pub loop-index-init : goal.loop-index-init
loop-index-init c = c.new-keys.ensures.items

pub returns-in-Err-clause-err : goal.returns-in-Err-clause-err
returns-in-Err-clause-err c =
    let why = why_refused c.args.lines.now c.loop-index.index c.loop-index.keys.items c.in-Err.error (omega arith) c.loop-index.invariant c.in-Err.ensures.err in
    rw c.at_line.ensures why

pub loop-index-preserved : goal.loop-index-preserved
loop-index-preserved c = one_line c.args.lines.now c.loop-index.index c.loop-index.keys.items c.add_line.new.keys.items (omega arith) c.loop-index.invariant c.in-Ok.ensures.ok

pub returns-clause-ok : goal.returns-clause-ok
returns-clause-ok c = all_lines c.args.lines.now c.loop-index.index c.loop-index.keys.items (omega arith) c.loop-index.invariant

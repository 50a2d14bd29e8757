use Rattle.std.proofs.Common.{sym, []}
use Rattle.rme_process_file.specs.ProcessFiles.{with_name_fields}
use Rattle.rme_process_file.proofs.Reading.{names_more, names_end}
use Rattle.rme_process_file.proofs.page.names_of.Goals as goal

pub returns-then-not-branch : goal.returns-then-not-branch
returns-then-not-branch c =
    sym (names_end c.args.bytes.now c.args.locks c.loop-lock.lock c.loop-lock.names (with_name_fields c.args.bytes.now c.args.locks 0 []) c.loop-lock-test.true
    (sym (rw c.if-not-branch.true at c.in_ok-add_name.ensures)) c.loop-lock.invariant)

pub loop-lock-preserved : goal.loop-lock-preserved
loop-lock-preserved c =
    names_more c.args.bytes.now c.args.locks c.loop-lock.lock c.loop-lock.names (with_name_fields c.args.bytes.now c.args.locks 0 []) c.add_name.new.names c.loop-lock-test.true
    (sym (rw c.if-not-branch.false at c.in_ok-add_name.ensures)) c.loop-lock.invariant

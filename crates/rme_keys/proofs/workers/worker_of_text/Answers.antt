use Rattle.std.proofs.Common.{◌+◌, ◌-◌, ◌*◌, length, get_or, refl, sym, eqb-true, arith}
use Rattle.rme_keys.proofs.WorkerTexts.{no_number, number_all, number_great, number_more, number_none, number_stuck, some_bytes}
use Rattle.rme_keys.proofs.workers.worker_of_text.Goals as goal

pub returns-then-is_empty : goal.returns-then-is_empty
returns-then-is_empty c = no_number c.args.text.now (eqb-true (length c.args.text.now) 0 (sym c.if-is_empty.ensures))

pub loop-byte-init : goal.loop-byte-init
loop-byte-init c = number_none c.args.text.now

pub returns-then-not-is_ascii_digit : goal.returns-then-not-is_ascii_digit
returns-then-not-is_ascii_digit c = number_stuck c.args.text.now c.loop-byte.byte-index (omega arith) c.if-not-is_ascii_digit.ensures.cases

pub returns-then-worker-gt-LAST_WORKER : goal.returns-then-worker-gt-LAST_WORKER
returns-then-worker-gt-LAST_WORKER c =
    let text = c.args.text.now in
    let i = c.loop-byte.byte-index in
    number_great text i c.loop-byte.worker (10 * c.loop-byte.worker + (get_or text i 0 - 48)) (omega arith) c.loop-byte.invariant refl (omega arith)

pub loop-byte-preserved : goal.loop-byte-preserved
loop-byte-preserved c =
    let text = c.args.text.now in
    let i = c.loop-byte.byte-index in
    number_more text i c.loop-byte.worker (10 * c.loop-byte.worker + (get_or text i 0 - 48)) (omega arith) c.loop-byte.invariant c.if-not-is_ascii_digit.ensures.cases refl (omega arith)

pub returns : goal.returns
returns c = number_all c.args.text.now c.loop-byte.byte-index c.loop-byte.worker (some_bytes c.args.text.now c.if-is_empty.ensures) (omega arith) c.loop-byte.invariant

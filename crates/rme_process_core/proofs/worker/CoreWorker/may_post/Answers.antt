use Rattle.std.proofs.Common.{refl}
use Rattle.rme_script.specs.Slates.{script_from_words}
use Rattle.rme_process_core.proofs.Handing.{script_known, no_number, has_number}
use Rattle.rme_process_core.proofs.worker.CoreWorker.may_post.Goals as goal

pub returns-then-is_over-clause-may : goal.returns-then-is_over-clause-may
returns-then-is_over-clause-may c =
    let old = c.args.self.now in let same = c.if-is_slate.ensures refl in
    no_number old c.args.lock (script_from_words c.args.operations c.args.words.now) c.in-Resting.is c.if-lock-self.false (script_known old.shape old.guess c.args.operations c.args.words.now c.requires.guess same.0 same.1) c.if-is_over.true

pub returns-else-is_over-clause-may : goal.returns-else-is_over-clause-may
returns-else-is_over-clause-may c =
    let old = c.args.self.now in let same = c.if-is_slate.ensures refl in
    has_number old c.args.lock (script_from_words c.args.operations c.args.words.now) c.in-Resting.is c.if-lock-self.false (script_known old.shape old.guess c.args.operations c.args.words.now c.requires.guess same.0 same.1) c.if-is_over.false

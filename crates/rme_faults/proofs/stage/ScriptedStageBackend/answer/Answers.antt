use Rattle.std.proofs.Common.{◌≡◌, ℕ, List, [], sym, ap, subst}
use Rattle.rme_line_io.specs.BufferedWrites.{BufferedWrite}
use Rattle.rme_line_io.specs.declared.exchange.Exchange.{Exchange}
use Rattle.rme_line_io.proofs.PutLemmas.{gathers_none}
use Rattle.rme_faults.proofs.stage.ScriptedStageBackend.answer.Goals as goal

pub returns-clause-gathers : goal.returns-clause-gathers
returns-clause-gathers g c =
    let held = g.O.Sink.contents c.args._writer.now in
    let kept = c.args.buffers.now.exchange.pending in
    let same : c.replace-own.result.pending ≡ kept = ap (λ (exchange : Exchange). exchange.pending) c.replace-own.ensures.value in
    subst (λ (keeps : List ℕ). BufferedWrite held kept [] held keeps) (sym same) (gathers_none held kept)

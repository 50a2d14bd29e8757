use Rattle.std.proofs.Common.{◌≡◌, Ok, Err, subst}
use Rattle.std.specs.Prelude.{IfOk, Result}
use Rattle.rme_line_io.specs.declared.fault.EngineFault.{EngineFault}
use Rattle.rme_line_io.specs.declared.fault.EngineFault.TheVariants.{NoMemory, WriteFailed}
use Rattle.rme_line_io.specs.StreamCalls.{CallReads, CallWrites}
use Rattle.rme_line_io.specs.LineRuns.{AnswersArePrompt, stream_moment}
use Rattle.rme_line_io.proofs.CallLemmas.{no_reads, no_writes, reads_as, writes_as, writes_given_up}
use Rattle.rme_line_io.proofs.RunLemmas.{failed_first}
use Rattle.rme_session_loop.specs.SessionRuns.{AnswersWhileOpen, SessionWrites}
use Rattle.rme_session_loop.specs.declared.session_loop.SessionEnd.{SessionEnd}
use Rattle.rme_session_loop.specs.declared.session_loop.SessionEnd.TheVariants.{Finished}
use Rattle.rme_session_loop.proofs.session_loop.answer_lines.Goals as goal

pub returns-in_default-clause-reads : goal.returns-in_default-clause-reads
returns-in_default-clause-reads g c = no_reads g.I.Source.gave g.I.Source.moments c.args.lines.now _

pub returns-in_default-clause-writes : goal.returns-in_default-clause-writes
returns-in_default-clause-writes g c = no_writes (g.O.Sink.took c.args.writer.now) (Err NoMemory) (λ e. let s : NoMemory ≡ WriteFailed = e in cc)

pub returns-in_default-clause-err : goal.returns-in_default-clause-err
returns-in_default-clause-err g c =
    failed_first (AnswersWhileOpen (g.B.Backend.finished c.args.context.now.backend.now) (g.B.Backend.answers c.args.context.now.backend.now (g.C.Client.gone c.args.context.now.client.now))) c.args.first
    (stream_moment g.I.Source.remaining c.args.lines.now (g.O.Sink.contents c.args.writer.now))

pub returns-in-Ok-ended-clause-ok : goal.returns-in-Ok-ended-clause-ok
returns-in-Ok-ended-clause-ok g c =
    let has = AnswersWhileOpen (g.B.Backend.finished c.args.context.now.backend.now) (g.B.Backend.answers c.args.context.now.backend.now (g.C.Client.gone c.args.context.now.client.now)) in
    let start = stream_moment g.I.Source.remaining c.args.lines.now (g.O.Sink.contents c.args.writer.now) in
    let end = stream_moment g.I.Source.remaining c.answer_all_lines-stand.new.lines (g.O.Sink.contents c.answer_all_lines-stand.new.writer) in
    let last = c.answer_all_lines-stand.result.0 in
    let W : Result SessionEnd EngineFault → Type 0 = λ r. IfOk r (λ how. SessionWrites how has c.args.first start end last) in
    subst W c.in-Ok-ended.is c.answer_all_lines-stand.ensures.ok

pub returns-in-Ok-ended-clause-finished : goal.returns-in-Ok-ended-clause-finished
returns-in-Ok-ended-clause-finished g c =
    let last = c.answer_all_lines-stand.result.0 in
    let F : Result SessionEnd EngineFault → Type 0 = λ r. IfOk r (λ how. how ≡ Finished → g.B.Backend.finished c.args.context.now.backend.now last) in
    subst F c.in-Ok-ended.is c.answer_all_lines-stand.ensures.finished

pub returns-in-Ok-ended-clause-reads : goal.returns-in-Ok-ended-clause-reads
returns-in-Ok-ended-clause-reads g c = reads_as g.I.Source.gave g.I.Source.moments c.args.lines.now c.answer_all_lines-stand.new.lines _ c.answer_all_lines-stand.result.1 (Ok c.in-Ok-ended.how) tt c.answer_all_lines-stand.ensures.reads

pub returns-in-Ok-ended-clause-writes : goal.returns-in-Ok-ended-clause-writes
returns-in-Ok-ended-clause-writes g c =
    let took = g.O.Sink.took in
    writes_as (took c.args.writer.now) (took c.answer_all_lines-stand.new.writer) c.answer_all_lines-stand.result.1 (Ok c.in-Ok-ended.how) tt c.answer_all_lines-stand.ensures.writes

pub returns-clause-reads : goal.returns-clause-reads
returns-clause-reads g c =
    let gave = g.I.Source.gave in
    let moments = g.I.Source.moments in
    let start = stream_moment g.I.Source.remaining c.args.lines.now (g.O.Sink.contents c.args.writer.now) in
    let Is = AnswersArePrompt (AnswersWhileOpen (g.B.Backend.finished c.args.context.now.backend.now) (g.B.Backend.answers c.args.context.now.backend.now (g.C.Client.gone c.args.context.now.client.now))) c.args.first start in
    let P : Result SessionEnd EngineFault → Type 0 = λ r. CallReads gave moments c.args.lines.now c.answer_all_lines-stand.new.lines Is r in
    reads_as gave moments c.args.lines.now c.answer_all_lines-stand.new.lines Is (Err c.in-Err.fault) (Err c.give_up-fault.result) c.give_up-fault.ensures.read
    (subst P c.in-Err.is c.answer_all_lines-stand.ensures.reads)

pub returns-clause-writes : goal.returns-clause-writes
returns-clause-writes g c =
    let took = g.O.Sink.took in
    let P : Result SessionEnd EngineFault → Type 0 = λ r. CallWrites (took c.args.writer.now) (took c.answer_all_lines-stand.new.writer) r in
    writes_given_up took c.args.writer.now c.answer_all_lines-stand.new.writer c.give_up-fault.new.writer c.in-Err.fault c.give_up-fault.result (subst P c.in-Err.is c.answer_all_lines-stand.ensures.writes)
    c.give_up-fault.ensures.writes c.give_up-fault.ensures.kept c.give_up-fault.ensures.broke

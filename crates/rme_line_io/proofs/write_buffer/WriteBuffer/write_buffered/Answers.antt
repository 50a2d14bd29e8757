use Rattle.std.proofs.Common.{refl, ◌∙◌}
use Rattle.rme_line_io.proofs.PutLemmas.{front_after, front_before, gathers_all}
use Rattle.rme_line_io.proofs.TrafficLemmas.{fails_after, writes_more}
use Rattle.rme_line_io.proofs.write_buffer.WriteBuffer.write_buffered.Goals as goal

pub returns-in-Err-clause-front : goal.returns-in-Err-clause-front
returns-in-Err-clause-front g c =
    let held = g.W.Sink.contents in
    front_before (held c.args.writer.now) (held c.flush_to.new.writer) c.args.self.now c.args.bytes.now (rw (c.if-try_push.ensures.unchanged refl) at c.in-Err.ensures.front)

pub returns-in-Ok-put_all-clause-gathers : goal.returns-in-Ok-put_all-clause-gathers
returns-in-Ok-put_all-clause-gathers g c =
    let held = g.W.Sink.contents in
    gathers_all (held c.args.writer.now) (held c.flush_to.new.writer) (held c.put_all.new.writer) c.args.self.now c.args.bytes.now c.try_push-2.new.self
    (rw (c.if-try_push.ensures.unchanged refl) at c.in-Ok.ensures.whole) c.in-Ok-put_all.ensures.whole (c.if-try_push-2.ensures.unchanged refl ∙ c.in-Ok.ensures.none_kept)

pub returns-in-Err-put_all-clause-front : goal.returns-in-Err-put_all-clause-front
returns-in-Err-put_all-clause-front g c =
    let held = g.W.Sink.contents in
    front_after (held c.args.writer.now) (held c.flush_to.new.writer) (held c.put_all.new.writer) c.args.self.now c.args.bytes.now _
    (rw (c.if-try_push.ensures.unchanged refl) at c.in-Ok.ensures.whole) c.in-Err-put_all.ensures.front refl

pub returns-in-Ok-put_all-clause-writes : goal.returns-in-Ok-put_all-clause-writes
returns-in-Ok-put_all-clause-writes g c =
    let took = g.W.Sink.took in writes_more (took c.args.writer.now) (took c.flush_to.new.writer) (took c.put_all.new.writer) c.in-Ok.ensures.writes c.in-Ok-put_all.ensures.writes

pub returns-in-Err-put_all-clause-writes : goal.returns-in-Err-put_all-clause-writes
returns-in-Err-put_all-clause-writes g c =
    let took = g.W.Sink.took in writes_more (took c.args.writer.now) (took c.flush_to.new.writer) (took c.put_all.new.writer) c.in-Ok.ensures.writes c.in-Err-put_all.ensures.writes

pub returns-in-Err-put_all-clause-broke : goal.returns-in-Err-put_all-clause-broke
returns-in-Err-put_all-clause-broke g c =
    let took = g.W.Sink.took in fails_after (took c.args.writer.now) (took c.flush_to.new.writer) (took c.put_all.new.writer) c.in-Ok.ensures.writes c.in-Err-put_all.ensures.broke

use Rattle.rme_line_io.proofs.PieceLemmas.{saw_first, saw_same, saw_taken, cuts_taken, cuts_end, piece_lost, whole_taken}
use Rattle.rme_line_io.proofs.ReaderLemmas.{came_first, came_more}
use Rattle.rme_line_io.proofs.TrafficLemmas.{fails_more, makes_more, makes_none, makes_on}
use Rattle.rme_line_io.proofs.MomentLemmas.{read_none, read_on, read_within}
use Rattle.rme_line_io.specs.Readers.{NoNewlineSince, bytes_left}
use Rattle.rme_line_io.proofs.lines.LineReader.next_line.Goals as goal

pub returns-in-Ok-false-clause-cut : goal.returns-in-Ok-false-clause-cut
returns-in-Ok-false-clause-cut g c =
    let left = bytes_left g.R.Source.remaining in
    let saw = saw_same 65537 (left c.args.self.now) _ (left c.fill.new.self) _ c.loop-line.invariant.saw c.in-Ok-false.ensures.kept in
    rw c.last_cut_of.ensures (cuts_end _ _ _ saw (c.in-Ok-false.ensures.end c.in-Ok-false.field-0-test).0)

pub returns-in-Ok-true-take_piece-clause-cut : goal.returns-in-Ok-true-take_piece-clause-cut
returns-in-Ok-true-take_piece-clause-cut g c =
    let left = bytes_left g.R.Source.remaining in
    let saw = saw_same 65537 (left c.args.self.now) _ (left c.fill.new.self) _ c.loop-line.invariant.saw c.in-Ok-true.ensures.kept in
    rw c.cut_of.ensures (cuts_taken _ _ (left c.take_piece.new.self) c.loop-line.line.items _ _ saw c.in-Ok-true-take_piece.ensures.takes c.in-Ok-true-take_piece.field-0-test)

pub loop-line-init : goal.loop-line-init
loop-line-init g c =
    record {
      saw = rw c.clear.ensures.items (saw_first 65537 (bytes_left g.R.Source.remaining c.args.self.now));
      came_on = came_first c.args.self.now c.clear.new.self.items c.clear.ensures.items;
      asks = makes_none g.R.Source.gave c.args.self.now;
      shown = read_none g.R.Source.moments c.args.self.now (NoNewlineSince (bytes_left g.R.Source.remaining c.args.self.now) (g.W.Sink.contents c.args.writer.now));
    }

pub loop-line-preserved : goal.loop-line-preserved
loop-line-preserved g c =
    let left = bytes_left g.R.Source.remaining in
    let saw = saw_same 65537 (left c.args.self.now) _ (left c.fill.new.self) _ c.loop-line.invariant.saw c.in-Ok-true.ensures.kept in
    let more = c.in-Ok-true.ensures.fewer c.in-Ok-true.field-0-test in record {
      saw = saw_taken (left c.args.self.now) (left c.fill.new.self) (left c.take_piece.new.self) c.loop-line.line.items c.take_piece.new.line.items _ saw
          c.in-Ok-false-take_piece.ensures.takes c.in-Ok-false-take_piece.field-0-test;
      came_on = came_more c.args.self.now c.loop-line.self c.fill.new.self c.take_piece.new.self c.loop-line.line.items c.take_piece.new.line.items c.loop-line.invariant.came_on
          c.in-Ok-true.ensures.ended c.in-Ok-true.ensures.reads c.in-Ok-true.ensures.most more c.in-Ok-false-take_piece.ensures.on c.in-Ok-false-take_piece.ensures.used;
      asks = makes_more g.R.Source.gave c.args.self.now c.fill.new.self c.take_piece.new.self (makes_more g.R.Source.gave c.args.self.now c.loop-line.self c.fill.new.self c.loop-line.invariant.asks c.in-Ok-true.ensures.asks)
          (makes_on g.R.Source.gave c.fill.new.self c.take_piece.new.self c.in-Ok-false-take_piece.ensures.on);
      shown = read_on g.R.Source.moments c.args.self.now c.fill.new.self c.take_piece.new.self (NoNewlineSince (left c.args.self.now) (g.W.Sink.contents c.args.writer.now)) (read_within g.R.Source.moments (left c.args.self.now) (left c.loop-line.self) (g.W.Sink.contents c.args.writer.now) c.loop-line.line.items c.args.self.now c.loop-line.self c.fill.new.self c.loop-line.invariant.shown
          c.loop-line.invariant.saw c.in-Ok-true.ensures.shown) c.in-Ok-false-take_piece.ensures.on;
    }

pub returns-in-Ok-true-take_piece-clause-whole : goal.returns-in-Ok-true-take_piece-clause-whole
returns-in-Ok-true-take_piece-clause-whole g c ended =
    let left = bytes_left g.R.Source.remaining in
    let saw = saw_same 65537 (left c.args.self.now) _ (left c.fill.new.self) _ c.loop-line.invariant.saw c.in-Ok-true.ensures.kept in
    whole_taken (left c.args.self.now) _ (left c.take_piece.new.self) c.loop-line.line.items c.take_piece.new.line.items _ saw c.in-Ok-true-take_piece.ensures.takes c.in-Ok-true-take_piece.field-0-test

pub returns-in-Err-clause-lost : goal.returns-in-Err-clause-lost
returns-in-Err-clause-lost g c =
    let left = bytes_left g.R.Source.remaining in
    piece_lost (left c.args.self.now) (left c.loop-line.self) (left c.fill.new.self) c.loop-line.line.items c.loop-line.invariant.saw c.in-Err.ensures.kept

pub returns-in-Err-take_piece-clause-lost : goal.returns-in-Err-take_piece-clause-lost
returns-in-Err-take_piece-clause-lost g c =
    let left = bytes_left g.R.Source.remaining in
    let saw = saw_same 65537 (left c.args.self.now) _ (left c.fill.new.self) _ c.loop-line.invariant.saw c.in-Ok-true.ensures.kept in
    piece_lost (left c.args.self.now) (left c.fill.new.self) (left c.take_piece.new.self) c.loop-line.line.items saw c.in-Err-take_piece.ensures.lost

pub returns-in-Ok-false-clause-asks : goal.returns-in-Ok-false-clause-asks
returns-in-Ok-false-clause-asks g c = makes_more g.R.Source.gave c.args.self.now c.loop-line.self c.fill.new.self c.loop-line.invariant.asks c.in-Ok-false.ensures.asks

pub returns-in-Err-clause-asks : goal.returns-in-Err-clause-asks
returns-in-Err-clause-asks g c = makes_more g.R.Source.gave c.args.self.now c.loop-line.self c.fill.new.self c.loop-line.invariant.asks c.in-Err.ensures.asks

pub returns-in-Err-clause-broke : goal.returns-in-Err-clause-broke
returns-in-Err-clause-broke g c _ = fails_more g.R.Source.gave c.args.self.now c.loop-line.self c.fill.new.self c.loop-line.invariant.asks c.in-Err.ensures.broke

pub returns-in-Ok-true-take_piece-clause-asks : goal.returns-in-Ok-true-take_piece-clause-asks
returns-in-Ok-true-take_piece-clause-asks g c =
    makes_more g.R.Source.gave c.args.self.now c.fill.new.self c.take_piece.new.self
    (makes_more g.R.Source.gave c.args.self.now c.loop-line.self c.fill.new.self c.loop-line.invariant.asks c.in-Ok-true.ensures.asks)
    (makes_on g.R.Source.gave c.fill.new.self c.take_piece.new.self c.in-Ok-true-take_piece.ensures.on)

pub returns-in-Err-take_piece-clause-asks : goal.returns-in-Err-take_piece-clause-asks
returns-in-Err-take_piece-clause-asks g c =
    makes_more g.R.Source.gave c.args.self.now c.fill.new.self c.take_piece.new.self
    (makes_more g.R.Source.gave c.args.self.now c.loop-line.self c.fill.new.self c.loop-line.invariant.asks c.in-Ok-true.ensures.asks)
    (makes_on g.R.Source.gave c.fill.new.self c.take_piece.new.self c.in-Err-take_piece.ensures.on)

pub returns-in-Ok-false-clause-shown : goal.returns-in-Ok-false-clause-shown
returns-in-Ok-false-clause-shown g c =
    let left = bytes_left g.R.Source.remaining in
    read_within g.R.Source.moments (left c.args.self.now) (left c.loop-line.self) (g.W.Sink.contents c.args.writer.now) c.loop-line.line.items c.args.self.now c.loop-line.self c.fill.new.self c.loop-line.invariant.shown
    c.loop-line.invariant.saw c.in-Ok-false.ensures.shown

pub returns-in-Err-clause-shown : goal.returns-in-Err-clause-shown
returns-in-Err-clause-shown g c =
    let left = bytes_left g.R.Source.remaining in
    read_within g.R.Source.moments (left c.args.self.now) (left c.loop-line.self) (g.W.Sink.contents c.args.writer.now) c.loop-line.line.items c.args.self.now c.loop-line.self c.fill.new.self c.loop-line.invariant.shown
    c.loop-line.invariant.saw c.in-Err.ensures.shown

pub returns-in-Ok-true-take_piece-clause-shown : goal.returns-in-Ok-true-take_piece-clause-shown
returns-in-Ok-true-take_piece-clause-shown g c =
    let left = bytes_left g.R.Source.remaining in
    read_on g.R.Source.moments c.args.self.now c.fill.new.self c.take_piece.new.self (NoNewlineSince (left c.args.self.now) (g.W.Sink.contents c.args.writer.now)) (read_within g.R.Source.moments (left c.args.self.now) (left c.loop-line.self) (g.W.Sink.contents c.args.writer.now) c.loop-line.line.items c.args.self.now c.loop-line.self c.fill.new.self c.loop-line.invariant.shown
    c.loop-line.invariant.saw c.in-Ok-true.ensures.shown) c.in-Ok-true-take_piece.ensures.on

pub returns-in-Err-take_piece-clause-shown : goal.returns-in-Err-take_piece-clause-shown
returns-in-Err-take_piece-clause-shown g c =
    let left = bytes_left g.R.Source.remaining in
    read_on g.R.Source.moments c.args.self.now c.fill.new.self c.take_piece.new.self (NoNewlineSince (left c.args.self.now) (g.W.Sink.contents c.args.writer.now)) (read_within g.R.Source.moments (left c.args.self.now) (left c.loop-line.self) (g.W.Sink.contents c.args.writer.now) c.loop-line.line.items c.args.self.now c.loop-line.self c.fill.new.self c.loop-line.invariant.shown
    c.loop-line.invariant.saw c.in-Ok-true.ensures.shown) c.in-Err-take_piece.ensures.on

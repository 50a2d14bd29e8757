use Rattle.std.proofs.Common.{take, arith, slice_range}
use Rattle.rme_line_io.specs.Readers.{bytes_left}
use Rattle.rme_line_io.proofs.PieceLemmas.{IsPiece-all, IsPiece-front, Saw, chunk_newline, cuts_ended, moved, saw_first, whole_ended}
use Rattle.rme_line_io.proofs.lines.LineReader.take_line.Goals as goal

pub returns-in_default-clause-none : goal.returns-in_default-clause-none
returns-in_default-clause-none g c none = let absent = rw c.deref.ensures.value at c.in_default.ensures in IsPiece-all _ absent

pub returns-clause-cut : goal.returns-clause-cut
returns-clause-cut g c =
    let self = c.args.self.now in
    let left = bytes_left g.R.Source.remaining self in
    let first = rw c.deref.ensures.value at c.in-Some.ensures in
    let line = rw c.deref.ensures.value at c.in_ok-extend_line.ensures in
    let bytes = slice_range self.chunk.items self.start self.end in
    let saw : Saw 65537 left left c.clear.new.self.items = rw c.clear.ensures.items (saw_first 65537 left) in
    rw c.cut_of.ensures
    (cuts_ended left left _ c.clear.new.self.items (take c.in-Some.at bytes) c.extend_line.new.line.items saw (IsPiece-front bytes c.in-Some.at (omega (arith, first.0.high)) first.0.before)
    (moved _ bytes _ _ (chunk_newline self.chunk.items self.start self.end c.in-Some.at first.0.high first.1)) line)

pub returns-clause-whole : goal.returns-clause-whole
returns-clause-whole g c =
    let self = c.args.self.now in
    let left = bytes_left g.R.Source.remaining self in
    let first = rw c.deref.ensures.value at c.in-Some.ensures in
    let bytes = slice_range self.chunk.items self.start self.end in
    let saw : Saw 65537 left left c.clear.new.self.items = rw c.clear.ensures.items (saw_first 65537 left) in
    whole_ended left left _ c.clear.new.self.items (take c.in-Some.at bytes) saw (IsPiece-front bytes c.in-Some.at (omega (arith, first.0.high)) first.0.before)
    (moved _ bytes _ _ (chunk_newline self.chunk.items self.start self.end c.in-Some.at first.0.high first.1))

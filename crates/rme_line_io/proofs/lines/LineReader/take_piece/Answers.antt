use Rattle.std.proofs.Common.{take, arith, slice_range}
use Rattle.rme_line_io.proofs.PieceLemmas.{IsPiece-front, moved, chunk_newline, chunk_end, IsPiece-all}
use Rattle.rme_line_io.proofs.lines.LineReader.take_piece.Goals as goal

pub returns-in_ok-extend_line-in-Some-clause-takes : goal.returns-in_ok-extend_line-in-Some-clause-takes
returns-in_ok-extend_line-in-Some-clause-takes g c =
    let self = c.args.self.now in
    let first = rw c.deref.ensures.value at c.in-Some.ensures in
    let line = rw c.deref.ensures.value at c.in_ok-extend_line-in-Some.ensures in
    let bytes = slice_range self.chunk.items self.start self.end in (
      take c.in-Some.at bytes,
      IsPiece-front bytes c.in-Some.at (omega (arith, first.0.high)) first.0.before,
      moved _ bytes _ _ (chunk_newline self.chunk.items self.start self.end c.in-Some.at first.0.high first.1),
      line,
    )

pub returns-in_ok-extend_line-in-None-clause-takes : goal.returns-in_ok-extend_line-in-None-clause-takes
returns-in_ok-extend_line-in-None-clause-takes g c =
    let self = c.args.self.now in
    let none = rw c.deref.ensures.value at c.in-None.ensures in
    let line = rw c.deref.ensures.value at c.in_ok-extend_line-in-None.ensures in
    let bytes = slice_range self.chunk.items self.start self.end in
    (bytes, IsPiece-all bytes none, moved _ bytes _ _ (chunk_end self.chunk.items self.start self.end), line)

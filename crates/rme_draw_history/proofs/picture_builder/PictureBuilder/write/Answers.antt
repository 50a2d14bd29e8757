use Rattle.std.proofs.Common.{[], false}
use Rattle.rme_draw_picture.specs.Pages.{page_state}
use Rattle.rme_draw_history.specs.PictureBuilding.{picture_of_lines, picture_state_of}
use Rattle.rme_draw_history.proofs.Writing.{broke}
use Rattle.rme_draw_history.proofs.picture_builder.PictureBuilder.write.Goals as goal

pub returns-clause-broke : goal.returns-clause-broke
returns-clause-broke g c =
    let held = g.W.Sink.contents in
    let took = g.W.Sink.took in
    λ _. broke (g.P.Paint.paints (picture_of_lines c.args.drawn (picture_state_of c.args.self.now))) record { pending = []; failed = false; contents = held c.args.writer.now; took = took c.args.writer.now }
    (page_state held took c.in-Ok.page c.painted.new.writer) (took c.finish.new.writer) c.in-Ok.ensures.painted c.in-Err.ensures.broke

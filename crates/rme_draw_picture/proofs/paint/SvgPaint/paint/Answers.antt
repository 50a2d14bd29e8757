use Rattle.rme_draw_picture.specs.Pictures.{picture_of_drawing}
use Rattle.rme_draw_picture.proofs.Making.{made}
use Rattle.rme_draw_picture.proofs.paint.SvgPaint.paint.Goals as goal

pub returns-clause-painted : goal.returns-clause-painted
returns-clause-painted g c =
    made (picture_of_drawing c.args.drawing.now) g.W.Sink.contents g.W.Sink.took c.args.page.now c.put_svg.new.page c.args.writer.now c.put_svg.new.writer c.put_svg.result c.put_svg.ensures.put

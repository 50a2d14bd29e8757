use Rattle.rme_draw_picture.proofs.Putting.{puts_more}
use Rattle.rme_draw_picture.proofs.svg.put_strip.Goals as goal

pub returns : goal.returns
returns g c =
    let names = puts_more c.put_workers.ensures c.put_locks.ensures in
    puts_more (puts_more c.put_columns.ensures names) c.put_rows.ensures

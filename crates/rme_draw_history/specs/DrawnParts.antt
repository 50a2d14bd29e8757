-- What of a picture is drawn from its first line on.
use Rattle.std.specs.Prelude.{ℕ, filter, nat_lt, nat_le}
use Rattle.rme_draw_picture.specs.Pictures.{Picture}

-- The stays and the holds that reach a line or begin after it, and what happened at that line or after it. A stay or a
-- hold that began earlier keeps the line at which it began.
abbrev pub picture_from : ℕ → Picture → Picture
picture_from first picture = record {
  workers = picture.workers;
  has_checkpoint_worker = picture.has_checkpoint_worker;
  names = picture.names;
  first = first;
  last = picture.last;
  lines = picture.lines;
  number = picture.number;
  stays = filter (λ stay. nat_lt first stay.to) picture.stays;
  holds = filter (λ hold. nat_lt first hold.to) picture.holds;
  marks = filter (λ mark. nat_le first mark.line) picture.marks;
  finishes = filter (λ finish. nat_le first finish.line) picture.finishes;
}

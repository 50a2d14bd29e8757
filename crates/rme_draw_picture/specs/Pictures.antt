-- The contents of a picture, as contracts see it.
use Rattle.std.specs.Prelude.{ℕ, Bool, false, List, [], map, string_bytes}
use Rattle.rme_draw_picture.specs.declared.drawing.Drawing.{Drawing}
use Rattle.rme_draw_picture.specs.declared.drawing.DrawnStay.{DrawnStay}
use Rattle.rme_draw_picture.specs.declared.drawing.Hold.{Hold}
use Rattle.rme_draw_picture.specs.declared.drawing.Mark.{Mark}
use Rattle.rme_draw_picture.specs.declared.drawing.Finish.{Finish}

-- The number of workers, whether the last of them is the checkpoint worker, the names of the locks; the first and the
-- last line that are drawn, of how many; the greatest number of a job; and the stays, the holds, the marks and the
-- finished sections, each list in the order of the lines.
pub record Picture : Type 0 where
  pub workers : ℕ
  pub has_checkpoint_worker : Bool
  pub names : List (List ℕ)
  pub first : ℕ
  pub last : ℕ
  pub lines : ℕ
  pub number : ℕ
  pub stays : List DrawnStay
  pub holds : List Hold
  pub marks : List Mark
  pub finishes : List Finish

abbrev pub picture_of_drawing : Drawing → Picture
picture_of_drawing drawing = record {
  workers = drawing.workers;
  has_checkpoint_worker = drawing.has_checkpoint_worker;
  names = map string_bytes drawing.names.items;
  first = drawing.first;
  last = drawing.last;
  lines = drawing.lines;
  number = drawing.number;
  stays = drawing.stays.items;
  holds = drawing.holds.items;
  marks = drawing.marks.items;
  finishes = drawing.finishes.items;
}

-- the empty picture
abbrev pub empty_picture : Picture
empty_picture = record {
  workers = 0;
  has_checkpoint_worker = false;
  names = [];
  first = 1;
  last = 0;
  lines = 0;
  number = 0;
  stays = [];
  holds = [];
  marks = [];
  finishes = [];
}

-- A text that `put_svg` put for a drawing of this picture. The definition says nothing of its characters, and is opaque
-- outside this file. So a proof that a text is one comes from the painter that made it for that picture.
pub IsSvg : Picture → List ℕ → Type 0
IsSvg picture text = Unit {0}

-- only for the painter
pub made_by_painter : (picture : Picture) (text : List ℕ) → IsSvg picture text
unfolding IsSvg
made_by_painter picture text = tt

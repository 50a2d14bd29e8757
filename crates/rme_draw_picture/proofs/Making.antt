-- The text of the SVG painter.
use Rattle.std.proofs.Common.{ℕ, List, Option, Result, Ok, Err, OnOk}
use Rattle.rme_line_io.specs.StreamEvents.{StreamEvent}
use Rattle.rme_draw_picture.specs.declared.page.Page.{Page}
use Rattle.rme_draw_picture.specs.Pages.{TextOfKindPut, SomeTextPut, page_state}
use Rattle.rme_draw_picture.specs.Pictures.{IsSvg, Picture, made_by_painter}

pub made : {W A E : Type 0} (picture : Picture) (contents : W → Option (List ℕ)) (took : W → Option (List StreamEvent))
    (page later : Page) (writer wrote : W) (result : Result A E)
    → OnOk result (SomeTextPut contents took page writer later wrote) → OnOk result (TextOfKindPut (IsSvg picture) (page_state contents took page writer) (page_state contents took later wrote))
made picture contents took page later writer wrote (Ok done) puts = record { text = puts.text; is_of_kind = made_by_painter picture puts.text; put = puts.put }
made picture contents took page later writer wrote (Err fault) puts = tt

-- Texts that are put on a page in turn.
use Rattle.std.proofs.Common.{ℕ, List, [], ◌++◌, Bool, true, false, Option, refl, sym, subst, ◌∙◌}
use Rattle.rme_line_io.specs.StreamEvents.{StreamEvent, LastWriteFailed}
use Rattle.rme_line_io.proofs.PutLemmas.{gathers_more, gathers_none}
use Rattle.rme_line_io.proofs.TrafficLemmas.{fails_after, writes_more, writes_none}
use Rattle.rme_draw_picture.specs.declared.page.Page.{Page}
use Rattle.rme_draw_picture.specs.Pages.{PageState, page_state, TextPutBy, SomeTextPut}

-- nothing was put
puts_none_by : (failed : Bool) (state : PageState) → TextPutBy failed failed [] state state
puts_none_by false state = (gathers_none state.contents state.pending, writes_none state.took)
puts_none_by true state = refl

pub puts_none : {W : Type 0} {contents : W → Option (List ℕ)} {took : W → Option (List StreamEvent)} {page : Page}
    {writer : W}
    → SomeTextPut contents took page writer page writer
puts_none {contents} {took} {page} {writer} = record { text = []; put = puts_none_by page.failed (page_state contents took page writer) }

-- first a text was put, and then another
puts_more_by : (a b c : Bool) (first text : List ℕ) (old mid new : PageState) → TextPutBy a b first old mid
    → TextPutBy b c text mid new → TextPutBy a c (first ++ text) old new
puts_more_by false false false first text old mid new (g, w) (h, v) = (gathers_more old.contents mid.contents new.contents old.pending mid.pending new.pending first text g h, writes_more old.took mid.took new.took w v)
puts_more_by false false true first text old mid new (g, w) fails = fails_after old.took mid.took new.took w fails
puts_more_by false true false first text old mid new fails none = absurd none
puts_more_by false true true first text old mid new fails same = let P : Option (List StreamEvent) → Type 0 = λ t. LastWriteFailed old.took t in subst P (sym same) fails
puts_more_by true false c first text old mid new none puts = absurd none
puts_more_by true true false first text old mid new same none = absurd none
puts_more_by true true true first text old mid new same more = more ∙ same

pub puts_more : {W : Type 0} {contents : W → Option (List ℕ)} {took : W → Option (List StreamEvent)}
    {page mid later : Page} {writer between wrote : W}
    → SomeTextPut contents took page writer mid between → SomeTextPut contents took mid between later wrote → SomeTextPut contents took page writer later wrote
puts_more {contents} {took} {page} {mid} {later} {writer} {between} {wrote} a b = record {
  text = a.text ++ b.text;
  put = puts_more_by page.failed mid.failed later.failed a.text b.text (page_state contents took page writer) (page_state contents took mid between) (page_state contents took later wrote) a.put b.put;
}

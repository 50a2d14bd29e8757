-- A picture that was put on a page, of which the last write failed.
use Rattle.std.proofs.Common.{ℕ, List, Bool, true, false, Option, sym, subst}
use Rattle.rme_line_io.specs.StreamEvents.{StreamEvent, LastWriteFailed}
use Rattle.rme_line_io.proofs.TrafficLemmas.{fails_after}
use Rattle.rme_draw_picture.specs.Pages.{LastPageWriteFailed, PageState, TextPutBy}

broke_by : (failed : Bool) (text : List ℕ) (old mid : PageState) (takes : Option (List StreamEvent)) → TextPutBy false failed text old mid → LastPageWriteFailed failed mid.took takes → LastWriteFailed old.took takes
broke_by false text old mid takes (gathers, writes) fails = fails_after old.took mid.took takes writes fails
broke_by true text old mid takes fails same = let P : Option (List StreamEvent) → Type 0 = λ t. LastWriteFailed old.took t in subst P (sym same) fails

-- it failed while the picture was put, or when the page was finished
pub broke : (kind : List ℕ → Type 0) (old mid : PageState) (takes : Option (List StreamEvent)) → (text : List ℕ) × kind text × TextPutBy false mid.failed text old mid
    → LastPageWriteFailed mid.failed mid.took takes → LastWriteFailed old.took takes
broke kind old mid takes (text, is, puts) fails = broke_by mid.failed text old mid takes puts fails

-- The text that is put on a page and reaches its writer.
use Rattle.std.specs.Prelude.{◌≡◌, ℕ, List, Bool, true, false, Option}
use Rattle.rme_line_io.specs.BufferedWrites.{BufferedWrite}
use Rattle.rme_line_io.specs.StreamEvents.{StreamEvent, LastWriteFailed, WritesMade}
use Rattle.rme_draw_picture.specs.declared.page.Page.{Page}

-- A page and its writer: the text in the page's buffer, whether a write failed, the writer's contents, and the events
-- of the stream.
pub record PageState : Type 0 where
  pub pending : List ℕ
  pub failed : Bool
  pub contents : Option (List ℕ)
  pub took : Option (List StreamEvent)

abbrev pub page_state : {W : Type 0} → (W → Option (List ℕ)) → (W → Option (List StreamEvent)) → Page → W → PageState
page_state contents took page writer =
    record { pending = page.pending; failed = page.failed; contents = contents writer; took = took writer }

-- A text was appended to the buffer: the written text and the buffer are all of it, in order. After a write that
-- failed, the page says so, and nothing more is written.
abbrev pub TextPutBy : Bool → Bool → List ℕ → PageState → PageState → Type 0
TextPutBy false false text old new =
    BufferedWrite old.contents old.pending text new.contents new.pending × WritesMade old.took new.took
TextPutBy false true text old new = LastWriteFailed old.took new.took
TextPutBy true false text old new = ⊥
TextPutBy true true text old new = new.took ≡ old.took

abbrev pub TextPut : List ℕ → PageState → PageState → Type 0
TextPut text old new = TextPutBy old.failed new.failed text old new

-- some text was put
pub record SomeTextPut {W : Type 0} (contents : W → Option (List ℕ)) (took : W → Option (List StreamEvent))
    (page : Page) (writer : W) (later : Page) (wrote : W) : Type 0 where
  pub text : List ℕ
  pub put : TextPut text (page_state contents took page writer) (page_state contents took later wrote)

-- a text of a kind was put
pub record TextOfKindPut (kind : List ℕ → Type 0) (old new : PageState) : Type 0 where
  pub text : List ℕ
  pub is_of_kind : kind text
  pub put : TextPut text old new

-- the last write failed: one of these, or an earlier one
abbrev pub LastPageWriteFailed : Bool → Option (List StreamEvent) → Option (List StreamEvent) → Type 0
LastPageWriteFailed false took takes = LastWriteFailed took takes
LastPageWriteFailed true took takes = takes ≡ took

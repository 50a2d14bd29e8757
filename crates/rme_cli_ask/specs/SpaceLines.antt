-- The names of spaces, one a line, page by page.
use Rattle.std.specs.Prelude.{◌≡◌, ℕ, true, false, List, [], ◌∷◌, ◌++◌, codes, Option, Some, None, String, string_bytes}
use Rattle.std.specs.List.{flat_map}
use Rattle.std.specs.declared.alloc.Global.{Global}
use Rattle.serde_json.specs.Data.{Data}
use Rattle.rme_ask_client.specs.SpaceAnswers.{SpacesSay}
use Rattle.rme_ask_client.specs.declared.space_answers.SpacesPage.{SpacesPage}
use Rattle.rme_cli_ask.specs.declared.spaces.ShownPage.{ShownPage}
use Rattle.rme_cli_messages.specs.EscapedTexts.{escaped_text}

abbrev pub name_line : List ℕ → List ℕ
name_line name = escaped_text name ++ codes "\n"

abbrev pub space_line : String Global → List ℕ
space_line space = name_line (string_bytes space)

-- the name behind which the next page begins: the last one, if more names follow
abbrev pub IsNextStart : SpacesPage → Option (String Global) → Type 0
IsNextStart page None = page.more ≡ false
IsNextStart page (Some last) =
    (page.more ≡ true) × (before : List (String Global)) × (page.spaces.items ≡ before ++ last ∷ [])

-- A line for each name of the page that an answer says, and where the next page begins.
pub record ShowsPage (answer : Data) (shown : ShownPage) : Type 0 where
  pub page : SpacesPage
  pub says : SpacesSay answer page
  pub lines : string_bytes shown.text ≡ flat_map space_line page.spaces.items
  pub next : IsNextStart page shown.next

-- The answer says no page, or that there are more behind it.
abbrev pub LacksPage : Data → Type 0
LacksPage answer = (page : SpacesPage) → SpacesSay answer page → page.more ≡ true

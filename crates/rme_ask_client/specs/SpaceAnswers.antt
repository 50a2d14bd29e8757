-- What the answer to `spaces` says.
use Rattle.std.specs.Prelude.{◌≡◌, Some, codes, String, string_bytes}
use Rattle.std.specs.declared.alloc.Global.{Global}
use Rattle.serde_json.specs.Data.{Data}
use Rattle.serde_json.specs.Find.{as_str}
use Rattle.rme_ask_client.specs.Members.{flag_member}
use Rattle.rme_ask_client.specs.StatusAnswers.{ListSays}
use Rattle.rme_ask_client.specs.declared.space_answers.SpacesPage.{SpacesPage}

-- an item is this text
abbrev pub NameSays : Data → String Global → Type 0
NameSays item name = as_str item ≡ Some (string_bytes name)

-- the names, in order, and whether there are more
pub record SpacesSay (answer : Data) (page : SpacesPage) : Type 0 where
  pub spaces : ListSays (codes "spaces") NameSays answer page.spaces.items
  pub more : flag_member (codes "more") answer ≡ Some page.more

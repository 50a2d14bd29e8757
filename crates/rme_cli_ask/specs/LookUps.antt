-- The text of the answer to a request: the tables of what the answer says, or a sentence.
use Rattle.std.specs.Prelude.{◌≡◌, ℕ, List, ◌++◌, Option, codes}
use Rattle.serde_json.specs.Data.{Data}
use Rattle.rme_ask_client.specs.Members.{NoneSaid}
use Rattle.rme_ask_client.specs.StatusAnswers.{CellsSay, OwnerSays, StatusSays}
use Rattle.rme_ask_client.specs.declared.request.ClientRequest.{ClientRequest}
use Rattle.rme_ask_client.specs.declared.request.ClientRequest.TheVariants.{Status, Owner, Cells, CreateSpace, DropSpace}
use Rattle.rme_ask_client.specs.declared.status_answer.CellsAnswer.{CellsAnswer}
use Rattle.rme_ask_client.specs.declared.status_answer.ServerStatus.{ServerStatus}
use Rattle.rme_cli_ask.specs.StatusRows.{cells_rows, owner_rows, status_text}
use Rattle.rme_cli_ask.specs.Tables.{table_text}

pub record ShowsStatus (answer : Data) (text : List ℕ) : Type 0 where
  pub status : ServerStatus
  pub says : StatusSays answer status
  pub shows : text ≡ status_text status

pub record ShowsOwner (lock : List ℕ) (answer : Data) (text : List ℕ) : Type 0 where
  pub owner : Option ℕ
  pub says : OwnerSays answer owner
  pub shows : text ≡ table_text (owner_rows lock owner)

pub record ShowsCells (lock : List ℕ) (answer : Data) (text : List ℕ) : Type 0 where
  pub cells : CellsAnswer
  pub says : CellsSay answer cells
  pub shows : text ≡ table_text (cells_rows lock cells)

-- `space NAME is there`
abbrev pub space_sentence : List ℕ → List ℕ → List ℕ
space_sentence name what = codes "space " ++ (name ++ (codes " " ++ (what ++ codes "\n")))

abbrev pub ShowsAnswer : ClientRequest → Data → List ℕ → Type 0
ShowsAnswer Status answer text = ShowsStatus answer text
ShowsAnswer (Owner lock) answer text = ShowsOwner lock.now answer text
ShowsAnswer (Cells lock) answer text = ShowsCells lock.now answer text
ShowsAnswer (CreateSpace space) answer text = text ≡ space_sentence space.name.now (codes "is there")
ShowsAnswer (DropSpace space) answer text = text ≡ space_sentence space.now (codes "is gone")
ShowsAnswer request answer text = text ≡ codes "the server answers\n"

-- The answer does not say what was asked for.
abbrev pub LacksAnswer : ClientRequest → Data → Type 0
LacksAnswer Status answer = NoneSaid StatusSays answer
LacksAnswer (Owner lock) answer = NoneSaid OwnerSays answer
LacksAnswer (Cells lock) answer = NoneSaid CellsSay answer
LacksAnswer request answer = ⊥

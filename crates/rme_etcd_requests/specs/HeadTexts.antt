-- A head as JSON, and the head that a JSON value says.
use Rattle.std.specs.Prelude.{◌≡◌, ℕ, List, Ok, Some, codes, length, option_and_then}
use Rattle.hex.specs.Hex.{IsBytes, decode_sized, encode_lower}
use Rattle.serde_json.specs.Data.{Data, number, unsigned, string, object, member, no_members}
use Rattle.serde_json.specs.Find.{as_number, as_str, as_u64, get}
use Rattle.rme_replica.specs.EngineLogs.{HeadValue}

abbrev pub head_data : HeadValue → Data
head_data head = object (member (codes "addr") (string head.address)
    (member (codes "epoch") (number (unsigned head.epoch)) (member (codes "rme") (string (codes "kept"))
    (member (codes "seq") (number (unsigned head.sequence))
    (member (codes "term") (number (unsigned head.term)) (member (codes "version") (number (unsigned 1))
    (member (codes "writer") (string (encode_lower head.writer)) no_members)))))))

abbrev pub SaysNumber : List ℕ → Data → ℕ → Type 0
SaysNumber name whole n = option_and_then as_u64 (option_and_then as_number (get name whole)) ≡ Some n

abbrev pub SaysText : List ℕ → Data → List ℕ → Type 0
SaysText name whole text = option_and_then as_str (get name whole) ≡ Some text

pub record SaysHead (whole : Data) (head : HeadValue) : Type 0 where
  pub address : SaysText (codes "addr") whole head.address
  pub epoch : SaysNumber (codes "epoch") whole head.epoch
  pub sequence : SaysNumber (codes "seq") whole head.sequence
  pub term : SaysNumber (codes "term") whole head.term
  pub digits : List ℕ
  pub written : SaysText (codes "writer") whole digits
  pub writer : decode_sized digits 12 ≡ Ok head.writer

-- A HEAD READS BACK: what is written for a head says that head.
abbrev pub HeadsReadBack : Type 0
HeadsReadBack = (head : HeadValue) → length head.writer ≡ 12 → IsBytes head.writer → SaysHead (head_data head) head

-- A TEXT TELLS ITS HEAD: no value says two heads.
abbrev pub TellsOneHead : Type 0
TellsOneHead = (whole : Data) (a b : HeadValue) → SaysHead whole a → SaysHead whole b → a ≡ b

-- A value at the front of a list of tokens.
use Rattle.std.specs.Prelude.{◌≡◌, ℕ, List, length, Some}
use Rattle.json.specs.Token.{Token}
use Rattle.json.specs.Json as json
use Rattle.serde_json.specs.Data.{Data, Items, Members, no_members}
use Rattle.serde_json.specs.Read.{of_json, of_items, of_members}

-- The tokens begin with this value, at most `depth` deep, and continue with the tokens `rest`.
pub record TokensBeginWithValue (depth : ℕ) (tokens : List Token) (is : Data) (rest : List Token) : Type 0 where
  pub tree : json.Json
  pub grammar : json.value depth tokens ≡ Some (tree, rest)
  pub means : of_json tree ≡ Some is

-- They begin with the values of a list and its closing bracket.
pub record TokensBeginWithItems (depth : ℕ) (tokens : List Token) (are : Items) (rest : List Token) : Type 0 where
  pub tree : json.Items
  pub grammar : json.items (json.value depth) (length tokens) tokens ≡ Some (tree, rest)
  pub means : of_items tree ≡ Some are

-- They begin with the members of an object and its closing brace.
pub record TokensBeginWithMembers (depth : ℕ) (tokens : List Token) (are : Members) (rest : List Token) : Type 0 where
  pub tree : json.Members
  pub grammar : json.members (json.value depth) (length tokens) tokens ≡ Some (tree, rest)
  pub means : of_members tree no_members ≡ Some are

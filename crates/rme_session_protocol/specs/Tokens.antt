-- The syntax at the front of a list of tokens.
use Rattle.std.specs.Prelude.{◌≡◌, ℕ, ◌<◌, ◌≤◌, ◌^◌, ◌⊎◌, ◌&&◌, nat_le, nat_lt, List, [], ◌∷◌, length, bytes_eq, codes, if◌then◌else◌, Option, Some, None, option_map}
use Rattle.json.specs.Token.{Token}
use Rattle.serde_json.specs.Data.{Data, Num, Items, array}
use Rattle.serde_json.specs.Find.{as_u64}
use Rattle.serde_json.specs.Read.{number_of}
use Rattle.rme_line_json.specs.Trees.{TokensBeginWithValue}
use Rattle.rme_script.specs.declared.op.Op.{Op}
use Rattle.rme_script.specs.declared.op.Op.TheVariants.{Set, Add, Copy, Swap}
use Rattle.rme_script.specs.Programs.{Program}
use Rattle.rme_session_protocol.specs.declared.order.Order.{Order}
use Rattle.rme_session_protocol.specs.declared.order.Patience.{Patience}
use Rattle.rme_session_protocol.specs.declared.order.Patience.TheVariants.{Tries, Wait}
use Rattle.rme_session_protocol.specs.declared.order.Submission.{Submission}
use Rattle.rme_session_protocol.specs.Orders.{order_of_value}
use Rattle.rme_wire.specs.Commands.{lock_number}
use Rattle.rme_wire.specs.Operations.{op_of_value, script_of_value}

-- a whole number below 2^64
pub record IsWholeToken (tokens : List Token) (n : ℕ) (rest : List Token) : Type 0 where
  pub text : List ℕ
  pub value : Num
  pub first : tokens ≡ Token.number text ∷ rest
  pub means : number_of text ≡ Some value
  pub counts : as_u64 value ≡ Some n

-- one below 2^32
pub record IsSmallToken (tokens : List Token) (n : ℕ) (rest : List Token) : Type 0 where
  pub is : IsWholeToken tokens n rest
  pub few : n < 2 ^ 32

-- a number that is below 2^32
abbrev pub small_of : ℕ → Option ℕ
small_of n = if nat_lt n (2 ^ 32) then Some n else None

-- an operation of two numbers
abbrev pub op_on : List ℕ → ℕ → ℕ → Option Op
op_on word first second =
    if bytes_eq word (codes "set") then Some (Set first second)
    else (if bytes_eq word (codes "add") then Some (Add first second)
    else (if bytes_eq word (codes "copy") then option_map (λ b. Copy first b) (small_of second)
    else (if bytes_eq word (codes "swap") then option_map (λ b. Swap first b) (small_of second)
    else None)))

-- a list that encodes an operation
pub record IsOperationTokens (tokens : List Token) (op : Op) (rest : List Token) : Type 0 where
  pub items : Items
  pub is : TokensBeginWithValue 125 tokens (array items) rest
  pub means : op_of_value (array items) ≡ Some op
  pub shorter : length rest < length tokens

-- a list that is a script
pub record IsScriptTokens (tokens : List Token) (script : Program) (rest : List Token) : Type 0 where
  pub items : Items
  pub is : TokensBeginWithValue 126 tokens (array items) rest
  pub means : script_of_value (array items) ≡ Some script
  pub shorter : length rest < length tokens

-- the patience of a member with this name and this number
abbrev pub patience_named : List ℕ → ℕ → Option Patience
patience_named name n =
    if bytes_eq name (codes "tries") then (if nat_le 1 n && nat_le n 1000000 then Some (Tries n) else None)
    else (if bytes_eq name (codes "wait") then (if nat_le n 3600000 then Some (Wait n) else None)
    else None)

-- a member with the patience, and the end of the line
pub record IsPatienceMember (tokens : List Token) (patience : Patience) : Type 0 where
  pub name : List ℕ
  pub number : ℕ
  pub behind : List Token
  pub first : tokens ≡ Token.key name ∷ behind
  pub is : IsSmallToken behind number (Token.end_object ∷ [])
  pub named : patience_named name number ≡ Some patience

-- the end of a submission, with an optional patience
abbrev pub IsPatienceTokens : List Token → Patience → Type 0
IsPatienceTokens tokens patience =
    IsPatienceMember tokens patience ⊎ ((tokens ≡ Token.end_object ∷ []) × (patience ≡ Tries 1000))

-- `LOCK,"number":..,"script":..,"tries":..}`, the rest of a submission whose number is at most `most`
pub record IsSubmissionTokens (names : List (List ℕ)) (most : ℕ) (tokens : List Token) (s : Submission) : Type 0 where
  pub lock : List ℕ
  pub number : ℕ
  pub script : Program
  pub patience : Patience
  pub at_number : List Token
  pub at_script : List Token
  pub at_patience : List Token
  pub first : tokens ≡ Token.string lock ∷ Token.key (codes "number") ∷ at_number
  pub numbered : IsWholeToken at_number number (Token.key (codes "script") ∷ at_script)
  pub few : number ≤ most
  pub scripted : IsScriptTokens at_script script at_patience
  pub limited : IsPatienceTokens at_patience patience
  pub is : s ≡ record {
    number = number;
    job = record { lock = lock_number names lock; script = script };
    patience =
        patience;
  }

-- all tokens of a line whose value is this order
pub record IsOrderTokens (names : List (List ℕ)) (most : ℕ) (tokens : List Token) (order : Order) : Type 0 where
  pub value : Data
  pub is : TokensBeginWithValue 127 tokens value []
  pub means : order_of_value names most value ≡ Some order

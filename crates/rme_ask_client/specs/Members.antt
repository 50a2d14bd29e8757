-- The members of an answer.
use Rattle.std.specs.Prelude.{◌≡◌, ◌≢◌, ℕ, Bool, true, List, Option, Some, option_and_then, String, string_bytes}
use Rattle.std.specs.declared.alloc.Global.{Global}
use Rattle.rme_ask_client.specs.declared.client_error.ClientError.{ClientError}
use Rattle.rme_ask_client.specs.declared.client_error.ClientError.TheVariants.{NoMemory}
use Rattle.rme_line_io.specs.Names.{is_name}
use Rattle.serde_json.specs.Data.{Data}
use Rattle.serde_json.specs.Find.{as_bool, as_number, as_str, as_u64, get}

-- the answer gives no such value
abbrev pub NoneSaid : {T : Type 0} → (Data → T → Type 0) → Data → Type 0
NoneSaid {T} Says answer = (value : T) → Says answer value → ⊥

-- the same, unless memory was refused
abbrev pub NoneSaidUnless : {T : Type 0} → (Data → T → Type 0) → Data → ClientError → Type 0
NoneSaidUnless Says answer error = (error ≢ NoMemory) → NoneSaid Says answer

-- the member of a name
abbrev pub some_member : List ℕ → Data → Option Data
some_member name said = get name said

-- the number, the truth value, the text of a name
abbrev pub number_member : List ℕ → Data → Option ℕ
number_member name said = option_and_then as_u64 (option_and_then as_number (get name said))

abbrev pub flag_member : List ℕ → Data → Option Bool
flag_member name said = option_and_then as_bool (get name said)

abbrev pub text_member : List ℕ → Data → Option (List ℕ)
text_member name said = option_and_then as_str (get name said)

-- a text of a name, and one that may name a lock
abbrev pub TextSays : List ℕ → Data → String Global → Type 0
TextSays name said text = text_member name said ≡ Some (string_bytes text)

pub record LockNameSays (name : List ℕ) (said : Data) (lock : String Global) : Type 0 where
  pub text : text_member name said ≡ Some (string_bytes lock)
  pub is_name : is_name (string_bytes lock) ≡ true

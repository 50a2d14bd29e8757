-- The word that a kind and its numbers name, and the answers of the calls about words.
use Rattle.std.specs.Prelude.{◌≡◌, ◌≢◌, ◌⊎◌, ℕ, Option, Some, None, ◌==◌, if◌then◌else◌}
use Rattle.rme_words.specs.declared.shape.Shape.{Shape}
use Rattle.rme_words.specs.declared.address.Address.{Address}
use Rattle.rme_words.specs.declared.address.Address.TheVariants.{Begun, Done, Reply, Place, At, SlateLock, SlateLen, SlateWord, Node, Turn, Cell, Shadow, ShadowReply, Mask}
use Rattle.rme_words.specs.Words.{IsShapeAddress, word_number, word_count}
use Rattle.rme_process_abi.specs.Handles.{ShapeNumbers, AreShapeNumbers, HasShapeNumbers}

-- The kinds in the order of the addresses.
abbrev pub address_of_kind : ℕ → ℕ → ℕ → ℕ → Option Address
address_of_kind kind first second third =
    if kind == 0 then Some (Begun first)
    else if kind == 1 then Some (Done first)
    else if kind == 2 then Some (Reply first)
    else if kind == 3 then Some (Place first)
    else if kind == 4 then Some (At first)
    else if kind == 5 then Some (SlateLock first)
    else if kind == 6 then Some (SlateLen first)
    else if kind == 7 then Some (SlateWord first second third)
    else if kind == 8 then Some (Node first second)
    else if kind == 9 then Some (Turn first)
    else if kind == 10 then Some (Cell first second)
    else if kind == 11 then Some (Shadow first second)
    else if kind == 12 then Some (ShadowReply first)
    else if kind == 13 then Some (Mask first)
    else None

-- The address is one of the shape, with this number.
abbrev pub IsWordNumber : Shape → Option Address → ℕ → Type 0
IsWordNumber shape None number = ⊥
IsWordNumber shape (Some address) number = IsShapeAddress shape address × (number ≡ word_number shape address)

abbrev pub ShapeLacksWord : Shape → Option Address → Type 0
ShapeLacksWord shape None = Unit {0}
ShapeLacksWord shape (Some address) = IsShapeAddress shape address → ⊥

-- WORD: the number of the word (0), or there is no such shape (5) or no such word in it (103).
pub record AbiWordCall (numbers : ShapeNumbers) (address : Option Address) (before result after : ℕ) : Type 0 where
  pub answers : (result ≡ 0) ⊎ ((result ≡ 5) ⊎ (result ≡ 103))
  pub found : result ≡ 0
      → (shape : Shape) × HasShapeNumbers numbers shape × IsWordNumber shape address after
  pub bad_shape : result ≡ 5 → AreShapeNumbers numbers → ⊥
  pub no_word : result ≡ 103
      → (shape : Shape) × HasShapeNumbers numbers shape × ShapeLacksWord shape address
  pub unchanged : result ≢ 0 → after ≡ before

-- WORDS: the number of words (0), or there is no such shape (5).
pub record AbiWordCountCall (numbers : ShapeNumbers) (before result after : ℕ) : Type 0 where
  pub answers : (result ≡ 0) ⊎ (result ≡ 5)
  pub counted : result ≡ 0
      → (shape : Shape) × HasShapeNumbers numbers shape × (after ≡ word_count shape)
  pub bad_shape : result ≡ 5 → AreShapeNumbers numbers → ⊥
  pub unchanged : result ≢ 0 → after ≡ before

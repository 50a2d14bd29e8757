-- The compact text of a JSON value is read back as that value; of whole numbers, and of the items of lists.
use Rattle.std.proofs.Common.{◌≡◌, ℕ, ◌^◌, ◌<◌, ◌≤◌, List, [], ◌∷◌, ◌++◌, Bool, true, false, Some, option_and_then, refl, sym, ap, ◌∙◌, arith, append-nil}
use Rattle.std.specs.Str.{IsUtf8}
use Rattle.json.specs.Lex.{tokens}
use Rattle.json.specs.Json.{value, if_last}
use Rattle.json.specs.Tree.{json_tokens, HasNumbers, ItemsHaveNumbers, depth}
use Rattle.json.proofs.Printed.Tokens.{tokens-print}
use Rattle.json.proofs.Printed.Trees.{value-json_tokens, ArePrintable-json_tokens}
use Rattle.serde_json.specs.Data.{Data}
use Rattle.serde_json.specs.Read.{read, of_json, max_depth}
use Rattle.serde_json.specs.Written.{compact_text, outline}
use Rattle.serde_json.proofs.Texts.{print-outline}
use Rattle.std.proofs.Common.{suc, ◌<◌, length, get_or, decimal, option_map, ap₂, append_assoc}
use Rattle.std.proofs.lemmas.Fmt.{IsAscii-decimal}
use Rattle.std.proofs.lemmas.Str.{IsUtf8-append, IsUtf8-from_ascii, IsUtf8-nil}
use Rattle.json.specs.Tree.{items_depth}
use Rattle.json.proofs.Printed.Decimals.{IsNumber-decimal}
use Rattle.json.proofs.Printed.Utf8.{IsUtf8-are_ascii, are_ascii}
use Rattle.serde_json.specs.Data.{number, unsigned, Items, no_items, item}
use Rattle.serde_json.specs.Read.{of_items}
use Rattle.serde_json.specs.Written.{items_text, comma_if, items_outline}
use Rattle.serde_json.proofs.Numbers.{number_of-decimal}
use Rattle.rme_line_json.specs.Values.{json_value_of}
use Rattle.rme_line_json.proofs.ValueLemmas.{value_read}
use Rattle.rme_line_text.specs.Texts.{separated_text, comma_text}
use Rattle.rme_durable_format.specs.Headers.{AreItemsOf}

text_read : (d : Data) → HasNumbers (outline d) → depth (outline d) ≤ 127 → of_json (outline d) ≡ Some d → read (compact_text d) ≡ Some d
text_read d numbers shallow is =
    let j = outline d in
    let cut : tokens (compact_text d) ≡ json_tokens j = ap tokens (sym (print-outline d)) ∙ tokens-print (json_tokens j) (ArePrintable-json_tokens j numbers) in
    let parsed : value max_depth (tokens (compact_text d)) ≡ Some (j, []) = ap (value max_depth) (cut ∙ sym (append-nil (json_tokens j))) ∙ value-json_tokens j max_depth [] shallow in
    ap (λ o. option_and_then of_json (option_and_then (λ p. if_last p.0 p.1) o)) parsed ∙ is

-- A text is that of a value, which is read back from it.
pub record IsTextOf (deepest : ℕ) (d : Data) (text : List ℕ) : Type 0 where
  pub is : text ≡ compact_text d
  pub utf8 : IsUtf8 text
  pub numbers : HasNumbers (outline d)
  pub shallow : depth (outline d) ≤ deepest
  pub back : of_json (outline d) ≡ Some d

-- The line that has the text of a value has that value.
pub value_of_text : (deepest : ℕ) (d : Data) (text : List ℕ) → deepest ≤ 127 → IsTextOf deepest d text → json_value_of text ≡ Some d
value_of_text deepest d text few its = value_read text d its.utf8 (ap read its.is ∙ text_read d its.numbers (omega (arith, few, its.shallow)) its.back)

pub decimal_utf8 : (n : ℕ) → n < 2 ^ 64 → IsUtf8 (decimal n)
decimal_utf8 n few = IsUtf8-from_ascii (decimal n) (IsAscii-decimal n few)

pub then_utf8 : (front rest : List ℕ) → are_ascii front ≡ true → IsUtf8 rest → IsUtf8 (front ++ rest)
then_utf8 front rest plain utf8 = IsUtf8-append front rest (IsUtf8-are_ascii front plain) utf8

pub number_written : (n : ℕ) → n < 2 ^ 64 → IsTextOf 0 (number (unsigned n)) (decimal n)
number_written n few =
    record {
      is = refl;
      utf8 = decimal_utf8 n few;
      numbers = IsNumber-decimal n few;
      shallow = omega arith;
      back = ap (option_map number) (number_of-decimal n few);
    }

-- ---- the items of a list

abbrev pub items_of : {A : Type 0} → (A → Data) → List A → Items
items_of data_of [] = no_items
items_of data_of (x ∷ xs) = item (data_of x) (items_of data_of xs)

comma_same : (later : Bool) → comma_text later ≡ comma_if later
comma_same true = refl
comma_same false = refl

comma_utf8 : (later : Bool) → IsUtf8 (comma_text later)
comma_utf8 true = IsUtf8-are_ascii _ refl
comma_utf8 false = IsUtf8-nil

-- Each element's text is that of its value, and the value tells the element.
abbrev pub AreWritten : {A : Type 0} → (A → List ℕ) → (A → Data) → List A → Type 0
AreWritten text data_of [] = Unit {0}
AreWritten text data_of (x ∷ xs) = IsTextOf 1 (data_of x) (text x) × AreWritten text data_of xs

module _ {A : Type 0} (text : A → List ℕ) (data_of : A → Data) where
  pub written : (xs : List A) → ((x : A) → (k : ℕ) → k < length xs → get_or xs k x ≡ x → IsTextOf 1 (data_of x) (text x)) → AreWritten text data_of xs
  written [] each = tt
  written (x ∷ xs) each = (each x 0 (omega arith) refl, written xs (λ y k below is. each y (suc k) (omega arith) is))

  pub items_same : (later : Bool) (xs : List A) → AreWritten text data_of xs → separated_text text later xs ++ 93 ∷ [] ≡ items_text later (items_of data_of xs)
  items_same later [] all = refl
  items_same later (x ∷ xs) all =
      let rest = separated_text text true xs in
      append_assoc (comma_text later) (text x ++ rest) (93 ∷ []) ∙ ap₂ (λ (a b : List ℕ). a ++ b) (comma_same later)
      (append_assoc (text x) rest (93 ∷ []) ∙ ap₂ (λ (a b : List ℕ). a ++ b) all.0.is (items_same true xs all.1))

  pub items_utf8 : (later : Bool) (xs : List A) → AreWritten text data_of xs → IsUtf8 (separated_text text later xs)
  items_utf8 later [] all = IsUtf8-nil
  items_utf8 later (x ∷ xs) all = IsUtf8-append _ _ (comma_utf8 later) (IsUtf8-append _ _ all.0.utf8 (items_utf8 true xs all.1))

  pub items_numbers : (xs : List A) → AreWritten text data_of xs → ItemsHaveNumbers (items_outline (items_of data_of xs))
  items_numbers [] all = tt
  items_numbers (x ∷ xs) all = (all.0.numbers, items_numbers xs all.1)

  pub items_shallow : (xs : List A) → AreWritten text data_of xs → items_depth (items_outline (items_of data_of xs)) ≤ 1
  items_shallow [] all = omega arith
  items_shallow (x ∷ xs) all = omega (arith, all.0.shallow, items_shallow xs all.1)

  pub items_back : (xs : List A) → AreWritten text data_of xs → of_items (items_outline (items_of data_of xs)) ≡ Some (items_of data_of xs)
  items_back [] all = refl
  items_back (x ∷ xs) all = rw (all.0.back, items_back xs all.1) refl

  pub items_tell : (Tells : Data → A → Type 0) (xs : List A) → ((x : A) (k : ℕ) → k < length xs → get_or xs k x ≡ x → Tells (data_of x) x) → AreItemsOf Tells (items_of data_of xs) xs
  items_tell Tells [] each = tt
  items_tell Tells (x ∷ xs) each = (each x 0 (omega arith) refl, items_tell Tells xs (λ y k below is. each y (suc k) (omega arith) is))

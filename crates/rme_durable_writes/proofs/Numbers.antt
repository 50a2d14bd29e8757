-- A number behind a label and before a comma.
use Rattle.std.proofs.Common.{◌≡◌, ℕ, ◌+◌, ◌-◌, ◌^◌, ◌<◌, List, ◌∷◌, ◌++◌, Option, Some, length, take, drop, decimal, ap, subst, ◌∙◌}
use Rattle.std.proofs.lemmas.List.{take_rest}
use Rattle.std.proofs.Math.Seq.{drop-append_seam, drop-append-add, take-append_seam}
use Rattle.memchr.specs.Find.{IsFirstByte, is_byte}
use Rattle.rme_durable_writes.proofs.Marks.{comma_behind}

-- The bytes behind a label of this length, as a slice has them.
abbrev pub behind_label : List ℕ → List ℕ → List ℕ
behind_label bytes label = take (length bytes - length label) (drop (length label) bytes)

pub is_behind_label : (bytes label text : List ℕ) → bytes ≡ label ++ text → behind_label bytes label ≡ text
is_behind_label bytes label text is = take_rest bytes (length label) ∙ ap (λ (all : List ℕ). drop (length label) all) is ∙ drop-append_seam label text

module _ (bytes label rest : List ℕ) (n : ℕ) (small : n < 2 ^ 64) (is : bytes ≡ label ++ (decimal n ++ 44 ∷ rest)) where
  text_is : behind_label bytes label ≡ decimal n ++ 44 ∷ rest
  text_is = is_behind_label bytes label (decimal n ++ 44 ∷ rest) is

  pub end_found : (found : Option ℕ) → IsFirstByte (is_byte 44) (behind_label bytes label) found → found ≡ Some (length (decimal n))
  end_found found first = comma_behind n rest found small (subst (λ (all : List ℕ). IsFirstByte (is_byte 44) all found) text_is first)

  pub digits_found : (end : ℕ) → end ≡ length (decimal n) → take end (behind_label bytes label) ≡ decimal n
  digits_found end at = ap (λ (k : ℕ). take k (behind_label bytes label)) at ∙ ap (λ (all : List ℕ). take (length (decimal n)) all) text_is ∙ take-append_seam (decimal n) (44 ∷ rest)

  pub rest_found : (end : ℕ) → end ≡ length (decimal n) → drop (end + 1) (behind_label bytes label) ≡ rest
  rest_found end at =
      ap (λ (k : ℕ). drop (k + 1) (behind_label bytes label)) at ∙ ap (λ (all : List ℕ). drop (length (decimal n) + 1) all) text_is ∙ drop-append-add (decimal n) (44 ∷ rest) 1

-- The words of the table and the memory that they are.
use Rattle.std.proofs.Common.{◌≡◌, ◌≢◌, ℕ, zero, suc, List, [], ◌∷◌, length, refl, sym, ◌∙◌, ap, subst}
use Rattle.std.specs.Prelude.{slice_index, slice_set, ◌==◌}
use Rattle.std.proofs.lemmas.Bool.{eq-eqb, ne_eqb}
use prog.Atomic.{either}
use Rattle.rme_words.specs.declared.shape.Shape.{Shape}
use Rattle.rme_words.specs.declared.address.Address.{Address}
use Rattle.rme_words.specs.Words.{IsShapeAddress, word_number, read_word_at}
use Rattle.rme_words.proofs.Loads.{read_within, wrote_word}
use Rattle.rme_words.proofs.Places.{word_below}
use Rattle.rme_program.specs.declared.action.Action.{Action}
use Rattle.rme_program.specs.declared.action.Action.TheVariants.{Load, Store, Swap}
use Rattle.rme_program.specs.ActionEffects.{ActionEffect, action_address}
use Rattle.rme_service_steps.specs.Layout.{position_of_address, table_size, words_of_table}
use Rattle.rme_service_steps.specs.Rule.{table_memory}
use Rattle.rme_service_steps.specs.Steps.{value_of_action, value_found_in, words_after}
use Rattle.rme_service_steps.proofs.Positions.{bank_count, bank_index, bank_set}

-- A member written as it was leaves the list.
pub set_same : (words : List ℕ) (i : ℕ) → slice_set words i (slice_index words i) ≡ words
set_same [] i = refl
set_same (x ∷ words) zero = refl
set_same (x ∷ words) (suc i) = ap (λ (xs : List ℕ). x ∷ xs) (set_same words i)

module _ (s : Shape) (words : List ℕ) (long : length words ≡ table_size s) where
  -- The word of an address is what the memory reads there.
  pub found_read : (a : Address) → IsShapeAddress s a → slice_index words (position_of_address s a) ≡ table_memory s words a
  found_read a within = sym (bank_index s words (word_number s a) (word_below s a within)) ∙ sym (read_within s (words_of_table s words) a within)

  wrote_in : (a : Address) (v : ℕ) → IsShapeAddress s a → (new : List ℕ) → new ≡ slice_set words (position_of_address s a) v
      → ActionEffect (table_memory s words) (table_memory s new) (Store a v) v
  wrote_in a v within new is =
      let wrote = wrote_word s (words_of_table s words) a v (bank_count s words) within in
      let same : words_of_table s new ≡ slice_set (words_of_table s words) (word_number s a) v = ap (words_of_table s) is ∙ bank_set s words (word_number s a) v long (word_below s a within) in
      let P : List ℕ → Type 0 = λ (bank : List ℕ). ActionEffect (table_memory s words) (read_word_at s bank) (Store a v) v in
      subst P (sym same) wrote

  -- A word written as it was leaves all as it was.
  same_again : (a : Address) → IsShapeAddress s a → slice_set words (position_of_address s a) (slice_index words (position_of_address s a)) ≡ words
  same_again a within = set_same words (position_of_address s a)

  pub did_in : (action : Action) → IsShapeAddress s (action_address action)
      → ActionEffect (table_memory s words) (table_memory s (words_after s words action)) action (value_of_action action (value_found_in s words action))
  did_in (Load a) within = (found_read a within, ap (table_memory s) (same_again a within))
  did_in (Store a v) within = wrote_in a v within _ refl
  did_in (Swap a old new) within = (found_read a within, met, missed)
    where
      found : ℕ
      found = slice_index words (position_of_address s a)

      met : found ≡ old → ActionEffect (table_memory s words) (table_memory s (slice_set words (position_of_address s a) (either (found == old) new found))) (Store a new) new
      met e = wrote_in a new within _ (ap (λ (v : ℕ). slice_set words (position_of_address s a) v) (rw (eq-eqb found old e) refl))

      missed : found ≢ old → table_memory s (slice_set words (position_of_address s a) (either (found == old) new found)) ≡ table_memory s words
      missed n = ap (table_memory s) (ap (λ (v : ℕ). slice_set words (position_of_address s a) v) (rw (ne_eqb found old n) refl) ∙ same_again a within)

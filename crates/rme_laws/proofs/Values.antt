-- The values that a process found.
use Rattle.std.proofs.Common.{◌≡◌, ℕ, List, [], ◌∷◌, ◌++◌, refl}
use Rattle.rme_words.specs.declared.shape.Shape.{Shape}
use Rattle.rme_program.specs.declared.private.Private.{Private}
use Rattle.rme_program.specs.Conditions.{IsValidLoad}
use Rattle.rme_program.specs.Steps.{private_after}
use Rattle.rme_process_core.specs.Folds.{ValuesAccepted, private_after_values}

pub none_made : (shape : Shape) (private : Private) → private_after_values shape private [] ≡ private
unfolding private_after_values
none_made shape private = refl

-- One value more.
pub after_one_more : (shape : Shape) (private : Private) (values : List ℕ) (value : ℕ) → private_after_values shape private (values ++ value ∷ []) ≡ private_after shape (private_after_values shape private values) value
unfolding private_after_values
after_one_more shape private [] value = refl
after_one_more shape private (first ∷ values) value = after_one_more shape (private_after shape private first) values value

pub accepted_one_more : (shape : Shape) (private : Private) (values : List ℕ) (value : ℕ) → ValuesAccepted shape private values → IsValidLoad shape (private_after_values shape private values).stage value
    → ValuesAccepted shape private (values ++ value ∷ [])
unfolding private_after_values
accepted_one_more shape private [] value all one = (one, tt)
accepted_one_more shape private (first ∷ values) value all one = (all.0, accepted_one_more shape (private_after shape private first) values value all.1 one)

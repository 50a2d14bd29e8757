-- Where all values are accepted, none of them is damaged.
use Rattle.std.proofs.Common.{ℕ, zero, suc, ◌<◌, List, [], ◌∷◌, length, take, sym, subst, arith}
use Rattle.std.specs.Prelude.{slice_index}
use Rattle.rme_words.specs.declared.shape.Shape.{Shape}
use Rattle.rme_program.specs.declared.private.Private.{Private}
use Rattle.rme_program.specs.Conditions.{IsValidLoad}
use Rattle.rme_program.specs.Steps.{private_after}
use Rattle.rme_process_core.specs.Folds.{ValueDamaged, ValuesAccepted, private_after_values}
use Rattle.rme_process_core.specs.declared.flat.FlatNote.{FlatNote}

-- Each accepted value is one that its step may accept.
accepted_at : (shape : Shape) (private : Private) (values : List ℕ) (at : ℕ) → ValuesAccepted shape private values → at < length values
    → IsValidLoad shape (private_after_values shape private (take at values)).stage (slice_index values at)
unfolding private_after_values
accepted_at shape private [] at all there = absurd (omega (arith, there))
accepted_at shape private (value ∷ values) zero all there = all.0
accepted_at shape private (value ∷ values) (suc at) all there = accepted_at shape (private_after shape private value) values at all.1 (omega (arith, there))

pub accepted_undamaged : (shape : Shape) (old : Private) (values : List ℕ) (notes : List FlatNote) (new : Private) → ValuesAccepted shape old values → ValueDamaged shape old values notes new → ⊥
accepted_undamaged shape old values notes new all damaged =
    damaged.refused (subst (λ (p : Private). IsValidLoad shape p.stage (slice_index values damaged.at)) (sym damaged.before.leads) (accepted_at shape old values damaged.at all damaged.there))

use Rattle.std.proofs.Common.{List, ℕ, sym, ◌∙◌, ap, subst, ◌∷◌, [], replicate}
use Rattle.rme_service_steps.specs.Rule.{RecordsInvariant, opening_record}
use Rattle.rme_service_steps.proofs.Opened.{opens}
use Rattle.rme_service_steps.proofs.word_table.WordTable.new_table.Goals as goal

pub of_words-requires : goal.of_words-requires
of_words-requires c =
    subst (λ (words : List ℕ). RecordsInvariant c.args.shape words (opening_record c.args.shape ∷ []))
    (sym (c.as_slice.ensures.value ∙ c.in-Ok.ensures.items_if_clones_equal (λ y e. e) ∙ ap (λ (n : ℕ). replicate n 0) c.table_size.ensures)) (opens c.args.shape)

-- The turn of a lock whose owner is inside tells the number of its finished sections.
use Rattle.std.proofs.Common.{◌≡◌, ℕ, ◌/◌, ◌<◌, List, false, length, sym, ap, subst, ◌∙◌}
use Rattle.std.specs.Prelude.{Bool, Option, Some, not}
use Rattle.rme_words.specs.declared.address.Address.{Address}
use Rattle.rme_words.specs.declared.address.Address.TheVariants.{Turn}
use Rattle.rme_words.specs.declared.shape.Shape.{Shape}
use Rattle.rme_words.specs.Words.{read_word_at}
use Rattle.rme_tree.specs.Nodes.{owner_in}
use Rattle.rme_machine.specs.AbstractCells.{is_lock_settled}
use Rattle.rme_machine.specs.Histories.{history_of_lock}
use Rattle.rme_machine.specs.Views.{is_pending, worker_words}
use Rattle.rme_world.specs.WorldViews.{WorldView, world_abstract_state, world_memory}
use Rattle.rme_world.proofs.Looking.{finished_is, owned_settled}
use Rattle.rme_laws.specs.ProcessRuns.{FileState}
use Rattle.rme_laws.specs.ProcessSections.{IsInsideLock, SectionLaw}
use Rattle.rme_laws.proofs.Moves.{ShowsFile}
use Rattle.rme_laws.proofs.Runs.{world_shown}

half_turn : (shape : Shape) (state : FileState) (seen : WorldView) (worker lock : ℕ) → ShowsFile shape state seen → IsInsideLock shape state worker lock
    → read_word_at shape state.words (Turn lock) / 2 ≡ length (history_of_lock seen.history lock)
half_turn shape state seen worker lock shows inside =
    let below : lock < seen.shape.locks = subst (λ (s : Shape). lock < s.locks) (sym shows.file.shape_is) inside.within in
    let memory : world_memory seen ≡ read_word_at shape state.words = ap (λ (s : Shape). read_word_at s seen.words) shows.file.shape_is ∙ ap (λ (ws : List ℕ). read_word_at shape ws) shows.file.words_are in
    let owner : owner_in seen.shape (world_memory seen) lock ≡ Some worker
    = ap (λ (s : Shape). owner_in s (world_memory seen) lock) shows.file.shape_is ∙ (ap (λ (m : Address → ℕ). owner_in shape m lock) memory ∙ inside.owner) in
    let settled : is_lock_settled (world_abstract_state seen) lock ≡ false
    = owned_settled seen lock worker shows.kept below owner ∙ ap (λ (m : Address → ℕ). not (is_pending (worker_words m worker))) memory ∙ ap not inside.pending in
    ap (λ (m : Address → ℕ). m (Turn lock) / 2) (sym memory) ∙ finished_is seen lock shows.kept below false (sym settled)

pub section_law : SectionLaw
section_law shape start state moves worker lock fresh run inside =
    let there = world_shown shape start state moves fresh run in
    record { one = there.0; section = half_turn shape state there.0.world worker lock there.1 inside }

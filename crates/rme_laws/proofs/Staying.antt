-- An owner that only recovers remains the owner of its lock.
use Rattle.std.proofs.Common.{◌≡◌, ℕ, ◌<◌, List, [], ◌∷◌, refl, sym, ap, subst, ◌∙◌, inr}
use Rattle.std.specs.Prelude.{Option, Some, slice_get}
use Rattle.std.proofs.lemmas.Option.{same_Some}
use Rattle.rme_words.specs.declared.shape.Shape.{Shape}
use Rattle.rme_words.specs.Words.{read_word_at}
use Rattle.rme_tree.specs.Nodes.{owner_in}
use Rattle.rme_machine.specs.Theorems.{IsReachable}
use Rattle.rme_machine.proofs.Lists.{made_get}
use Rattle.rme_machine.proofs.Reached.{reentry}
use Rattle.rme_world.specs.Refinement.{IsRefinement}
use Rattle.rme_world.specs.WorldInvariants.{WorldInvariant}
use Rattle.rme_world.specs.WorldViews.{WorldView, world_abstract_state, world_memory, world_privates}
use Rattle.rme_world.proofs.Headline.{all_run, tables_of}
use Rattle.rme_world.proofs.Worlds.{kept_sound}
use Rattle.rme_laws.specs.InsideRuns.{InsideRun, OwnerStaysLaw, file_owner}
use Rattle.rme_laws.specs.ProcessRuns.{FileState, ProcessMove, move_events}
use Rattle.rme_laws.proofs.Leaving.{no_label_leaves}
use Rattle.rme_laws.proofs.Moves.{ShowsFile, move_leads}
use Rattle.rme_laws.proofs.Runs.{file_shows}

-- The owner by the words of the file is that of the world's abstract state.
owner_shown : (shape : Shape) (state : FileState) (seen : WorldView) (lock : ℕ) → ShowsFile shape state seen → lock < shape.locks → slice_get (world_abstract_state seen).owners lock ≡ Some (file_owner shape state lock)
owner_shown shape state seen lock shows within =
    let below : lock < seen.shape.locks = subst (λ (s : Shape). lock < s.locks) (sym shows.file.shape_is) within in
    made_get (λ (l : ℕ). owner_in seen.shape (world_memory seen) l) seen.shape.locks lock below
    ∙ ap (λ (s : Shape). Some (owner_in s (read_word_at s seen.words) lock)) shows.file.shape_is
    ∙ ap (λ (ws : List ℕ). Some (owner_in shape (read_word_at shape ws) lock)) shows.file.words_are

-- Each world's abstract state is one that a run reaches.
reached : (seen : WorldView) → WorldInvariant seen → IsReachable seen.shape (world_abstract_state seen)
reached seen kept = record {
  start = world_abstract_state seen;
  begins = inr (world_memory seen, world_privates seen, seen.history, kept.fact, refl);
  labels = [];
  run = refl;
}

stays : (shape : Shape) (old new : FileState) (moves : List ProcessMove) (seen : WorldView) (worker lock : ℕ) → ShowsFile shape old seen → lock < shape.locks → file_owner shape old lock ≡ Some worker
    → InsideRun shape worker old moves new → file_owner shape new lock ≡ Some worker
stays shape old new [] seen worker lock shows within owns run = subst (λ (s : FileState). file_owner shape s lock ≡ Some worker) (sym run) owns
stays shape old new (move ∷ moves) seen worker lock shows within owns (mid, made, recovers, others) =
    let one = move_leads shape old mid seen move shows made in
    let refines : IsRefinement seen (move_events move) one.answers one.world = all_run seen one.world (move_events move) one.answers (tables_of seen (kept_sound seen shows.kept)) one.applies in
    let none = no_label_leaves worker lock (move_events move) one.answers refines.told refines.are_labels (one.no_leave worker lock recovers) in
    let later = reentry.owned seen.shape (world_abstract_state seen) (world_abstract_state one.world) worker lock refines.told (reached seen shows.kept)
    (owner_shown shape old seen lock shows within ∙ ap (λ (o : Option ℕ). Some o) owns) refines.run none in
    stays shape mid new moves one.world worker lock one.shows within (same_Some _ _ (sym (owner_shown shape mid one.world lock one.shows within) ∙ later.1)) others

pub owner_stays_law : OwnerStaysLaw
owner_stays_law shape start old new before moves worker lock fresh run within owns inside =
    let here = file_shows shape start old before fresh run in
    stays shape old new moves here.0 worker lock here.1 within owns inside

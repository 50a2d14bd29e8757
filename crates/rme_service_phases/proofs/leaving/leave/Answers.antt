use Rattle.std.proofs.Common.{◌∙◌, ℕ, ap, refl, sym, arith}
use Rattle.rme_words.specs.declared.shape.Shape.{Shape}
use Rattle.rme_service_phases.proofs.Outcomes.{passed_on, ends_with}
use Rattle.rme_program.specs.Steps.{clear_stage}
use Rattle.rme_service_phases.proofs.Parts.{before_at}
use Rattle.rme_service_phases.proofs.Exits.{exit_stored, exit_lock, exit_may, exit_turn, even_ends, even_falls, odd_may, odd_falls, stored_ends, stored_falls}
use Rattle.rme_service_phases.proofs.leaving.leave.Goals as goal

pub turn_at-at-requires : goal.turn_at-at-requires
turn_at-at-requires g c = exit_lock _ _ _ c.requires.at _ c.shape-shape.ensures

pub load-requires-clause-may : goal.load-requires-clause-may
load-requires-clause-may g c = exit_may _ _ _ c.requires.at _ _ c.shape-shape.ensures c.turn_at-at.ensures

pub clear-requires-clause-lock : goal.clear-requires-clause-lock
clear-requires-clause-lock g c = exit_lock _ _ _ c.requires.at _ refl

pub returns-then-turn-eq0 : goal.returns-then-turn-eq0
returns-then-turn-eq0 g c = ends_with _ _ _ _ _ c.clear.ensures
    (λ x d. even_ends _ _ _ _ c.requires.at _ _ _ c.in_ok-turn.ensures _ _ c.if-turn-eq0.true _ (c.height.ensures ∙ ap (λ (y : Shape). y.height) c.shape-shape.ensures) d)
    (λ f. even_falls _ _ _ _ c.requires.at _ _ _ c.in_ok-turn.ensures _ _ c.if-turn-eq0.true _ (c.height.ensures ∙ ap (λ (y : Shape). y.height) c.shape-shape.ensures) f)

pub overflow_add-turn : goal.overflow_add-turn
overflow_add-turn g c = let few = exit_turn _ _ _ _ c.requires.at _ _ _ c.in_ok-turn.ensures in omega (arith, few)

pub store-requires-clause-may : goal.store-requires-clause-may
store-requires-clause-may g c = odd_may _ _ _ _ c.requires.at _ _ _ c.in_ok-turn.ensures c.if-turn-eq0.false _ _ c.shape-shape.ensures c.turn_at-at.ensures

pub returns-in_err-store : goal.returns-in_err-store
returns-in_err-store g c = passed_on _ _ _ c.from_residual-in_err-store.ensures.0 (odd_falls _ _ _ _ c.requires.at _ _ _ c.in_ok-turn.ensures c.if-turn-eq0.false _ _ c.in_err-store.ensures)

pub clear-requires-2-clause-at : goal.clear-requires-2-clause-at
clear-requires-2-clause-at g c =
    let stored = exit_stored _ _ _ _ c.requires.at _ _ _ c.in_ok-turn.ensures c.if-turn-eq0.false _ _ c.in_ok-store.ensures in
    before_at stored.at (ap (λ (k : ℕ). clear_stage c.args.lock k) (sym (c.height-2.ensures ∙ ap (λ (y : Shape). y.height) c.shape-shape.ensures)))

pub clear-requires-2-clause-lock : goal.clear-requires-2-clause-lock
clear-requires-2-clause-lock g c = exit_lock _ _ _ c.requires.at _ refl

pub returns : goal.returns
returns g c = ends_with _ _ _ _ _ c.clear-2.ensures
    (λ x d. stored_ends _ _ _ _ c.requires.at _ _ _ c.in_ok-turn.ensures c.if-turn-eq0.false _ _ c.in_ok-store.ensures _ _ _ (c.height-2.ensures ∙ ap (λ (y : Shape). y.height) c.shape-shape.ensures) d)
    (λ f. stored_falls _ _ _ _ c.requires.at _ _ _ c.in_ok-turn.ensures c.if-turn-eq0.false _ _ c.in_ok-store.ensures _ _ _ (c.height-2.ensures ∙ ap (λ (y : Shape). y.height) c.shape-shape.ensures) f)

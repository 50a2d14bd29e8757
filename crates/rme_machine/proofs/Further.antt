-- Further laws: the preconditions of a worker's step, the holder that blocks it, what a crashed worker knew, and which
-- workers hold no node.
use Rattle.std.proofs.Common.{◌≡◌, ◌≢◌, ℕ, refl, sym, ◌∙◌, subst}
use Rattle.std.specs.Prelude.{true, Some, ◌==◌, if◌then◌else◌}
use Rattle.std.proofs.lemmas.Bool.{eq-eqb, ne_eqb}
use Rattle.std.proofs.lemmas.Option.{same_Some}
use Rattle.rme_tree.proofs.Memory.{blocked_in}
use Rattle.rme_tree.specs.Nodes.{held_levels_in}
use Rattle.rme_program.specs.declared.private.Private.{Private}
use Rattle.rme_program.specs.declared.stage.Stage.{Stage}
use Rattle.rme_program.specs.declared.stage.Stage.TheVariants.{Resting, Recovering, Posting, Climbing, Logging, Copying, Leaving}
use Rattle.rme_program.specs.Steps.{private_after}
use Rattle.rme_machine.specs.Views.{worker_words, lock_words}
use Rattle.rme_machine.specs.Knowledge.{StageKnowledge, PrivateInvariant}
use Rattle.rme_machine.specs.AbstractState.{Privates}
use Rattle.rme_machine.specs.FurtherLaws.{PrivateOfShapeLaw, HeldNodeLaw, CrashedKnowledgeLaw, ReadyHoldsNoNodeLaw, ClausesLaw, is_ready_or_posting}
use Rattle.rme_machine.proofs.Kept.{private_kept}
use Rattle.rme_machine.proofs.Own_step.{own_step}
use Rattle.rme_machine.proofs.Clauses.{fact_good, good_fact}

pub fitting : PrivateOfShapeLaw
fitting s mem privs es w p fact worker was = ((fact.fits w p worker was).is, (fact.fits w p worker was).shaped)

pub blocking : HeldNodeLaw
blocking s mem privs es w p ascent fact worker was climbs taken =
    let fits = fact.fits w p worker was in
    let knows = rw climbs at fits.knows in
    let shaped = rw climbs at fits.shaped.stage in
    blocked_in s mem ascent.lock w ascent.held worker shaped.1 (fact.rooted ascent.lock shaped.0) knows.holds taken

-- One worker's private state is replaced, and the others stay.
with_private : Privates → ℕ → Private → Privates
with_private privs w p u = if u == w then Some p else privs u

there : (privs : Privates) (w : ℕ) (p : Private) → with_private privs w p w ≡ Some p
unfolding with_private
there privs w p = rw (eq-eqb w w refl) refl

elsewhere : (privs : Privates) (w u : ℕ) (p : Private) → u ≢ w → with_private privs w p u ≡ privs u
unfolding with_private
elsewhere privs w u p other = rw (ne_eqb u w other) refl

pub staying : CrashedKnowledgeLaw
staying s mem mem' privs es w p found u q fact worker was busy did fallen other down fits =
    let raised : Privates = with_private privs u q in
    let fact_raised = private_kept s mem privs raised es u (Some q) fact record { at = there privs u q; off = λ v apart. elsewhere privs u v q apart }
    (λ r e. let P : Private → Type 0 = λ (x : Private). PrivateInvariant s (worker_words mem u) (held_levels_in s mem u) (lock_words s mem) u x in subst P (same_Some q r e) fits) in
    let moved : Privates = with_private raised w (private_after s p found) in
    let goes = own_step s mem mem' raised moved es w p found fact_raised worker (elsewhere privs u w q (λ e. other (sym e)) ∙ was) busy did
    record { at = there raised w (private_after s p found); off = λ v apart. elsewhere raised w v (private_after s p found) apart } in
    goes.0.fits u q fallen (elsewhere raised w u (private_after s p found) other ∙ there privs u q)

pub idling : ReadyHoldsNoNodeLaw
idling s mem privs es w l p fact worker lock was none = by_stage p.stage none (fact.fits w p worker was).knows
  where
    by_stage : (stage : Stage) → is_ready_or_posting stage ≡ true → StageKnowledge s (worker_words mem w) (held_levels_in s mem w) (lock_words s mem) p.begun stage → held_levels_in s mem w l ≡ 0
    by_stage Resting h k = k.holds l lock
    by_stage (Recovering recovery) h k = cc
    by_stage (Posting slate) h k = k.0.holds l lock
    by_stage (Climbing ascent) h k = cc
    by_stage (Logging log) h k = cc
    by_stage (Copying redo) h k = cc
    by_stage (Leaving departure) h k = cc

pub clauses : ClausesLaw
clauses = record { clauses = fact_good; fact = good_fact }

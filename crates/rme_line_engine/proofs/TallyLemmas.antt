-- What a tally sees of one step.
use Rattle.std.proofs.Common.{◌≡◌, ℕ, ◌<◌, List, [], ◌∷◌, subst, sym, refl, arith}
use Rattle.std.proofs.lemmas.Option.{same_Some, slice_get_within}
use Rattle.rme_program.specs.declared.event.Answer.TheVariants as answer
use Rattle.rme_program.specs.declared.event.Event.TheVariants as event
use Rattle.rme_program.specs.declared.kinds.Phase.{Phase}
use Rattle.rme_program.specs.declared.kinds.Phase.TheVariants.{Recover, Post, Enter, Section, Exit}
use Rattle.rme_program.specs.declared.note.Note.{Note}
use Rattle.rme_machine.specs.declared.label.Label.{Label}
use Rattle.rme_machine.specs.declared.label.Label.TheVariants.{Of}
use Rattle.rme_machine.specs.Machine.{MachineStep, MachineRun, LabelStep}
use Rattle.rme_machine.specs.AbstractState.{act_of_note}
use Rattle.rme_history.specs.declared.tally.Tally.{Tally}
use Rattle.rme_history.specs.Tallies.{tally_of_phase}
use Rattle.rme_world.specs.Refinement.{EventsHaveLabels}
use Rattle.rme_world.proofs.Happening.{shown_long}
use Rattle.rme_world.specs.WorldViews.{WorldView, world_abstract_state}
use Rattle.rme_line_engine.specs.Tallies.{empty_tally}

tally_of : ℕ → ℕ → ℕ → ℕ → ℕ → Tally
tally_of a b c d e = record { recover = a; post = b; enter = c; section = d; exit = e }

zeros : (a b c d e : ℕ) → a ≡ 0 → b ≡ 0 → c ≡ 0 → d ≡ 0 → e ≡ 0 → tally_of a b c d e ≡ tally_of 0 0 0 0 0
zeros a b c d e p q r s t = rw (p, q, r, s, t) refl

-- a tally whose counts are all 0 is the empty tally
pub all_zero : (tally : Tally) → ((phase : Phase) → tally_of_phase tally phase ≡ 0) → tally ≡ empty_tally
unfolding tally_of
all_zero tally none = zeros tally.recover tally.post tally.enter tally.section tally.exit (none Recover) (none Post) (none Enter) (none Section) (none Exit)

-- ---- the worker of a step exists, since the machine's step names an existing worker

told_there : (old new : WorldView) (worker : ℕ) (note : Note) (told : List Label) → EventsHaveLabels (event.Step worker ∷ []) (answer.Stepped note ∷ []) told → MachineRun old.shape (world_abstract_state old) told (world_abstract_state new)
    → worker < old.shape.workers
told_there old new worker note [] are run = absurd are
told_there old new worker note (label ∷ told) (is, are) (mid, step, run) =
    let P : Label → Type 0 = λ l. LabelStep old.shape l (world_abstract_state old) mid in
    let does : MachineStep old.shape (act_of_note note) (world_abstract_state old) worker mid = subst P (sym (same_Some (Of worker (act_of_note note)) label is)) step in
    omega (arith, slice_get_within (world_abstract_state old).workers worker does.me does.is_me, shown_long old)

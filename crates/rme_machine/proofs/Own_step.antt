-- The law of each own step of a worker, from the laws of the stages.
use Rattle.std.proofs.Common.{◌≡◌, ◌≢◌, ℕ, ◌<◌, List, refl, sym, subst}
use Rattle.std.specs.Prelude.{Some}
use Rattle.rme_words.specs.declared.shape.Shape.{Shape}
use Rattle.rme_words.specs.declared.address.Address.{Address}
use Rattle.rme_program.specs.declared.note.Entry.{Entry}
use Rattle.rme_program.specs.declared.private.Private.{Private}
use Rattle.rme_program.specs.declared.stage.Stage.{Stage}
use Rattle.rme_program.specs.declared.stage.Stage.TheVariants.{Resting, Recovering, Posting, Climbing, Logging, Copying, Leaving}
use Rattle.rme_program.specs.ActionEffects.{ActionEffect}
use Rattle.rme_program.specs.Steps.{private_action, private_after, note_after}
use Rattle.rme_machine.specs.AbstractState.{Privates, act_of_note}
use Rattle.rme_machine.specs.Invariant.{Invariant}
use Rattle.rme_machine.specs.Changes.{PrivateChange, history_after}
use Rattle.rme_machine.specs.Laws.{RefinementStep, StepLaw, concrete_state}
use Rattle.rme_machine.proofs.Recovering.{recovering}
use Rattle.rme_machine.proofs.Posting.{posting}
use Rattle.rme_machine.proofs.Climbing.{climbing}
use Rattle.rme_machine.proofs.Logging.{logging}
use Rattle.rme_machine.proofs.Copying.{copying}
use Rattle.rme_machine.proofs.Leaving.{leaving}

-- The law for a private state of this worker at this stage.
StageLaw : Shape → (Address → ℕ) → (Address → ℕ) → Privates → Privates → List Entry → ℕ → ℕ → Private → Type 0
StageLaw s mem mem' privs privs' es w found p = privs w ≡ Some p → ActionEffect mem mem' (private_action s p) found → PrivateChange privs privs' w (Some (private_after s p found))
    → RefinementStep s (concrete_state mem privs es) (concrete_state mem' privs' (history_after es mem w (note_after s p found))) w (act_of_note (note_after s p found))

by_stage : (s : Shape) (mem mem' : Address → ℕ) (privs privs' : Privates) (es : List Entry) (w b found : ℕ) (stage : Stage)
    → Invariant s mem privs es → w < s.workers → stage ≢ Resting → StageLaw s mem mem' privs privs' es w found record { worker = w; begun = b; stage = stage }
unfolding StageLaw
by_stage s mem mem' privs privs' es w b found Resting fact worker busy = absurd (busy refl)
by_stage s mem mem' privs privs' es w b found (Recovering recovery) fact worker busy = recovering s mem mem' privs privs' es w b recovery found fact worker
by_stage s mem mem' privs privs' es w b found (Posting slate) fact worker busy = posting s mem mem' privs privs' es w b slate found fact worker
by_stage s mem mem' privs privs' es w b found (Climbing ascent) fact worker busy = climbing s mem mem' privs privs' es w b ascent found fact worker
by_stage s mem mem' privs privs' es w b found (Logging log) fact worker busy = logging s mem mem' privs privs' es w b log found fact worker
by_stage s mem mem' privs privs' es w b found (Copying redo) fact worker busy = copying s mem mem' privs privs' es w b redo found fact worker
by_stage s mem mem' privs privs' es w b found (Leaving departure) fact worker busy = leaving s mem mem' privs privs' es w b departure found fact worker

-- Each own step preserves the invariant and is the machine step of its note.
pub own_step : StepLaw
unfolding StageLaw
own_step s mem mem' privs privs' es w p found fact worker was busy did became =
    by_own (fact.fits w p worker was).is was did became
  where
    by_own : p.worker ≡ w → StageLaw s mem mem' privs privs' es w found p
    by_own e = let Q : ℕ → Type 0 = λ (v : ℕ). StageLaw s mem mem' privs privs' es w found record { worker = v; begun = p.begun; stage = p.stage } in
        subst Q (sym e) (by_stage s mem mem' privs privs' es w p.begun found p.stage fact worker busy)

use Rattle.std.proofs.Common.{refl, sym, ◌∙◌}
use Rattle.rme_core_checker.proofs.Deciding.{takes, refuses}
use Rattle.rme_core_checker.proofs.machine.Machine.admits.Goals as goal

pub returns-in_default-clause-decided : goal.returns-in_default-clause-decided
returns-in_default-clause-decided c = rw (← c.event_label.ensures, c.in_default.is) (refl, refl)

pub returns-in_default-label-clause-decided : goal.returns-in_default-label-clause-decided
returns-in_default-label-clause-decided c = rw (← c.event_label.ensures, c.in-Some.is, c.in_default-label.is) refl

pub returns-then-not-is_step_admitted-clause-decided : goal.returns-then-not-is_step_admitted-clause-decided
returns-then-not-is_step_admitted-clause-decided c =
    rw (← c.event_label.ensures, c.in-Some.is, c.in-Of.is) (refl, refuses _ _ _ _ (sym c.is_step_admitted.ensures ∙ c.if-not-is_step_admitted.true))

pub returns-clause-decided : goal.returns-clause-decided
returns-clause-decided c =
    rw (← c.event_label.ensures, c.in-Some.is, c.in-Of.is) (takes _ _ _ _ _ (sym c.is_step_admitted.ensures ∙ c.if-not-is_step_admitted.false) c.in_ok-apply_step.ensures.taken)

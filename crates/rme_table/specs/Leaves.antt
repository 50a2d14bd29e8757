-- The invariant of a Leave: the step of Exit before which the worker is.
use Rattle.std.specs.Prelude.{ℕ}
use Rattle.rme_program.specs.declared.stage.Stage.{Stage}
use Rattle.rme_program.specs.declared.stage.Stage.TheVariants.{Leaving}
use Rattle.rme_program.specs.declared.stage.Departure.TheVariants.{LoadExitTurn, Clear}
use Rattle.rme_service_steps.specs.SeatViews.{SeatView}
use Rattle.rme_service_steps.specs.CallSteps.{PartIsAtStage}
use Rattle.rme_table.specs.declared.exit_form.ExitForm.{ExitForm}
use Rattle.rme_table.specs.declared.exit_form.ExitForm.TheVariants.{Whole, Partial}

abbrev pub stage_of_exit_form : ℕ → ExitForm → Stage
stage_of_exit_form lock Whole = Leaving (LoadExitTurn lock)
stage_of_exit_form lock (Partial level) = Leaving (Clear lock level)

abbrev pub LeaveInvariant : SeatView → ℕ → ℕ → ExitForm → Type 0
LeaveInvariant stand begun lock way = PartIsAtStage stand.ident.shape stand.part begun (stage_of_exit_form lock way)

-- The effect of a change of the checker state on the machine's state.
use Rattle.std.proofs.Common.{◌≡◌, ℕ, List, Option, ap}
use Rattle.std.specs.Prelude.{Result, IfOk}
use Rattle.std.proofs.lemmas.Result.{IfOk-weaker}
use Rattle.rme_machine.specs.Machine.{MachineState}
use Rattle.rme_core_checker.specs.Views.{CheckerStateView}

-- The machine state of these owners and a checker state.
abbrev pub state_of : List (Option ℕ) → CheckerStateView → MachineState
state_of owners checker_state = record { owners = owners; workers = checker_state.workers; history = checker_state.history }

pub taken_by : {T E : Type 0} (r : Result T E) (owners : List (Option ℕ)) (new next : CheckerStateView) → IfOk r (λ _. new ≡ next) → IfOk r (λ _. state_of owners new ≡ state_of owners next)
taken_by r owners new next = IfOk-weaker r (λ _. new ≡ next) (λ _. state_of owners new ≡ state_of owners next) (λ _ same. ap (λ (checker_state : CheckerStateView). state_of owners checker_state) same)

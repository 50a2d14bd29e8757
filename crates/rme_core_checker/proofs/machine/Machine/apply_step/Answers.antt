use Rattle.std.proofs.Common.{◌≡◌, true}
use Rattle.rme_machine.specs.Machine.{MachineState}
use Rattle.rme_core_checker.specs.Deciding.{is_step_admitted}
use Rattle.rme_core_checker.proofs.Deciding.{may_within, may_brings, no_withdrawal}
use Rattle.rme_core_checker.proofs.Taking.{state_of, taken_by}
use Rattle.rme_core_checker.proofs.machine.Machine.apply_step.Goals as goal

pub change-requires-in_default : goal.change-requires-in_default
change-requires-in_default c =
    let old : MachineState = state_of c.self.inside.owners.items c.self.inside.checker_state in
    let allowed : is_step_admitted c.self.inside.checker_state.shape c.args.act.now old c.args.worker ≡ true = rw (← c.self.view_is) at c.requires in
    record {
      worker = may_within c.self.inside.checker_state.shape c.args.act.now old c.args.worker allowed;
      withdrawal = no_withdrawal c.args.act.now c.in_default.not-Withdraw;
      brings = may_brings c.self.inside.checker_state.shape c.args.act.now old c.args.worker allowed;
    }

pub returns-in-Finish-clause-taken : goal.returns-in-Finish-clause-taken
returns-in-Finish-clause-taken c =
    rw (← c.self.view_is, c.in-Finish.is) (λ me is_me. taken_by _ c.self.inside.owners.items _ _ (c.finish.ensures.finished me is_me))

pub returns-in-Withdraw-clause-taken : goal.returns-in-Withdraw-clause-taken
returns-in-Withdraw-clause-taken c =
    rw (← c.self.view_is, c.in-Withdraw.is) (λ me is_me. taken_by _ c.self.inside.owners.items _ _ (c.withdraw.ensures.withdrawn me is_me))

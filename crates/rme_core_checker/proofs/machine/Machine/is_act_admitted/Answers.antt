use Rattle.std.proofs.Common.{◌≡◌, Some, slice_get, sym, ◌∙◌}
use Rattle.rme_core_checker.proofs.machine.Machine.is_act_admitted.Goals as goal

pub returns-then-has_entered : goal.returns-then-has_entered
returns-then-has_entered c =
    let is_me : slice_get c.self.inside.checker_state.workers c.args.worker ≡ Some c.args.me.now = rw (← c.self.view_is) at c.requires in
    rw (c.in-Finish.is, sym c.is_up-2.ensures ∙ c.if-not-is_up.false, sym c.has_entered.ensures ∙ c.if-has_entered.true, ← c.self.view_is)
    (c.is_section_receipt.ensures c.args.me.now is_me)

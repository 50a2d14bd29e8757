use Rattle.std.proofs.Common.{sym, ◌∙◌, ap}
use Rattle.rme_table.proofs.Leavings.{clear_before, clear_lock, clear_levels, left_whole, left_level, left_fell, left_knows, left_rests, left_made}
use Rattle.rme_table.proofs.kinds.Leave.exit.Goals as goal
use Rattle.rme_table.proofs.kinds.Leave.exit.Goals.{in-Whole, in-Partial}

pub clear-left-requires-clause-at : goal.clear-left-requires-clause-at
clear-left-requires-clause-at g c = clear_before _ _ _ _ _ _ _ c.self.view_is c.requires.ours c.service.view_is c.self.invariant _ c.in-Partial.is

pub clear-left-requires-clause-levels : goal.clear-left-requires-clause-levels
clear-left-requires-clause-levels g c = clear_levels _ _ _ _ _ _ _ c.self.view_is c.requires.ours c.service.view_is c.self.invariant _ c.in-Partial.is

pub clear-left-requires-clause-lock : goal.clear-left-requires-clause-lock
clear-left-requires-clause-lock g c = clear_lock _ _ _ _ _ _ _ c.self.view_is c.requires.ours c.service.view_is c.self.invariant _ c.in-Partial.is

pub returns-then-is_err-clause-made : goal.returns-then-is_err-clause-made
returns-then-is_err-clause-made g c = elim c.match-way.branch [
  | in-Whole w ↦ left_fell c.args.self c.match-way.seat c.args.service.now _ _ _ c.match-way.left
      (left_whole _ _ _ _ _ _ _ c.self.view_is c.requires.ours c.service.view_is c.self.invariant _ _ _ _ _ _ _ w.seat-is (ap g.C.Chance.tally w.chance-is) w.left-is w.leave-left.ensures) (sym c.is_err.ensures.value ∙ c.if-is_err.true)
  | in-Partial w ↦ left_fell c.args.self c.match-way.seat c.args.service.now _ _ _ c.match-way.left
      (left_level _ _ _ _ _ _ _ c.self.view_is c.requires.ours c.service.view_is c.self.invariant _ _ _ _ _ _ _ w.seat-is (ap g.C.Chance.tally w.chance-is) w.left-is _ w.in-Partial.is w.clear-left.ensures) (sym c.is_err.ensures.value ∙ c.if-is_err.true)
]

pub invariant_of-result : goal.invariant_of-result
invariant_of-result g c = elim c.match-way.branch [
  | in-Whole w ↦ left_rests c.args.self c.match-way.seat c.args.service.now _ _ _ c.match-way.left c.requires.ours
      (left_whole _ _ _ _ _ _ _ c.self.view_is c.requires.ours c.service.view_is c.self.invariant _ _ _ _ _ _ _ w.seat-is (ap g.C.Chance.tally w.chance-is) w.left-is w.leave-left.ensures) (sym c.is_err.ensures.value ∙ c.if-is_err.false)
  | in-Partial w ↦ left_rests c.args.self c.match-way.seat c.args.service.now _ _ _ c.match-way.left c.requires.ours
      (left_level _ _ _ _ _ _ _ c.self.view_is c.requires.ours c.service.view_is c.self.invariant _ _ _ _ _ _ _ w.seat-is (ap g.C.Chance.tally w.chance-is) w.left-is _ w.in-Partial.is w.clear-left.ensures) (sym c.is_err.ensures.value ∙ c.if-is_err.false)
]

pub returns-clause-made : goal.returns-clause-made
returns-clause-made g c = elim c.match-way.branch [
  | in-Whole w ↦ left_made c.args.self c.match-way.seat c.args.service.now _ _ _ c.match-way.left
      (left_whole _ _ _ _ _ _ _ c.self.view_is c.requires.ours c.service.view_is c.self.invariant _ _ _ _ _ _ _ w.seat-is (ap g.C.Chance.tally w.chance-is) w.left-is w.leave-left.ensures) (sym c.is_err.ensures.value ∙ c.if-is_err.false)
  | in-Partial w ↦ left_made c.args.self c.match-way.seat c.args.service.now _ _ _ c.match-way.left
      (left_level _ _ _ _ _ _ _ c.self.view_is c.requires.ours c.service.view_is c.self.invariant _ _ _ _ _ _ _ w.seat-is (ap g.C.Chance.tally w.chance-is) w.left-is _ w.in-Partial.is w.clear-left.ensures) (sym c.is_err.ensures.value ∙ c.if-is_err.false)
]

pub returns-clause-knows : goal.returns-clause-knows
returns-clause-knows g c = elim c.match-way.branch [
  | in-Whole w ↦ left_knows c.args.self c.match-way.seat c.args.service.now _ _ _ c.match-way.left
      (left_whole _ _ _ _ _ _ _ c.self.view_is c.requires.ours c.service.view_is c.self.invariant _ _ _ _ _ _ _ w.seat-is (ap g.C.Chance.tally w.chance-is) w.left-is w.leave-left.ensures) (sym c.is_err.ensures.value ∙ c.if-is_err.false)
  | in-Partial w ↦ left_knows c.args.self c.match-way.seat c.args.service.now _ _ _ c.match-way.left
      (left_level _ _ _ _ _ _ _ c.self.view_is c.requires.ours c.service.view_is c.self.invariant _ _ _ _ _ _ _ w.seat-is (ap g.C.Chance.tally w.chance-is) w.left-is _ w.in-Partial.is w.clear-left.ensures) (sym c.is_err.ensures.value ∙ c.if-is_err.false)
]

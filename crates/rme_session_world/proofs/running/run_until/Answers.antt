use Rattle.std.proofs.Common.{refl, sym, subst, ◌∙◌, arith}
use Rattle.std.specs.Prelude.{Bool}
use Rattle.rme_session_protocol.specs.PlannedCrashes.{CountdownTick}
use Rattle.rme_session_world.specs.WorkerRuns.{RunUntilStep}
use Rattle.rme_session_world.proofs.Planning.{runs_first, runs_on}
use Rattle.rme_session_world.proofs.Walking.{falls, left_small, may_step, no_walk, then_up, walk_on}
use Rattle.rme_session_world.proofs.running.run_until.Goals as goal
use Rattle.rme_session_world.proofs.running.run_until.Goals.{In-Ok, then-has_reached_goal, else-has_reached_goal+then-tick, else-has_reached_goal+else-tick+then-would_block}

-- The step that was made.
moves : (c : In-Ok) → RunUntilStep c.args.goal c.args.worker c.loop-goal.world c.step.new.self
moves c = record {
  private = c.has_reached_goal.ensures.there.0;
  found = c.has_reached_goal.ensures.there.1;
  away = sym c.has_reached_goal.ensures.there.2 ∙ c.if-has_reached_goal.false;
  free = c.would_block.ensures.free c.if-would_block.false;
  note = c.in-Ok.field-0;
  stepped = c.in-Ok.ensures;
}

pub loop-goal-init : goal.loop-goal-init
loop-goal-init c = (c.requires.up, no_walk c.args.goal c.args.worker c.args.world.now, runs_first c.args.planned, λ kept. omega (arith, left_small c.args.world.now c.args.worker kept c.requires.up))

pub loop-goal-smaller : goal.loop-goal-smaller
loop-goal-smaller c = falls c.args.goal c.args.worker c.loop-goal.world c.step.new.self c.has_reached_goal.ensures.kept (moves c)

pub loop-goal-preserved : goal.loop-goal-preserved
loop-goal-preserved c = (
  then_up c.args.goal c.args.worker c.loop-goal.world c.step.new.self c.has_reached_goal.ensures.kept (moves c),
  walk_on c.args.goal c.args.worker c.args.world.now c.loop-goal.world c.step.new.self c.loop-goal.steps _ refl c.loop-goal.invariant.1 (moves c),
  runs_on c.args.planned c.loop-goal.steps _ c.loop-goal.countdown c.tick.new.self refl c.loop-goal.invariant.2 (subst (λ (b : Bool). CountdownTick c.loop-goal.countdown b c.tick.new.self) c.if-tick.false c.tick.ensures),
  λ kept. omega (arith, falls c.args.goal c.args.worker c.loop-goal.world c.step.new.self c.has_reached_goal.ensures.kept (moves c), c.loop-goal.invariant.3 c.has_reached_goal.ensures.kept),
)

pub unreachable-requires : goal.unreachable-requires
unreachable-requires c =
    may_step c.args.goal c.args.worker c.loop-goal.world c.has_reached_goal.ensures.there.0 c.in-Err.field-0 c.has_reached_goal.ensures.there.1 (sym c.has_reached_goal.ensures.there.2 ∙ c.if-has_reached_goal.false) c.in-Err.ensures.refused

pub returns-clause-end : goal.returns-clause-end
returns-clause-end c = elim c.if-has_reached_goal.branch [
  | then-has_reached_goal w ↦ rw w.end-is (c.has_reached_goal.ensures.there.0, c.has_reached_goal.ensures.there.1, sym c.has_reached_goal.ensures.there.2 ∙ w.if-has_reached_goal.true)
  | else-has_reached_goal+then-tick w ↦ rw w.end-is tt
  | else-has_reached_goal+else-tick+then-would_block w ↦ rw w.end-is (w.would_block.ensures.stopped w.if-would_block.true)
]

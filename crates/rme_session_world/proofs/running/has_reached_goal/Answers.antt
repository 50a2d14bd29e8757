use Rattle.std.proofs.Common.{◌≡◌, ap, sym, ◌∙◌}
use Rattle.std.specs.Prelude.{ℕ, Some, option_map, slice_get}
use Rattle.std.proofs.lemmas.Option.{none-some, same_Some}
use Rattle.rme_program.specs.declared.private.Private.{Private}
use Rattle.rme_program.specs.Phases.{phase_of}
use Rattle.rme_world.specs.Queries.{world_phase}
use Rattle.rme_world.specs.WorldViews.{WorldView}
use Rattle.rme_world.proofs.Worlds.{up_at}
use Rattle.rme_session_world.specs.WorkerRuns.{is_goal_reached}
use Rattle.rme_session_world.proofs.running.has_reached_goal.Goals as goal

-- The phase of a worker that is up.
phase_up : (seen : WorldView) (worker : ℕ) (private : Private) → slice_get seen.privates worker ≡ Some (Some private) → world_phase seen worker ≡ Some (phase_of private.stage)
phase_up seen worker private up = ap (option_map (λ (known : Private). phase_of known.stage)) (up_at seen worker (Some private) up)

pub unreachable-requires : goal.unreachable-requires
unreachable-requires c = none-some _ (sym c.in-None.is ∙ c.phase.ensures.phase ∙ phase_up c.args.world.now c.args.worker c.requires.up.0 c.requires.up.1)

pub returns-clause-there : goal.returns-clause-there
returns-clause-there c =
    (c.requires.up.0, c.requires.up.1, c.is_reached.ensures ∙ ap (is_goal_reached c.args.goal) (same_Some _ _ (sym c.in-Some.is ∙ c.phase.ensures.phase ∙ phase_up c.args.world.now c.args.worker c.requires.up.0 c.requires.up.1)))

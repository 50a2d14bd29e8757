use Rattle.std.proofs.Common.{refl}
use Rattle.rme_world.proofs.Calls.{refused_run, step_run}
use Rattle.rme_world.proofs.Looking.{owns_in_section}
use Rattle.rme_world.proofs.Returns.{comes_back, gives_up}
use Rattle.rme_world.proofs.Telling.{stands, stopped, comes_on, keeps_bound, posts, reenters, finishes}
use Rattle.rme_world.proofs.Worlds.{step_kept}
use Rattle.rme_world.proofs.world.World.step_with_report.Goals as goal

pub returns-in-Err-clause-stepped : goal.returns-in-Err-clause-stepped
returns-in-Err-clause-stepped c = record {
  accepted = tt;
  refused = c.in-Err.ensures.refused;
  unchanged = refl;
  headline = refused_run _ _ _ c.may_step.ensures.kept;
  row = tt;
  blocked = tt;
  comes_on = tt;
  bound = tt;
  posted = tt;
  section = tt;
  reentry = tt;
  comes_back = tt;
  owns = tt;
  withdrew = tt;
}

pub returns-clause-stepped : goal.returns-clause-stepped
returns-clause-stepped c = record {
  accepted = c.execute_step-note.ensures.steps;
  refused = tt;
  unchanged = tt;
  headline = step_run _ _ _ _ c.may_step.ensures.kept c.execute_step-note.ensures.steps;
  row = stands _ _ _ _ c.may_step.ensures.kept c.execute_step-note.ensures.steps;
  blocked = stopped _ _ _ _ c.may_step.ensures.kept c.execute_step-note.ensures.steps;
  comes_on = comes_on _ _ _ _ c.may_step.ensures.kept c.execute_step-note.ensures.steps;
  bound = keeps_bound _ _ _ _ c.may_step.ensures.kept c.execute_step-note.ensures.steps;
  posted = posts _ _ _ _ c.may_step.ensures.kept c.execute_step-note.ensures.steps;
  section = finishes _ _ _ _ c.may_step.ensures.kept c.execute_step-note.ensures.steps;
  reentry = reenters _ _ _ _ c.may_step.ensures.kept c.execute_step-note.ensures.steps;
  comes_back = comes_back _ _ _ _ c.may_step.ensures.kept c.execute_step-note.ensures.steps;
  owns = owns_in_section _ _ (step_kept _ _ _ _ c.execute_step-note.ensures.steps c.may_step.ensures.kept);
  withdrew = gives_up _ _ _ _ c.may_step.ensures.kept c.execute_step-note.ensures.steps;
}

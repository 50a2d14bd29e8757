use Rattle.std.proofs.Common.{inl, inr, refl, subst}
use Rattle.rme_session_world.specs.WorkerRuns.{IsRunEnd, PlanAfterRun}
use Rattle.rme_session_world.specs.declared.running.RunEnd.{RunEnd}
use Rattle.rme_session_world.specs.declared.running.RunEnd.TheVariants.{There, Stopped, Fallen}
use Rattle.rme_session_world.proofs.work.continue_job.Goals as goal

pub returns-in-Fallen : goal.returns-in-Fallen
returns-in-Fallen c = record {
  went = record {
    begun = c.recall_invariant.ensures;
    mid = c.run_until-walk.new.world;
    walks = c.run_until-walk.ensures.walks;
    kept = c.run_until-walk.ensures.kept;
    up = c.run_until-walk.ensures.up;
    end = Fallen;
    is_end = tt;
    spent = subst (λ (e : RunEnd). PlanAfterRun c.args.planned c.run_until-walk.result.steps e c.run_until-walk.result.left) c.in-Fallen.is c.run_until-walk.ensures.plan;
    ends = (refl, c.crash_worker.ensures.fell, c.crash_worker.ensures.crashed);
  };
}

pub returns-in-There : goal.returns-in-There
returns-in-There c = elim c.in-There.is [
  | inl there ↦ record {
    went = record {
      begun = c.recall_invariant.ensures;
      mid = c.run_until-walk.new.world;
      walks = c.run_until-walk.ensures.walks;
      kept = c.run_until-walk.ensures.kept;
      up = c.run_until-walk.ensures.up;
      end = There;
      is_end = subst (λ (e : RunEnd). IsRunEnd c.args.goal c.args.worker c.run_until-walk.new.world e) there c.run_until-walk.ensures.end;
      spent = subst (λ (e : RunEnd). PlanAfterRun c.args.planned c.run_until-walk.result.steps e c.run_until-walk.result.left) there c.run_until-walk.ensures.plan;
      ends = (refl, c.session_outcome.ensures, refl);
    };
  }
  | inr stopped ↦ record {
    went = record {
      begun = c.recall_invariant.ensures;
      mid = c.run_until-walk.new.world;
      walks = c.run_until-walk.ensures.walks;
      kept = c.run_until-walk.ensures.kept;
      up = c.run_until-walk.ensures.up;
      end = Stopped;
      is_end = subst (λ (e : RunEnd). IsRunEnd c.args.goal c.args.worker c.run_until-walk.new.world e) stopped c.run_until-walk.ensures.end;
      spent = subst (λ (e : RunEnd). PlanAfterRun c.args.planned c.run_until-walk.result.steps e c.run_until-walk.result.left) stopped c.run_until-walk.ensures.plan;
      ends = (refl, c.session_outcome.ensures, refl);
    };
  }
]

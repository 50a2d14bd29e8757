-- A worker that is ready, and a job that it may post.
use Rattle.std.specs.Prelude.{◌≡◌, ℕ, ◌<◌, None}
use Rattle.rme_words.specs.declared.shape.Shape.{Shape}
use Rattle.rme_script.specs.declared.job.Job.{Job}
use Rattle.rme_script.specs.Jobs.{IsJob}
use Rattle.rme_service_steps.specs.SeatViews.{SeatView}
use Rattle.rme_script.specs.JobRefusals.{job_refusal}

pub record Admission : Type 0 where
  pub ready : SeatView
  pub job : Job

-- A worker that has begun this number of jobs may post this one: it is not refused.
pub record PostIsAllowed (shape : Shape) (begun : ℕ) (job : Job) : Type 0 where
  pub good : IsJob shape job
  pub few : begun < shape.jobs
  pub none : job_refusal shape begun job ≡ None

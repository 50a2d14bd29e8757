-- Which jobs a shape allows.
use Rattle.std.specs.Prelude.{◌<◌}
use Rattle.rme_words.specs.declared.shape.Shape.{Shape}
use Rattle.rme_script.specs.declared.job.Job.{Job}
use Rattle.rme_script.specs.Scripts.{IsScript}

-- A job is of the shape if its lock is one of the shape's and its script fits the shape's cells.
pub record IsJob (shape : Shape) (job : Job) : Type 0 where
  pub lock : job.lock < shape.locks
  pub script : IsScript shape.cells job.script

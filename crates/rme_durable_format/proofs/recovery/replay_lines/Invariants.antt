-- A state to which the remaining lines lead is one to which all lines lead; each iteration reads one line and counts
-- it.
use Rattle.rme_line_io.specs.Readers.{bytes_left, most_lines}
use Rattle.rme_line_engine.specs.Engines.{engine_state_of}
use Rattle.rme_durable_format.proofs.Leading.{Leads}
use Rattle.rme_durable_format.proofs.Living.{LivesLead}
use Rattle.rme_durable_format.proofs.Stopping.{HasRead}
use Rattle.rme_durable_format.proofs.recovery.replay_lines.Given as goal

abbrev pub invariant-loop-nobody : goal.invariant-loop-nobody
invariant-loop-nobody g l = record {
  leads : Leads (bytes_left g.R.Source.remaining l.fn.reader) (engine_state_of l.fn.engine) (bytes_left g.R.Source.remaining l.reader) (engine_state_of l.engine);
  lives : LivesLead (bytes_left g.R.Source.remaining l.fn.reader) (engine_state_of l.fn.engine) l.fn.lives.items (bytes_left g.R.Source.remaining l.reader) (engine_state_of l.engine) l.lives.items;
  read : HasRead (bytes_left g.R.Source.remaining l.fn.reader) (engine_state_of l.fn.engine) (bytes_left g.R.Source.remaining l.reader) (engine_state_of l.engine) l.count;
}

abbrev pub decreases-loop-nobody : goal.decreases-loop-nobody
decreases-loop-nobody g l = most_lines l.reader

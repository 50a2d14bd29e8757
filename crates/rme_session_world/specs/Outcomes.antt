-- The outcome of a job, from the world and the session view of its worker afterwards.
use Rattle.rme_session_protocol.specs.SessionSteps.{last_outcome}
use Rattle.rme_session_protocol.specs.declared.view.Session.{Session}
use Rattle.rme_session_protocol.specs.declared.view.Session.TheVariants.{Nobody, Ready, Climb, Held}
use Rattle.rme_session_protocol.specs.declared.reply.JobOutcome.{JobOutcome}
use Rattle.rme_session_protocol.specs.declared.reply.JobOutcome.TheVariants as outcome
use Rattle.rme_world.specs.WorldViews.{WorldView}
use Rattle.rme_session_world.specs.FencingTokens.{fencing_token}

abbrev pub session_outcome : WorldView → Session → JobOutcome
session_outcome seen Nobody = outcome.Fell
session_outcome seen (Ready ready) = last_outcome ready.last
session_outcome seen (Climb pending) = outcome.Waiting
session_outcome seen (Held pending) = outcome.Inside (fencing_token seen pending)

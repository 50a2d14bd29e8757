use Rattle.rme_laws.proofs.Events.{alike_itself, all_happen}
use Rattle.rme_laws.proofs.server_laws.events_are_deterministic.Goals as goal

pub returns : goal.returns
returns c old one other events first second = all_happen events first.0 second.0 old old one other (alike_itself old) first.1 second.1

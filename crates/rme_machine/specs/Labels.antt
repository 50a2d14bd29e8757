-- `event_label`: the machine step of an event and its answer.
use Rattle.std.specs.Prelude.{Option, Some, None}
use Rattle.rme_program.specs.declared.event.Event.{Event}
use Rattle.rme_program.specs.declared.event.Event.TheVariants as event
use Rattle.rme_program.specs.declared.event.Answer.{Answer}
use Rattle.rme_program.specs.declared.event.Answer.TheVariants.{Handed, Stepped, Crashed, Restarted, Withdrawing, Refused}
use Rattle.rme_machine.specs.declared.label.Act.TheVariants.{Hand, Crash, Restart, Wait}
use Rattle.rme_machine.specs.declared.label.Label.{Label}
use Rattle.rme_machine.specs.declared.label.Label.TheVariants.{Nothing, Of}
use Rattle.rme_machine.specs.AbstractState.{act_of_note}

-- A refused event is `Nothing`, an accepted one is its worker's step, and any other pair has no label.
abbrev pub event_label : Event → Answer → Option Label
event_label asked (Refused refusal) = Some Nothing
event_label (event.Submit worker job) (Handed number) = Some (Of worker (Hand number job))
event_label (event.Step worker) (Stepped note) = Some (Of worker (act_of_note note))
event_label (event.Crash worker) Crashed = Some (Of worker Crash)
event_label (event.Restart worker) Restarted = Some (Of worker Restart)
event_label (event.Withdraw worker) Withdrawing = Some (Of worker Wait)
event_label asked answer = None

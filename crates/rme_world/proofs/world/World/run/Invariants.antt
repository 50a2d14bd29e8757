use Rattle.std.proofs.Common.{◌≡◌, ◌+◌, ◌-◌, ◌≤◌, length, take, vec_len}
use Rattle.std.specs.Prelude.{vec_capacity}
use Rattle.rme_world.specs.EventLists.{EventListContract}
use Rattle.rme_world.proofs.world.World.run.Given as goal

abbrev pub invariant-loop-event : goal.invariant-loop-event
invariant-loop-event l =
    EventListContract l.initial.self (take l.event-index l.events) l.answers.items l.self
    × (l.self.shape ≡ l.initial.self.shape)
    × (l.initial.self.shape.workers + (length l.events - l.event-index) ≤ l.self.room)
    × (vec_len l.answers ≡ l.event-index)
    × (length l.events ≤ vec_capacity l.answers)

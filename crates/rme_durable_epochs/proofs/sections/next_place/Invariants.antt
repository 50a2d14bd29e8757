-- The entries so far, and the rest of them.
use Rattle.std.proofs.Common.{◌≡◌, ◌≤◌, ◌+◌, drop}
use Rattle.rme_machine.specs.Histories.{place_of}
use Rattle.rme_durable_epochs.proofs.sections.next_place.Given as goal

abbrev pub invariant-loop-at : goal.invariant-loop-at
invariant-loop-at l = (l.count ≤ l.at) × (l.count + place_of (drop l.at l.fn.history.entries) l.fn.lock ≡ place_of l.fn.history.entries l.fn.lock)

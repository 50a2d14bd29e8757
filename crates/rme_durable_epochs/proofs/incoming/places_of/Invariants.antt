-- The places so far.
use Rattle.std.proofs.Common.{◌≡◌, ◌<◌, ℕ, length, get_or}
use Rattle.std.specs.Prelude.{pos}
use Rattle.rme_durable_epochs.specs.HeaderBases.{header_offset}
use Rattle.rme_durable_epochs.specs.declared.epoch_base.PlaceOffset.{PlaceOffset}
use Rattle.rme_durable_epochs.proofs.incoming.places_of.Given as goal

abbrev pub invariant-loop-lock : goal.invariant-loop-lock
invariant-loop-lock l =
    (length l.places.items ≡ l.lock)
    × ((lock : ℕ) (none : PlaceOffset) → lock < l.lock → get_or l.places.items lock none ≡ header_offset (get_or l.fn.header.places.items lock (pos 0)))

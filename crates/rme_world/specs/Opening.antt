-- The initial world.
use Rattle.std.specs.Prelude.{ℕ, [], map, replicate, Some}
use Rattle.std.specs.List.{range_with_len}
use Rattle.rme_words.specs.declared.shape.Shape.{Shape}
use Rattle.rme_words.specs.Words.{word_count}
use Rattle.rme_program.specs.Steps.{ready_private}
use Rattle.rme_world.specs.Counting.{no_counts}
use Rattle.rme_world.specs.WorldViews.{WorldView}

-- All words are 0, all workers are up and ready, the history is empty and all counts are 0.
abbrev pub world_at_opening : Shape → WorldView
world_at_opening shape = record {
  shape = shape;
  words = replicate (word_count shape) 0;
  privates = map (λ (worker : ℕ). Some (ready_private worker 0)) (range_with_len 0 shape.workers);
  history = [];
  counts = replicate shape.workers no_counts;
  room = 0;
}

use Rattle.std.specs.Prelude.{◌≡◌, ◌++◌, vec_capacity}
use Rattle.std.specs.Slots.{slots_items}
use Rattle.rme_service_steps.specs.Layout.{first_table_words}
use Rattle.rme_service_steps.proofs.closing.with_bank.Given as goal

abbrev pub invariant-loop-number : goal.invariant-loop-number
invariant-loop-number l = (l.words.items ≡ l.initial.words.items ++ first_table_words l.shape (slots_items l.closed.words) l.number) × (vec_capacity l.words ≡ vec_capacity l.initial.words)

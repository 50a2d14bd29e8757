-- The initial world.
use Rattle.std.proofs.Common.{◌≡◌, ℕ, zero, suc, ◌<◌, ◌≤◌, List, [], get_or, refl, sym, ◌∙◌, ap, subst, inl, inr, arith}
use Rattle.std.specs.Prelude.{Option, Some, map, replicate, slice_get, unwrap_or}
use Rattle.std.specs.List.{range_with_len}
use Rattle.std.proofs.lemmas.Bool.{cases_Bool}
use Rattle.std.proofs.lemmas.Option.{same_Some, unwrap_or-slice_get}
use Rattle.std.proofs.lemmas.List.FromFn.{length-map-range_with_len}
use lib.ListN.{length-replicate}
use Rattle.rme_words.specs.declared.shape.Shape.{Shape}
use Rattle.rme_words.specs.declared.address.Address.{Address}
use Rattle.rme_words.specs.Words.{read_word_at, is_shape_address, word_number, word_count}
use Rattle.rme_program.specs.declared.note.Entry.{Entry}
use Rattle.rme_program.specs.declared.private.Private.{Private}
use Rattle.rme_program.specs.Conditions.{IsPrivate}
use Rattle.rme_program.specs.Phases.{phase_of}
use Rattle.rme_program.specs.Steps.{ready_private}
use Rattle.rme_machine.specs.Invariant.{Invariant}
use Rattle.rme_machine.specs.Machine.{MachineState, opening_worker, opening_state}
use Rattle.rme_machine.proofs.Further.{fitting}
use Rattle.rme_machine.proofs.Lists.{made_get}
use Rattle.rme_machine.proofs.Opening as machine
use Rattle.rme_world.specs.declared.counts.Counts.{Counts}
use Rattle.rme_world.specs.Counting.{IsStayCount, phase_count, max_phase_steps, no_counts}
use Rattle.rme_world.specs.WorldViews.{WorldView, private_if_up, world_memory, world_privates, worker_counts, world_abstract_state}
use Rattle.rme_world.specs.WorldInvariants.{WorldInvariant, total_entries_due}
use Rattle.rme_world.specs.Opening.{world_at_opening}
use Rattle.rme_world.proofs.Happening.{none_short}
use Rattle.rme_world.proofs.Stays.{stay_begins}

-- A list that repeats one value has that value at every index, and also past its end if that value is the default.
same_at : {A : Type 0} (x : A) (n i : ℕ) → get_or (replicate n x) i x ≡ x
same_at x zero i = refl
same_at x (suc n) zero = refl
same_at x (suc n) (suc i) = same_at x n i

blank : (shape : Shape) (address : Address) → read_word_at shape (replicate (word_count shape) 0) address ≡ 0
unfolding read_word_at
blank shape address = elim (cases_Bool (is_shape_address shape address)) [
  | inl is ↦ rw is (same_at 0 (word_count shape) (word_number shape address))
  | inr not ↦ rw not refl
]

-- The initial world, with room for `room` entries.
abbrev pub with_room : Shape → ℕ → WorldView
with_room shape room = record (world_at_opening shape) { room = room }

ready_at : (shape : Shape) (room worker : ℕ) → worker < shape.workers → world_privates (with_room shape room) worker ≡ Some (ready_private worker 0)
ready_at shape room worker within = ap private_if_up (made_get (λ (u : ℕ). Some (ready_private u 0)) shape.workers worker within)

opened : (shape : Shape) (room : ℕ) → Invariant shape (world_memory (with_room shape room)) (world_privates (with_room shape room)) [] × (world_abstract_state (with_room shape room) ≡ opening_state shape)
opened shape room = machine.opening shape (world_memory (with_room shape room)) (world_privates (with_room shape room)) (blank shape) (ready_at shape room)

nothing_owed : (n : ℕ) → total_entries_due (replicate n opening_worker) ≡ 0
nothing_owed zero = refl
nothing_owed (suc n) = omega (arith, nothing_owed n)

pub counts_at : (n worker : ℕ) → unwrap_or (slice_get (replicate n no_counts) worker) no_counts ≡ no_counts
counts_at n worker = unwrap_or-slice_get (replicate n no_counts) worker no_counts ∙ same_at no_counts n worker

pub opening_kept : (shape : Shape) (room : ℕ) → WorldInvariant (with_room shape room)
opening_kept shape room = record {
  all_privates = length-map-range_with_len (λ (worker : ℕ). Some (ready_private worker 0)) 0 shape.workers;
  all_counts = length-replicate shape.workers no_counts;
  fact = (opened shape room).0;
  room = (let none : total_entries_due (world_abstract_state (with_room shape room)).workers ≡ 0 = ap (λ (s : MachineState). total_entries_due s.workers) (opened shape room).1 ∙ nothing_owed shape.workers in omega (arith, none));
  stays = stays_of;
  short = λ worker phase within. subst (λ (c : Counts). phase_count c phase ≤ max_phase_steps shape phase) (sym (counts_at shape.workers worker)) (none_short shape phase);
}
  where
    stays_of : (worker : ℕ) (private : Private) → worker < shape.workers → world_privates (with_room shape room) worker ≡ Some private
        → IsStayCount shape private.stage (phase_count (worker_counts (with_room shape room) worker) (phase_of private.stage))
    stays_of worker private within at =
        let is : IsPrivate shape (ready_private worker 0)
        = (fitting shape (world_memory (with_room shape room)) (world_privates (with_room shape room)) [] worker (ready_private worker 0) (opened shape room).0 within (ready_at shape room worker within)).1 in
        let same : ready_private worker 0 ≡ private = same_Some _ _ (sym (ready_at shape room worker within) ∙ at) in
        subst (λ (p : Private). IsStayCount shape p.stage (phase_count (worker_counts (with_room shape room) worker) (phase_of p.stage))) same
        (stay_begins shape (ready_private worker 0) is tt refl)

pub opened_shown : (seen : WorldView) (shape : Shape) → seen.shape ≡ shape → seen.words ≡ replicate (word_count shape) 0
    → seen.privates ≡ map (λ (worker : ℕ). Some (ready_private worker 0)) (range_with_len 0 shape.workers) → seen.history ≡ [] → world_abstract_state seen ≡ opening_state shape
opened_shown seen shape shaped words privates history =
    ap (λ (s : Shape). world_abstract_state record seen { shape = s }) shaped
    ∙ ap (λ (ws : List ℕ). world_abstract_state record seen { shape = shape; words = ws }) words
    ∙ ap (λ (ps : List (Option Private)). world_abstract_state record seen { shape = shape; words = replicate (word_count shape) 0; privates = ps }) privates
    ∙ ap (λ (es : List Entry). world_abstract_state record (world_at_opening shape) { history = es }) history
    ∙ (opened shape 0).1

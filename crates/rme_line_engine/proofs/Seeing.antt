-- A tally that sees one phase after each step has seen all counts.
use Rattle.std.proofs.Common.{◌≡◌, ◌≢◌, ◌⊎◌, ℕ, zero, suc, ◌+◌, ◌≤◌, List, [], ◌∷◌, max, Option, Some, None, Ok, Err, refl, sym, ap, subst, ◌∙◌, arith, inl, inr, replicate, unwrap_or}
use Rattle.std.specs.Prelude.{slice_get, slice_set}
use Rattle.std.proofs.lemmas.Bool.{cases_eq}
use Rattle.std.proofs.Math.Nat.{le-max_left, le-max_right, max-eq_left}
use Rattle.rme_words.specs.declared.refusal.Refusal.TheVariants.{BadImage}
use Rattle.rme_words.specs.declared.shape.Shape.{Shape}
use Rattle.rme_program.specs.declared.kinds.Phase.{Phase}
use Rattle.rme_program.specs.declared.kinds.Phase.TheVariants.{Recover, Post, Enter, Section, Exit, Ready}
use Rattle.rme_program.specs.declared.note.Note.{Note}
use Rattle.rme_program.specs.declared.note.Note.TheVariants as told
use Rattle.rme_program.specs.declared.note.Note.TheVariants.{Asked, Blocked, Entered, Finished, Left, Quiet, Reentered, Withdrew}
use Rattle.rme_history.specs.declared.tally.Tally.{Tally}
use Rattle.rme_history.specs.Tallies.{TallySees, tally_of_phase}
use Rattle.rme_world.specs.declared.counts.Counts.{Counts}
use Rattle.rme_world.specs.Counting.{CountsAfterStep, with_stay_begun, phase_count, with_step_counted, no_counts}
use Rattle.rme_world.specs.Opening.{world_at_opening}
use Rattle.rme_world.specs.WorldViews.{WorldView, worker_counts}
use Rattle.rme_machine.proofs.Lists.{get_set_other}
use Rattle.rme_program.proofs.NoteLaws.{cases_phase}
use Rattle.rme_world.proofs.Stays.{begun_here, count_there, within_limits}
use Rattle.rme_world.proofs.Opened.{counts_at}
use Rattle.rme_line_engine.specs.Lines.{ImageReadAs}
use Rattle.rme_line_engine.specs.Tallies.{TallyIsComplete, phase_steps_of}

-- ---- the counts of a world after one worker's were changed

abbrev counts_in : List Counts → ℕ → Counts
counts_in all worker = unwrap_or (slice_get all worker) no_counts

set_cases : (all : List Counts) (i : ℕ) (counts : Counts) → (slice_get (slice_set all i counts) i ≡ slice_get all i) ⊎ (slice_get (slice_set all i counts) i ≡ Some counts)
set_cases [] i counts = inl refl
set_cases (c ∷ all) zero counts = inr refl
set_cases (c ∷ all) (suc i) counts = set_cases all i counts

-- a property of all workers' counts, and of the new ones, holds after the change
pub changed : (P : Counts → Type 0) (all : List Counts) (worker : ℕ) (counts : Counts) → ((u : ℕ) → P (unwrap_or (slice_get all u) no_counts)) → P counts
    → (u : ℕ) → P (unwrap_or (slice_get (slice_set all worker counts) u) no_counts)
changed P all worker counts before here u =
    let Q : Option Counts → Type 0 = λ found. P (unwrap_or found no_counts) in
    elim (cases_eq u worker) [
      | inl same ↦ rw same (elim (set_cases all worker counts) [
        | inl kept ↦ subst Q (sym kept) (before worker)
        | inr new ↦ subst Q (sym new) here
      ])
      | inr apart ↦ subst Q (sym (get_set_other all worker u counts apart)) (before u)
    ]

zero_counts : (phase : Phase) → phase_count no_counts phase ≡ 0
zero_counts Recover = refl
zero_counts Post = refl
zero_counts Enter = refl
zero_counts Section = refl
zero_counts Exit = refl
zero_counts Ready = refl

-- every tally is complete for a world whose counts are all 0
uncounted_seen : (tally : Tally) (world : WorldView) (n : ℕ) → world.counts ≡ replicate n no_counts → TallyIsComplete tally world
uncounted_seen tally world n uncounted worker phase =
    let here : worker_counts world worker ≡ no_counts = ap (λ (all : List Counts). counts_in all worker) uncounted ∙ counts_at n worker in
    let none : phase_steps_of world worker phase ≡ 0 = ap (λ c. phase_count c phase) here ∙ zero_counts phase in
    omega (arith, none)

pub opening_seen : (tally : Tally) (shape : Shape) → TallyIsComplete tally (world_at_opening shape)
opening_seen tally shape = uncounted_seen tally (world_at_opening shape) shape.workers refl

pub loaded_seen : (tally : Tally) (image : Option (List ℕ)) (world : WorldView) → ImageReadAs image (Ok world) → TallyIsComplete tally world
loaded_seen tally None world read = absurd (let bad : Ok world ≡ Err BadImage = read in cc)
loaded_seen tally (Some bytes) world read = uncounted_seen tally world world.shape.workers (ap (λ (s : WorldView). s.counts) read.restored)

module _ (tally : Tally) (old new : WorldView) (worker : ℕ) (counts : Counts) (has : TallyIsComplete tally old) (goes : new.counts ≡ slice_set old.counts worker counts) where
  -- other counts of one worker that the tally has seen too
  pub seen_too : ((phase : Phase) → phase_count counts phase ≤ tally_of_phase tally phase) → TallyIsComplete tally new
  seen_too few u =
      let P : Counts → Type 0 = λ c. (phase : Phase) → phase_count c phase ≤ tally_of_phase tally phase in
      let Q : List Counts → Type 0 = λ all. P (unwrap_or (slice_get all u) no_counts) in
      subst Q (sym goes) (changed P old.counts worker counts has few u)

  -- a stay of the worker begins
  pub begun_seen : (phase : Phase) → counts ≡ with_stay_begun (worker_counts old worker) phase → TallyIsComplete tally new
  begun_seen phase e = seen_too (λ p. rw e (within_limits (worker_counts old worker) (tally_of_phase tally) 0 phase p (omega arith) (λ q. has worker q)))

  pub same_seen : counts ≡ worker_counts old worker → TallyIsComplete tally new
  same_seen e = seen_too (λ p. rw e (has worker p))

  pub none_seen : counts ≡ no_counts → TallyIsComplete tally new
  none_seen e = seen_too (λ p. let none = zero_counts p in rw e (omega (arith, none)))

-- ---- a step

cases_note : (note : Note) → (note ≡ Blocked) ⊎ (note ≢ Blocked)
cases_note Blocked = inl refl
cases_note Quiet = inr (λ (e : Quiet ≡ Blocked). cc)
cases_note (Asked k) = inr (λ (e : Asked k ≡ Blocked). cc)
cases_note (Entered lock) = inr (λ (e : Entered lock ≡ Blocked). cc)
cases_note (Reentered lock) = inr (λ (e : Reentered lock ≡ Blocked). cc)
cases_note (Finished receipt) = inr (λ (e : Finished receipt ≡ Blocked). cc)
cases_note (Left lock) = inr (λ (e : Left lock ≡ Blocked). cc)
cases_note told.Ready = inr (λ (e : told.Ready ≡ Blocked). cc)
cases_note (Withdrew k) = inr (λ (e : Withdrew k ≡ Blocked). cc)

-- the counts of the other phases do not grow by a step
pub others_stay : (old new : Counts) (before after : Phase) (note : Note) → CountsAfterStep old before after note new → (phase : Phase) → phase ≢ before → phase_count new phase ≤ phase_count old phase
others_stay old new before after note c phase apart =
    let more = count_there old before phase (phase_count old before + 1) apart in
    elim (cases_note note) [
      | inl blocked ↦ rw (c.blocked blocked) (omega arith)
      | inr moved ↦ elim (cases_phase after before) [
        | inl same ↦ rw (c.goes_on moved same) (omega (arith, more))
        | inr other ↦ rw (c.ends moved other) (elim (cases_phase phase after) [
          | inl is ↦ let none = begun_here (with_step_counted old before) phase in rw (← is) (omega (arith, none))
          | inr not ↦ let there = count_there (with_step_counted old before) after phase 0 not in omega (arith, more, there)
        ])
      ]
    ]

module _ (old new : Tally) (phase : Phase) (steps : ℕ) (sees : TallySees old new phase steps) where
  -- a tally never decreases
  pub sees_more : (other : Phase) → tally_of_phase old other ≤ tally_of_phase new other
  sees_more other =
      elim (cases_phase other phase) [
        | inl same ↦ elim (cases_phase phase Ready) [
          | inl ready ↦ rw (same, ready) (omega arith)
          | inr some ↦ rw (same, sees.greater some) (le-max_left (tally_of_phase old phase) steps)
        ]
        | inr apart ↦ rw (sees.others other apart) (omega arith)
      ]

module _ (old new : WorldView) (worker : ℕ) (before : Tally) (after : Tally) (phase : Phase) (counts : Counts) (next : Phase) (note : Note) (has : TallyIsComplete before old)
    (goes : new.counts ≡ slice_set old.counts worker counts) (counted_so : CountsAfterStep (worker_counts old worker) phase next note counts)
    (sees : TallySees before after phase (phase_steps_of new worker phase)) where
  -- of the worker's counts only that of the step's phase can have grown
  pub grown_alone : (other : Phase) → other ≢ phase → phase_steps_of new worker other ≤ tally_of_phase before other
  grown_alone other apart =
      let less = others_stay (worker_counts old worker) counts phase next note counted_so other apart in
      let seen = has worker other in
      let P : Counts → Type 0 = λ c. phase_count c other ≤ tally_of_phase before other in
      let Q : List Counts → Type 0 = λ all. P (unwrap_or (slice_get all worker) no_counts) in
      subst Q (sym goes) (changed P old.counts worker counts (λ u. has u other) (omega (arith, less, seen)) worker)

  pub step_phases : (other : Phase) → tally_of_phase after other ≡ max (tally_of_phase before other) (phase_steps_of new worker other)
  step_phases other =
      elim (cases_phase other phase) [
        | inl same ↦ elim (cases_phase phase Ready) [
          | inl ready ↦ rw (same, ready) refl
          | inr some ↦ rw same (sees.greater some)
        ]
        | inr apart ↦ sees.others other apart ∙ sym (max-eq_left (grown_alone other apart))
      ]

  pub step_seen : TallyIsComplete after new
  step_seen u other =
      let more = sees_more before after phase (phase_steps_of new worker phase) sees other in
      elim (cases_eq u worker) [
        | inl same ↦ rw (same, step_phases other) (le-max_right (tally_of_phase before other) (phase_steps_of new worker other))
        | inr apart ↦
            let seen = has u other in
            let kept : worker_counts new u ≡ worker_counts old u = ap (λ all. unwrap_or (slice_get all u) no_counts) goes ∙ ap (λ found. unwrap_or found no_counts) (get_set_other old.counts worker u counts apart) in
            rw kept (omega (arith, more, seen))
      ]

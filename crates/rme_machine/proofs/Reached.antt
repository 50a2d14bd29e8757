-- The machine's theorems hold at the start of a run: at the initial state, and at each abstract state with the
-- invariant.
use Rattle.std.proofs.Common.{◌≡◌, ◌≢◌, ◌⊎◌, ℕ, zero, suc, ◌+◌, ◌<◌, ◌≤◌, List, [], ◌∷◌, ◌++◌, length, refl, sym, ◌∙◌, ap, subst, inl, inr, arith}
use Rattle.std.specs.Prelude.{Bool, true, false, not, ◌==◌, ◌&&◌, ◌||◌, if◌then◌else◌, Option, Some, None, filter, replicate, slice_get}
use Rattle.std.specs.List.{range_with_len}
use Rattle.std.proofs.lemmas.Bool.{cases_eq, cases_Bool, cases_lt, eq-eqb, ne_eqb, ltb-true, ltb-false, and_left, and_right, and_from, or_left}
use Rattle.std.proofs.lemmas.Option.{none-some, same_Some, slice_get_cases, slice_get_within}
use Rattle.rme_words.specs.declared.shape.Shape.{Shape}
use Rattle.rme_words.specs.declared.address.Address.{Address}
use Rattle.rme_tree.specs.Nodes.{held_levels_in, owner_in}
use Rattle.rme_script.specs.declared.job.Job.{Job}
use Rattle.rme_program.specs.declared.note.Entry.{Entry}
use Rattle.rme_program.specs.declared.private.Private.{Private}
use Rattle.rme_program.specs.declared.stage.Stage.{Stage}
use Rattle.rme_program.specs.declared.stage.Stage.TheVariants.{Resting, Recovering, Posting, Climbing, Logging, Copying, Leaving}
use Rattle.rme_program.specs.Conditions.{IsStage}
use Rattle.rme_machine.specs.declared.stance.JobStance.{JobStance}
use Rattle.rme_machine.specs.declared.label.Act.{Act}
use Rattle.rme_machine.specs.declared.label.Act.TheVariants.{Hand, Ask, Take, Finish, Leave, Withdraw, Crash, Restart, Reenter, Still, Wait}
use Rattle.rme_machine.specs.declared.label.Label.{Label}
use Rattle.rme_machine.specs.declared.label.Label.TheVariants.{Nothing, Of}
use Rattle.rme_machine.specs.Invariant.{Invariant, WorkerInvariant}
use Rattle.rme_machine.specs.Histories.{numbers_of_worker, has_entry, last_entry_of_worker, withdrawn_numbers, NumbersRise, HistoryIsLegalAfter}
use Rattle.rme_machine.specs.Machine.{MachineState, WorkerState, IsInSectionOf, ActEffect, LabelStep, MachineRun, opening_worker, opening_state}
use Rattle.rme_machine.specs.AbstractState.{Privates, lock_owned_by_worker, last_entry_job, abstract_worker, abstract_state, abstract_stance, stance_outside}
use Rattle.rme_machine.specs.Theorems.{IsStartState, IsReachable, ExclusionLaw, IsSectionAct, HasNoLeave, OnlyWorkerAt, ReentryLaw, OnceLaw, occurrences, stance_holds_number, number_uses}
use Rattle.rme_machine.specs.Views.{worker_words, is_pending, slate_job}
use Rattle.rme_machine.proofs.Historical.{no_entry}
use Rattle.rme_machine.proofs.Kept.{owner_holds_in, owner_of}
use Rattle.rme_machine.proofs.Lists.{made_get, made_long, get_set, get_set_other}
use Rattle.rme_machine.proofs.Shows.{owned_at, owned_holds}
use Rattle.rme_machine.proofs.Standing.{finished_lock}
use Rattle.rme_machine.proofs.Theorems.{Matches, IsOnce, IsState, HasShapedJob, run_keeps, label_keeps, none_times}

-- ---- the initial state

pub alike : {A : Type 0} (n i : ℕ) (x y : A) → slice_get (replicate n x) i ≡ Some y → y ≡ x
alike zero i x y at = absurd (none-some y at)
alike (suc n) zero x y at = sym (same_Some x y at)
alike (suc n) (suc i) x y at = alike n i x y at

long_replicate : {A : Type 0} (n : ℕ) (x : A) → length (replicate n x) ≡ n
long_replicate zero x = refl
long_replicate (suc n) x = ap suc (long_replicate n x)

opening_is : (shape : Shape) → IsState shape (opening_state shape)
unfolding numbers_of_worker occurrences
opening_is shape = record {
  workers = long_replicate shape.workers opening_worker;
  matches = record {
    inside = λ lock w me at stays. (let is : me ≡ opening_worker = alike shape.workers w opening_worker me at in
        absurd (subst (λ (x : WorkerState). IsInSectionOf x.stance lock) is stays));
    owner = λ lock w owns. (let none : Some w ≡ None = alike shape.locks lock None (Some w) owns in absurd (none-some w (sym none)));
  };
  jobs = λ w me at. (let is : me ≡ opening_worker = alike shape.workers w opening_worker me at in subst (λ (x : WorkerState). HasShapedJob shape x.stance) (sym is) tt);
  once = λ w me at. (let is : me ≡ opening_worker = alike shape.workers w opening_worker me at in
      subst (λ (x : WorkerState). IsOnce (number_uses [] w x) x.asked) (sym is) record { each = λ k low high. absurd (omega (arith, low, high)); zero = refl; beyond = λ k over. refl });
  legal = tt;
}

-- ---- an abstract state: the number of uses of each number

times_below : (low most k : ℕ) (ns : List ℕ) → NumbersRise low most ns → k ≤ low → occurrences k ns ≡ 0
unfolding occurrences
times_below low most k [] rises under_ = refl
times_below low most k (n ∷ ns) rises under_ = rw (ne_eqb n k (λ e. omega (arith, e, rises.0, under_))) (times_below n most k ns rises.2 (omega (arith, under_, rises.0)))

-- 1 if a test passes, else 0.
abbrev one_if : Bool → ℕ
one_if b = if b then 1 else 0

later : (x y : Bool) → x ≡ false → (x || y) ≡ y
later true y e = absurd (cc)
later false y e = refl

-- A worker has at most one entry of a number.
entry_times : (es : List Entry) (w low most k : ℕ) → NumbersRise low most (numbers_of_worker es w) → occurrences k (numbers_of_worker es w) ≡ (if has_entry es w k then 1 else 0)
unfolding numbers_of_worker occurrences
entry_times [] w low most k rises = refl
entry_times (e ∷ es) w low most k rises = elim (cases_Bool (e.receipt.worker == w)) [
  | inl t ↦
      (let parts : NumbersRise low most (e.receipt.number ∷ numbers_of_worker es w) = rw t at rises in
      elim (cases_eq e.receipt.number k) [
        | inl same ↦
            (let has : has_entry (e ∷ es) w k ≡ true = or_left ((e.receipt.worker == w) && (e.receipt.number == k)) (has_entry es w k) (and_from (e.receipt.worker == w) (e.receipt.number == k) t (eq-eqb e.receipt.number k same)) in
            let rest : occurrences k (numbers_of_worker es w) ≡ 0 = times_below e.receipt.number most k (numbers_of_worker es w) parts.2 (omega (arith, same)) in
            let all : occurrences k (numbers_of_worker (e ∷ es) w) ≡ 1 = rw (t, eq-eqb e.receipt.number k same) (omega (arith, rest)) in
            all ∙ sym (ap one_if has))
        | inr apart ↦
            (let none : ((e.receipt.worker == w) && (e.receipt.number == k)) ≡ false = and_right (e.receipt.worker == w) (e.receipt.number == k) (ne_eqb e.receipt.number k apart) in
            let all : occurrences k (numbers_of_worker (e ∷ es) w) ≡ occurrences k (numbers_of_worker es w) = rw (t, ne_eqb e.receipt.number k apart) refl in
            all ∙ entry_times es w e.receipt.number most k parts.2 ∙ sym (ap one_if (later ((e.receipt.worker == w) && (e.receipt.number == k)) (has_entry es w k) none)))
      ])
  | inr f ↦
      (let parts : NumbersRise low most (numbers_of_worker es w) = rw f at rises in
      let none : ((e.receipt.worker == w) && (e.receipt.number == k)) ≡ false = and_left (e.receipt.worker == w) (e.receipt.number == k) f in
      let all : occurrences k (numbers_of_worker (e ∷ es) w) ≡ occurrences k (numbers_of_worker es w) = rw f refl in
      all ∙ entry_times es w low most k parts ∙ sym (ap one_if (later ((e.receipt.worker == w) && (e.receipt.number == k)) (has_entry es w k) none)))
]

-- A number of a range that passes a test occurs once among those that do.
module _ (test : ℕ → Bool) (k : ℕ) where
  low_times : (a n : ℕ) → k < a → occurrences k (filter test (range_with_len a n)) ≡ 0
  unfolding occurrences
  low_times a zero less = refl
  low_times a (suc n) less = elim (cases_Bool (test a)) [
    | inl t ↦ rw (t, ne_eqb a k (λ e. omega (arith, e, less))) (low_times (a + 1) n (omega (arith, less)))
    | inr f ↦ rw f (low_times (a + 1) n (omega (arith, less)))
  ]

  high_times : (a n : ℕ) → a + n ≤ k → occurrences k (filter test (range_with_len a n)) ≡ 0
  unfolding occurrences
  high_times a zero over = refl
  high_times a (suc n) over = elim (cases_Bool (test a)) [
    | inl t ↦ rw (t, ne_eqb a k (λ e. omega (arith, e, over))) (high_times (a + 1) n (omega (arith, over)))
    | inr f ↦ rw f (high_times (a + 1) n (omega (arith, over)))
  ]

  passed_times : (a n : ℕ) → a ≤ k → k < a + n → occurrences k (filter test (range_with_len a n)) ≡ (if test k then 1 else 0)
  unfolding occurrences
  passed_times a zero low high = absurd (omega (arith, low, high))
  passed_times a (suc n) low high = elim (cases_eq a k) [
    | inl same ↦
        (let rest : occurrences k (filter test (range_with_len (a + 1) n)) ≡ 0 = low_times (a + 1) n (omega (arith, same)) in
        elim (cases_Bool (test a)) [
          | inl t ↦ (let tk : test k ≡ true = ap test (sym same) ∙ t in rw (t, tk, eq-eqb a k same) (omega (arith, rest)))
          | inr f ↦ (let fk : test k ≡ false = ap test (sym same) ∙ f in rw (f, fk) rest)
        ])
    | inr apart ↦
        (let rest = passed_times (a + 1) n (omega (arith, low, apart)) (omega (arith, high)) in
        elim (cases_Bool (test a)) [
          | inl t ↦ rw (t, ne_eqb a k apart) rest
          | inr f ↦ rw f rest
        ])
  ]

-- The uses of a number by a worker, by whether it is pending.
abbrev pending_under : Bool → ℕ → ℕ → ℕ
pending_under true number k = if number == k then 1 else 0
pending_under false number k = 0

outside_under : (private : Option Private) (k : ℕ) → stance_holds_number (stance_outside private) k ≡ 0
outside_under None k = refl
outside_under (Some private) k = by_stage private.stage
  where
    by_stage : (stage : Stage) → stance_holds_number (stance_outside (Some record private { stage = stage })) k ≡ 0
    by_stage Resting = refl
    by_stage (Recovering recovery) = refl
    by_stage (Posting slate) = refl
    by_stage (Climbing ascent) = refl
    by_stage (Logging log) = refl
    by_stage (Copying redo) = refl
    by_stage (Leaving departure) = refl

stance_under : (owned : Option ℕ) (pending : Bool) (number : ℕ) (slate last : Job) (private : Option Private) (k : ℕ)
    → stance_holds_number (abstract_stance owned pending number slate last private) k ≡ pending_under pending number k
stance_under (Some lock) true number slate last private k = refl
stance_under (Some lock) false number slate last private k = refl
stance_under None true number slate last private k = refl
stance_under None false number slate last private k = outside_under private k

-- ---- an abstract state

module _ (s : Shape) (mem : Address → ℕ) (privs : Privates) (es : List Entry) (fact : Invariant s mem privs es) where
  -- Each worker of the abstract state is one of the shape.
  its : (w : ℕ) (me : WorkerState) → slice_get (abstract_state s mem privs es).workers w ≡ Some me → (w < s.workers) × (me ≡ abstract_worker s mem privs es w)
  its w me at =
      let within : w < s.workers = omega (arith, slice_get_within (abstract_state s mem privs es).workers w me at, made_long (λ (u : ℕ). abstract_worker s mem privs es u) s.workers) in
      (within, sym (same_Some _ _ (sym (made_get (λ (u : ℕ). abstract_worker s mem privs es u) s.workers w within) ∙ at)))

  lock_within : (l : ℕ) (owner : Option ℕ) → slice_get (abstract_state s mem privs es).owners l ≡ Some owner → (l < s.locks) × (owner_in s mem l ≡ owner)
  lock_within l owner at =
      let within : l < s.locks = omega (arith, slice_get_within (abstract_state s mem privs es).owners l owner at, made_long (λ (k : ℕ). owner_in s mem k) s.locks) in
      (within, same_Some _ _ (sym (made_get (λ (k : ℕ). owner_in s mem k) s.locks l within) ∙ at))

  stays_outside : (private : Option Private) (l : ℕ) → IsInSectionOf (stance_outside private) l → ⊥
  stays_outside None l stays = stays
  stays_outside (Some private) l stays = by_stage private.stage stays
    where
      by_stage : (stage : Stage) → IsInSectionOf (stance_outside (Some record private { stage = stage })) l → ⊥
      by_stage Resting stays = stays
      by_stage (Recovering recovery) stays = stays
      by_stage (Posting slate) stays = stays
      by_stage (Climbing ascent) stays = stays
      by_stage (Logging log) stays = stays
      by_stage (Copying redo) stays = stays
      by_stage (Leaving departure) stays = stays

  -- The lock of whose section a worker is in is the one that it owns.
  on_lock : (w l : ℕ) (owned : Option ℕ) (pending : Bool) → w < s.workers → lock_owned_by_worker s mem w ≡ owned → is_pending (worker_words mem w) ≡ pending
      → IsInSectionOf (abstract_stance owned pending (worker_words mem w).begun (slate_job (worker_words mem w)) (last_entry_job (last_entry_of_worker es w)) (privs w)) l → lock_owned_by_worker s mem w ≡ Some l
  on_lock w l None true worker owned pending stays = absurd stays
  on_lock w l None false worker owned pending stays = absurd (stays_outside (privs w) l stays)
  on_lock w l (Some k) true worker owned pending stays =
      let holds = owned_holds s mem w k owned in
      let stake = (fact.accounts w worker).stake k holds.0 (omega (arith, holds.1, s.counted.tree.some_level)) in
      let site : (worker_words mem w).slate_lock ≡ k = rw pending at stake.1 in
      owned ∙ ap (λ (n : ℕ). Some n) (sym site ∙ stays)
  on_lock w l (Some k) false worker owned pending stays =
      let holds = owned_holds s mem w k owned in
      let stake = (fact.accounts w worker).stake k holds.0 (omega (arith, holds.1, s.counted.tree.some_level)) in
      let site : (worker_words mem w).at ≡ k = rw pending at stake.1 in
      owned ∙ ap (λ (n : ℕ). Some n) (sym (finished_lock s mem privs es w k fact worker holds.0 holds.1 stake.0 pending site) ∙ stays)

  -- A worker that owns a lock is in that lock's section.
  stays_there : (w l : ℕ) (pending : Bool) → w < s.workers → l < s.locks → held_levels_in s mem w l ≡ s.height → is_pending (worker_words mem w) ≡ pending
      → IsInSectionOf (abstract_stance (Some l) pending (worker_words mem w).begun (slate_job (worker_words mem w)) (last_entry_job (last_entry_of_worker es w)) (privs w)) l
  stays_there w l true worker lock holds pending =
      let stake = (fact.accounts w worker).stake l lock (omega (arith, holds, s.counted.tree.some_level)) in
      let site : (worker_words mem w).slate_lock ≡ l = rw pending at stake.1 in site
  stays_there w l false worker lock holds pending =
      let stake = (fact.accounts w worker).stake l lock (omega (arith, holds, s.counted.tree.some_level)) in
      let site : (worker_words mem w).at ≡ l = rw pending at stake.1 in
      finished_lock s mem privs es w l fact worker lock holds stake.0 pending site

  matches_shown : Matches (abstract_state s mem privs es).owners (abstract_state s mem privs es).workers
  matches_shown = record { inside = inside; owner = owner }
    where
      inside : (l w : ℕ) (me : WorkerState) → slice_get (abstract_state s mem privs es).workers w ≡ Some me → IsInSectionOf me.stance l → slice_get (abstract_state s mem privs es).owners l ≡ Some (Some w)
      inside l w me at stays =
          let here = its w me at in
          let owned : lock_owned_by_worker s mem w ≡ Some l
          = on_lock w l (lock_owned_by_worker s mem w) (is_pending (worker_words mem w)) here.0 refl refl (subst (λ (x : WorkerState). IsInSectionOf x.stance l) here.1 stays) in
          let holds = owned_holds s mem w l owned in
          made_get (λ (k : ℕ). owner_in s mem k) s.locks l holds.0 ∙ ap (λ (o : Option ℕ). Some o) (owner_of s mem l w here.0 holds.1)

      owner : (l w : ℕ) → slice_get (abstract_state s mem privs es).owners l ≡ Some (Some w) → (me : WorkerState) × (slice_get (abstract_state s mem privs es).workers w ≡ Some me) × IsInSectionOf me.stance l
      owner l w at =
          let here = lock_within l (Some w) at in
          let holds = owner_holds_in s mem l w here.1 in
          let owned : lock_owned_by_worker s mem w ≡ Some l = owned_at s mem privs es w l fact holds.0 here.0 holds.1 in
          let S : Option ℕ → Type 0 = λ (o : Option ℕ). IsInSectionOf (abstract_stance o (is_pending (worker_words mem w)) (worker_words mem w).begun (slate_job (worker_words mem w)) (last_entry_job (last_entry_of_worker es w)) (privs w)) l in (
            abstract_worker s mem privs es w,
            made_get (λ (u : ℕ). abstract_worker s mem privs es u) s.workers w holds.0,
            subst S (sym owned) (stays_there w l (is_pending (worker_words mem w)) holds.0 here.0 holds.1 refl),
          )

  outside_shaped : (w : ℕ) (private : Option Private) → w < s.workers → privs w ≡ private → HasShapedJob s (stance_outside private)
  outside_shaped w None worker is = tt
  outside_shaped w (Some p) worker is = by_stage p.stage (fact.fits w p worker is).shaped.stage
    where
      by_stage : (stage : Stage) → IsStage s p.begun stage → HasShapedJob s (stance_outside (Some record p { stage = stage }))
      by_stage Resting shaped = tt
      by_stage (Recovering recovery) shaped = tt
      by_stage (Posting slate) shaped = shaped.1
      by_stage (Climbing ascent) shaped = tt
      by_stage (Logging log) shaped = tt
      by_stage (Copying redo) shaped = tt
      by_stage (Leaving departure) shaped = tt

  stance_shaped : (w : ℕ) (owned : Option ℕ) (pending : Bool) → w < s.workers → is_pending (worker_words mem w) ≡ pending
      → HasShapedJob s (abstract_stance owned pending (worker_words mem w).begun (slate_job (worker_words mem w)) (last_entry_job (last_entry_of_worker es w)) (privs w))
  stance_shaped w (Some l) true worker pending = ((fact.accounts w worker).slate pending).job
  stance_shaped w (Some l) false worker pending = tt
  stance_shaped w None true worker pending = ((fact.accounts w worker).slate pending).job
  stance_shaped w None false worker pending = outside_shaped w (privs w) worker refl

  -- Each number of a worker has one use.
  once_shown : (w : ℕ) → w < s.workers → IsOnce (number_uses es w (abstract_worker s mem privs es w)) (worker_words mem w).begun
  once_shown w worker = record { each = each; zero = zero_; beyond = beyond }
    where
      account : WorkerInvariant s (worker_words mem w) (held_levels_in s mem w) es w
      account = fact.accounts w worker

      done : ℕ
      done = (worker_words mem w).done

      begun : ℕ
      begun = (worker_words mem w).begun

      gone : ℕ → Bool
      gone k = not (has_entry es w k)

      in_history : (k : ℕ) → occurrences k (numbers_of_worker es w) ≡ one_if (has_entry es w k)
      in_history k = entry_times es w 0 (worker_words mem w).done k account.numbered

      in_stance : (k : ℕ) → stance_holds_number (abstract_worker s mem privs es w).stance k ≡ pending_under (is_pending (worker_words mem w)) (worker_words mem w).begun k
      in_stance k = stance_under (lock_owned_by_worker s mem w) (is_pending (worker_words mem w)) (worker_words mem w).begun (slate_job (worker_words mem w)) (last_entry_job (last_entry_of_worker es w)) (privs w) k

      pending_zero : (pending : Bool) (k : ℕ) → is_pending (worker_words mem w) ≡ pending → k < (worker_words mem w).begun ⊎ ((worker_words mem w).begun < k) → pending_under pending (worker_words mem w).begun k ≡ 0
      pending_zero true k e (inl less) = rw (ne_eqb (worker_words mem w).begun k (λ q. omega (arith, q, less))) refl
      pending_zero true k e (inr over) = rw (ne_eqb (worker_words mem w).begun k (λ q. omega (arith, q, over))) refl
      pending_zero false k e apart = refl

      one_of : (b : Bool) → one_if b + one_if (not b) ≡ 1
      one_of true = refl
      one_of false = refl

      -- A done number has an entry or is withdrawn.
      each_done : (k : ℕ) → 1 ≤ k → k ≤ (worker_words mem w).done → occurrences k (numbers_of_worker es w) + occurrences k (withdrawn_numbers es w (worker_words mem w).done) ≡ 1
      each_done k low high =
          let b : occurrences k (withdrawn_numbers es w (worker_words mem w).done) ≡ one_if (not (has_entry es w k)) = passed_times gone k 1 (worker_words mem w).done low (omega (arith, high)) in
          omega (arith, in_history k, b, one_of (has_entry es w k))

      -- A number that is not done has no entry and is not withdrawn.
      each_later : (k : ℕ) → (worker_words mem w).done < k → occurrences k (numbers_of_worker es w) + occurrences k (withdrawn_numbers es w (worker_words mem w).done) ≡ 0
      each_later k over =
          let a : one_if (has_entry es w k) ≡ 0 = ap one_if (no_entry es w 0 (worker_words mem w).done k account.numbered over) in
          let b : occurrences k (withdrawn_numbers es w (worker_words mem w).done) ≡ 0 = high_times gone k 1 (worker_words mem w).done (omega (arith, over)) in
          omega (arith, in_history k, a, b)

      each_by : (pending : Bool) (k : ℕ) → is_pending (worker_words mem w) ≡ pending → 1 ≤ k → k ≤ (worker_words mem w).begun
          → occurrences k (numbers_of_worker es w) + occurrences k (withdrawn_numbers es w (worker_words mem w).done) + pending_under pending (worker_words mem w).begun k ≡ 1
      each_by false k e low high =
          let all : (worker_words mem w).begun ≤ (worker_words mem w).done = ltb-false _ _ e in
          omega (arith, each_done k low (omega (arith, high, all)))
      each_by true k e low high =
          let less : (worker_words mem w).done < (worker_words mem w).begun = ltb-true _ _ e in
          elim (cases_eq (worker_words mem w).begun k) [
            | inl same ↦ rw (eq-eqb (worker_words mem w).begun k same) (omega (arith, each_later k (omega (arith, less, same))))
            | inr apart ↦ rw (ne_eqb (worker_words mem w).begun k apart) (omega (arith, each_done k low (omega (arith, high, apart, account.begun))))
          ]

      each : (k : ℕ) → 1 ≤ k → k ≤ (worker_words mem w).begun → number_uses es w (abstract_worker s mem privs es w) k ≡ 1
      each k low high = omega (arith, each_by (is_pending (worker_words mem w)) k refl low high, in_stance k)

      beyond : (k : ℕ) → (worker_words mem w).begun < k → number_uses es w (abstract_worker s mem privs es w) k ≡ 0
      beyond k over = omega (arith, each_later k (omega (arith, over, account.done)), in_stance k, pending_zero (is_pending (worker_words mem w)) k refl (inr over))

      none_yet : (pending : Bool) → is_pending (worker_words mem w) ≡ pending → pending_under pending (worker_words mem w).begun 0 ≡ 0
      none_yet false e = refl
      none_yet true e = (let less : (worker_words mem w).done < (worker_words mem w).begun = ltb-true _ _ e in rw (ne_eqb (worker_words mem w).begun 0 (λ q. omega (arith, q, less))) refl)

      zero_ : number_uses es w (abstract_worker s mem privs es w) 0 ≡ 0
      zero_ =
          let a : occurrences 0 (numbers_of_worker es w) ≡ 0 = times_below 0 (worker_words mem w).done 0 (numbers_of_worker es w) account.numbered (omega arith) in
          let b : occurrences 0 (withdrawn_numbers es w (worker_words mem w).done) ≡ 0 = low_times gone 0 1 (worker_words mem w).done (omega arith) in
          omega (arith, a, b, in_stance 0, none_yet (is_pending (worker_words mem w)) refl)

  pub shown_is : IsState s (abstract_state s mem privs es)
  shown_is = record {
    workers = made_long (λ (u : ℕ). abstract_worker s mem privs es u) s.workers;
    matches = matches_shown;
    jobs = λ w me at. (let here = its w me at in
        subst (λ (x : WorkerState). HasShapedJob s x.stance) (sym here.1) (stance_shaped w (lock_owned_by_worker s mem w) (is_pending (worker_words mem w)) here.0 refl));
    once = λ w me at. (let here = its w me at in
        subst (λ (x : WorkerState). IsOnce (number_uses es w x) x.asked) (sym here.1) (once_shown w here.0));
    legal = fact.legal;
  }

-- ---- the theorems

pub begins_is : (shape : Shape) (state : MachineState) → IsStartState shape state → IsState shape state
begins_is shape state (inl opens) = subst (λ (s : MachineState). IsState shape s) (sym opens) (opening_is shape)
begins_is shape state (inr (memory, privates, history, fact, shows)) = subst (λ (s : MachineState). IsState shape s) (sym shows) (shown_is shape memory privates history fact)

pub reached_is : (shape : Shape) (state : MachineState) → IsReachable shape state → IsState shape state
reached_is shape state reached = run_keeps shape reached.labels reached.start state reached.run (begins_is shape reached.start reached.begins)

pub exclusion : ExclusionLaw
exclusion shape state reached =
    let is : IsState shape state = reached_is shape state reached in
    record {
      inside = is.matches.inside;
      owner = is.matches.owner;
      one = λ lock w u me you at there stays also. (let mine = is.matches.inside lock w me at stays in let yours = is.matches.inside lock u you there also in
          (let same : Some (Some u) ≡ Some (Some w) = sym yours ∙ mine in cc));
    }

-- The numbers of a worker that is outside the shape.
strangers : (s : Shape) (earlier es : List Entry) (w : ℕ) → s.workers ≤ w → HistoryIsLegalAfter s earlier es → numbers_of_worker es w ≡ []
unfolding numbers_of_worker
strangers s earlier [] w over legal = refl
strangers s earlier (e ∷ es) w over (due, later) = rw (ne_eqb e.receipt.worker w (λ q. omega (arith, q, over, due.worker))) (strangers s (earlier ++ e ∷ []) es w over later)

pub once : OnceLaw
once shape state reached =
    let is : IsState shape state = reached_is shape state reached in
    record {
      each = λ w me at. (is.once w me at).each;
      zero = λ w me at. (is.once w me at).zero;
      beyond = λ w me at. (is.once w me at).beyond;
      pairs = λ w k. by_worker is w k (slice_get state.workers w) refl;
      legal = is.legal;
    }
  where
    few : (places : ℕ → ℕ) (asked k : ℕ) → IsOnce places asked → places k ≤ 1
    few places asked zero once_ = omega (arith, once_.zero)
    few places asked (suc k) once_ = elim (cases_lt asked (suc k)) [
      | inl over ↦ omega (arith, once_.beyond (suc k) over)
      | inr within ↦ omega (arith, once_.each (suc k) (omega arith) within)
    ]

    by_worker : IsState shape state → (w k : ℕ) (found : Option WorkerState) → slice_get state.workers w ≡ found → occurrences k (numbers_of_worker state.history w) ≤ 1
    by_worker is w k (Some me) at = omega (arith, few (number_uses state.history w me) me.asked k (is.once w me at))
    by_worker is w k None at =
        let over : shape.workers ≤ w = absent state.workers w at is.workers in
        omega (arith, ap (occurrences k) (strangers shape [] state.history w over is.legal), none_times k)
      where
        absent : (workers : List WorkerState) (i : ℕ) → slice_get workers i ≡ None → length workers ≡ shape.workers → shape.workers ≤ i
        absent workers i none long = elim (slice_get_cases workers i).1 [
          | inl (x, within, found, is_x) ↦ absurd (none-some x (sym none ∙ found))
          | inr (past, none_) ↦ omega (arith, past, long)
        ]

-- ---- re-entry

leave_same : (v w l k : ℕ) → v ≡ w → l ≡ k → Of v (Leave l) ≡ Of w (Leave k)
leave_same v w l k a b = rw (a, b) refl

-- While a worker owns a lock and does not leave it, it stays the owner, and no other worker is in its section.
owner_stays : (shape : Shape) (act : Act) (old : MachineState) (u : ℕ) (me : WorkerState) (new : MachineState) (w lock : ℕ) → slice_get old.workers u ≡ Some me → ActEffect shape act old u me new → IsState shape old
    → slice_get old.owners lock ≡ Some (Some w) → (Of u act ≢ Of w (Leave lock)) → (IsSectionAct act lock → u ≡ w) × (slice_get new.owners lock ≡ Some (Some w))
owner_stays shape (Hand k job) old u me new w lock at (up, idle, is, next, few, then_) was owns stays = ((λ a. absurd a), ap (λ (s : MachineState). slice_get s.owners lock) then_ ∙ owns)
owner_stays shape (Ask k) old u me new w lock at (job, up, handed, next, then_) was owns stays = ((λ a. absurd a), ap (λ (s : MachineState). slice_get s.owners lock) then_ ∙ owns)
owner_stays shape (Take here) old u me new w lock at (k, job, up, waits, there, free, then_) was owns stays =
    let apart : lock ≢ here = λ e. taken_free here (subst (λ (l : ℕ). slice_get old.owners l ≡ Some (Some w)) e owns) free in
    ((λ e. absurd (apart (sym e))), ap (λ (s : MachineState). slice_get s.owners lock) then_ ∙ get_set_other old.owners here lock (Some u) apart ∙ owns)
  where
    taken_free : (l : ℕ) → slice_get old.owners l ≡ Some (Some w) → slice_get old.owners l ≡ Some None → ⊥
    taken_free l e f = let g : Some (Some w) ≡ Some None = sym e ∙ f in cc
owner_stays shape (Finish receipt) old u me new w lock at (k, job, up, entered, inside, is, then_) was owns stays =
    let mine : receipt.lock ≡ lock → u ≡ w = λ e. same_here (was.matches.inside lock u me at (subst (λ (s : JobStance). IsInSectionOf s lock) (sym inside) (sym (ap (λ (r : _). r.lock) is) ∙ e))) in
    (mine, ap (λ (s : MachineState). slice_get s.owners lock) then_ ∙ owns)
  where
    same_here : slice_get old.owners lock ≡ Some (Some u) → u ≡ w
    same_here e = let g : Some (Some u) ≡ Some (Some w) = sym e ∙ owns in cc
owner_stays shape (Leave here) old u me new w lock at (k, job, up, entered, done, there, then_) was owns stays =
    let owned : slice_get old.owners here ≡ Some (Some u) = was.matches.inside here u me at (subst (λ (s : JobStance). IsInSectionOf s here) (sym done) there) in
    let apart : lock ≢ here = λ at_here. left_own owned (subst (λ (l : ℕ). slice_get old.owners l ≡ Some (Some w)) at_here owns) at_here in
    ((λ e. absurd (apart (sym e))), ap (λ (s : MachineState). slice_get s.owners lock) then_ ∙ get_set_other old.owners here lock None apart ∙ owns)
  where
    left_own : slice_get old.owners here ≡ Some (Some u) → slice_get old.owners here ≡ Some (Some w) → lock ≡ here → ⊥
    left_own e f at_here = let g : Some (Some u) ≡ Some (Some w) = sym e ∙ f in let same : u ≡ w = cc in stays (leave_same u w here lock same (sym at_here))
owner_stays shape (Withdraw k) old u me new w lock at (job, up, waits, then_) was owns stays = ((λ a. absurd a), ap (λ (s : MachineState). slice_get s.owners lock) then_ ∙ owns)
owner_stays shape Crash old u me new w lock at (up, then_) was owns stays = ((λ a. absurd a), ap (λ (s : MachineState). slice_get s.owners lock) then_ ∙ owns)
owner_stays shape Restart old u me new w lock at (down, then_) was owns stays = ((λ a. absurd a), ap (λ (s : MachineState). slice_get s.owners lock) then_ ∙ owns)
owner_stays shape (Reenter here) old u me new w lock at (up, out, on, then_) was owns stays =
    let mine : here ≡ lock → u ≡ w = λ e. same_here (was.matches.inside lock u me at (subst (λ (l : ℕ). IsInSectionOf me.stance l) e on)) in
    (mine, ap (λ (s : MachineState). slice_get s.owners lock) then_ ∙ owns)
  where
    same_here : slice_get old.owners lock ≡ Some (Some u) → u ≡ w
    same_here e = let g : Some (Some u) ≡ Some (Some w) = sym e ∙ owns in cc
owner_stays shape Still old u me new w lock at (up, then_) was owns stays = ((λ a. absurd a), ap (λ (s : MachineState). slice_get s.owners lock) then_ ∙ owns)
owner_stays shape Wait old u me new w lock at (k, job, up, waits, then_) was owns stays = ((λ a. absurd a), ap (λ (s : MachineState). slice_get s.owners lock) then_ ∙ owns)

alone : (shape : Shape) (w lock : ℕ) (labels : List Label) (old new : MachineState) → IsState shape old → slice_get old.owners lock ≡ Some (Some w) → MachineRun shape old labels new → HasNoLeave w lock labels
    → OnlyWorkerAt w lock labels × (slice_get new.owners lock ≡ Some (Some w))
alone shape w lock [] old new was owns run none = (tt, ap (λ (s : MachineState). slice_get s.owners lock) run ∙ owns)
alone shape w lock (Nothing ∷ labels) old new was owns (mid, step, rest) none =
    let later_ = alone shape w lock labels mid new (label_keeps shape Nothing old mid step was) (ap (λ (s : MachineState). slice_get s.owners lock) step ∙ owns) rest none.1 in
    (((λ u act e at. absurd (nothing_of u act e)), later_.0), later_.1)
  where
    nothing_of : (u : ℕ) (act : Act) → Nothing ≡ Of u act → ⊥
    nothing_of u act e = cc
alone shape w lock (Of u act ∷ labels) old new was owns (mid, step, rest) none =
    let here = owner_stays shape act old u step.me mid w lock step.is_me step.goes was owns none.0 in
    let later_ = alone shape w lock labels mid new (label_keeps shape (Of u act) old mid step was) here.1 rest none.1 in
    (((λ v a e at. same_worker v a e (here.0 (subst (λ (x : Act). IsSectionAct x lock) (sym (same_act v a e)) at))), later_.0), later_.1)
  where
    same_act : (v : ℕ) (a : Act) → Of u act ≡ Of v a → act ≡ a
    same_act v a e = cc

    same_worker : (v : ℕ) (a : Act) → Of u act ≡ Of v a → u ≡ w → v ≡ w
    same_worker v a e mine = (let f : u ≡ v = cc in sym f ∙ mine)

taken_owner : (shape : Shape) (before after : MachineState) (w lock : ℕ) → LabelStep shape (Of w (Take lock)) before after → slice_get after.owners lock ≡ Some (Some w)
taken_owner shape before after w lock step =
    let (k, job, up, waits, there, free, then_) = step.goes in
    ap (λ (s : MachineState). slice_get s.owners lock) then_ ∙ get_set before.owners lock (Some w) (slice_get_within before.owners lock None free)

pub reentry : ReentryLaw
reentry = record {
  taken = λ shape before after later_ w lock labels reached take run none.
      alone shape w lock labels after later_ (label_keeps shape (Of w (Take lock)) before after take (reached_is shape before reached)) (taken_owner shape before after w lock take) run none;
  owned = λ shape before later_ w lock labels reached owns run none. alone shape w lock labels before later_ (reached_is shape before reached) owns run none;
}

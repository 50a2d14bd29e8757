-- The theorems of the abstract machine: the invariants of every state that a run reaches.
use Rattle.std.proofs.Common.{◌≡◌, ◌≢◌, ℕ, ◌+◌, ◌<◌, ◌≤◌, List, [], ◌∷◌, ◌++◌, length, refl, sym, ◌∙◌, ap, subst, inl, inr, arith}
use Rattle.std.specs.Prelude.{◌==◌, if◌then◌else◌, Option, Some, None, slice_get, slice_set}
use Rattle.std.proofs.lemmas.Bool.{cases_eq, cases_Bool, eq-eqb, ne_eqb}
use Rattle.std.proofs.lemmas.List.{length-set}
use Rattle.std.proofs.lemmas.Option.{same_Some, slice_get_within}
use Rattle.rme_words.specs.declared.shape.Shape.{Shape}
use Rattle.rme_program.specs.declared.note.Entry.{Entry}
use Rattle.rme_script.specs.Jobs.{IsJob}
use Rattle.rme_machine.specs.declared.stance.JobStance.{JobStance}
use Rattle.rme_machine.specs.declared.stance.JobStance.TheVariants.{Idle, Handed, Waiting, Inside, Finished}
use Rattle.rme_machine.specs.declared.label.Act.{Act}
use Rattle.rme_machine.specs.declared.label.Act.TheVariants.{Hand, Ask, Take, Finish, Leave, Withdraw, Crash, Restart, Reenter, Still, Wait}
use Rattle.rme_machine.specs.declared.label.Label.{Label}
use Rattle.rme_machine.specs.declared.label.Label.TheVariants.{Nothing, Of}
use Rattle.rme_machine.specs.Histories.{numbers_of_worker, IsLegalNextEntry, HistoryIsLegal}
use Rattle.rme_machine.specs.Machine.{MachineState, WorkerState, IsInSectionOf, ActEffect, LabelStep, MachineRun, stance_after_crash}
use Rattle.rme_machine.specs.Theorems.{occurrences, stance_holds_number, number_uses}
use Rattle.rme_machine.proofs.Historical.{legal_more, numbers_same, numbers_other}
use Rattle.rme_machine.proofs.Lists.{get_set, get_set_other}

-- ---- the worker in a lock's section, and the lock's owner

-- A worker in the section of a lock is its owner, and the owner of a lock is in its section.
pub record Matches (owners : List (Option ℕ)) (workers : List WorkerState) : Type 0 where
  pub inside : (lock w : ℕ) (me : WorkerState) → slice_get workers w ≡ Some me → IsInSectionOf me.stance lock → slice_get owners lock ≡ Some (Some w)
  pub owner : (lock w : ℕ) → slice_get owners lock ≡ Some (Some w) → (me : WorkerState) × (slice_get workers w ≡ Some me) × IsInSectionOf me.stance lock

some_none : (w : ℕ) (found : Option (Option ℕ)) → found ≡ Some (Some w) → found ≡ Some None → ⊥
some_none w found e f = let g : Some (Some w) ≡ Some None = sym e ∙ f in cc

same_owner : (u w : ℕ) (found : Option (Option ℕ)) → found ≡ Some (Some u) → found ≡ Some (Some w) → u ≡ w
same_owner u w found e f = let g : Some (Some u) ≡ Some (Some w) = sym e ∙ f in cc

module _ (owners : List (Option ℕ)) (workers : List WorkerState) (w : ℕ) (me new : WorkerState) (is_me : slice_get workers w ≡ Some me) (was : Matches owners workers) where
  here : slice_get (slice_set workers w new) w ≡ Some new
  here = get_set workers w new (slice_get_within workers w me is_me)

  off : (u : ℕ) → u ≢ w → slice_get (slice_set workers w new) u ≡ slice_get workers u
  off u apart = get_set_other workers w u new apart

  -- The worker is in the sections of the same locks.
  pub stays_same : ((l : ℕ) → IsInSectionOf new.stance l → IsInSectionOf me.stance l) → ((l : ℕ) → IsInSectionOf me.stance l → IsInSectionOf new.stance l) → Matches owners (slice_set workers w new)
  stays_same back forth = record { inside = inside; owner = owner }
    where
      inside : (l u : ℕ) (you : WorkerState) → slice_get (slice_set workers w new) u ≡ Some you → IsInSectionOf you.stance l → slice_get owners l ≡ Some (Some u)
      inside l u you at stays = elim (cases_eq u w) [
        | inl same ↦
            (let mine : new ≡ you = same_Some new you (sym here ∙ subst (λ (v : ℕ). slice_get (slice_set workers w new) v ≡ Some you) same at) in
            let S : WorkerState → Type 0 = λ (x : WorkerState). IsInSectionOf x.stance l in
            subst (λ (v : ℕ). slice_get owners l ≡ Some (Some v)) (sym same) (was.inside l w me is_me (back l (subst S (sym mine) stays))))
        | inr apart ↦ was.inside l u you (sym (off u apart) ∙ at) stays
      ]

      owner : (l u : ℕ) → slice_get owners l ≡ Some (Some u) → (you : WorkerState) × (slice_get (slice_set workers w new) u ≡ Some you) × IsInSectionOf you.stance l
      owner l u owns =
          let old = was.owner l u owns in
          elim (cases_eq u w) [
            | inl same ↦
                (let mine : me ≡ old.0 = same_Some me old.0 (sym is_me ∙ subst (λ (v : ℕ). slice_get workers v ≡ Some old.0) same old.1) in
                let S : WorkerState → Type 0 = λ (x : WorkerState). IsInSectionOf x.stance l in
                (new, subst (λ (v : ℕ). slice_get (slice_set workers w new) v ≡ Some new) (sym same) here, forth l (subst S (sym mine) old.2)))
            | inr apart ↦ (old.0, off u apart ∙ old.1, old.2)
          ]

  -- The worker takes a free lock, and was in no section.
  pub stays_taken : (lock : ℕ) → slice_get owners lock ≡ Some None → ((l : ℕ) → IsInSectionOf new.stance l → l ≡ lock) → ((l : ℕ) → IsInSectionOf me.stance l → ⊥) → IsInSectionOf new.stance lock
      → Matches (slice_set owners lock (Some w)) (slice_set workers w new)
  stays_taken lock free only none stays_there = record { inside = inside; owner = owner }
    where
      owned : slice_get (slice_set owners lock (Some w)) lock ≡ Some (Some w)
      owned = get_set owners lock (Some w) (slice_get_within owners lock None free)

      inside : (l u : ℕ) (you : WorkerState) → slice_get (slice_set workers w new) u ≡ Some you → IsInSectionOf you.stance l → slice_get (slice_set owners lock (Some w)) l ≡ Some (Some u)
      inside l u you at stays = elim (cases_eq u w) [
        | inl same ↦
            (let mine : new ≡ you = same_Some new you (sym here ∙ subst (λ (v : ℕ). slice_get (slice_set workers w new) v ≡ Some you) same at) in
            let S : WorkerState → Type 0 = λ (x : WorkerState). IsInSectionOf x.stance l in
            let there : l ≡ lock = only l (subst S (sym mine) stays) in
            subst (λ (v : ℕ). slice_get (slice_set owners lock (Some w)) l ≡ Some (Some v)) (sym same)
            (subst (λ (k : ℕ). slice_get (slice_set owners lock (Some w)) k ≡ Some (Some w)) (sym there) owned))
        | inr apart ↦
            (let old : slice_get owners l ≡ Some (Some u) = was.inside l u you (sym (off u apart) ∙ at) stays in
            elim (cases_eq l lock) [
              | inl there ↦ absurd (some_none u (slice_get owners lock) (subst (λ (k : ℕ). slice_get owners k ≡ Some (Some u)) there old) free)
              | inr else_ ↦ get_set_other owners lock l (Some w) else_ ∙ old
            ])
      ]

      owner : (l u : ℕ) → slice_get (slice_set owners lock (Some w)) l ≡ Some (Some u) → (you : WorkerState) × (slice_get (slice_set workers w new) u ≡ Some you) × IsInSectionOf you.stance l
      owner l u owns = elim (cases_eq l lock) [
        | inl there ↦
            (let mine : u ≡ w = same_owner u w (slice_get (slice_set owners lock (Some w)) lock) (subst (λ (k : ℕ). slice_get (slice_set owners lock (Some w)) k ≡ Some (Some u)) there owns) owned in
            (new, subst (λ (v : ℕ). slice_get (slice_set workers w new) v ≡ Some new) (sym mine) here, subst (λ (k : ℕ). IsInSectionOf new.stance k) (sym there) stays_there))
        | inr else_ ↦
            (let old = was.owner l u (sym (get_set_other owners lock l (Some w) else_) ∙ owns) in
            elim (cases_eq u w) [
              | inl same ↦
                  (let mine : me ≡ old.0 = same_Some me old.0 (sym is_me ∙ subst (λ (v : ℕ). slice_get workers v ≡ Some old.0) same old.1) in
                  let S : WorkerState → Type 0 = λ (x : WorkerState). IsInSectionOf x.stance l in
                  absurd (none l (subst S (sym mine) old.2)))
              | inr apart ↦ (old.0, off u apart ∙ old.1, old.2)
            ])
      ]

  -- The worker leaves the lock in whose section it was.
  pub stays_left : (lock : ℕ) → IsInSectionOf me.stance lock → ((l : ℕ) → IsInSectionOf me.stance l → l ≡ lock) → ((l : ℕ) → IsInSectionOf new.stance l → ⊥)
      → Matches (slice_set owners lock None) (slice_set workers w new)
  stays_left lock stayed only none = record { inside = inside; owner = owner }
    where
      owned : slice_get owners lock ≡ Some (Some w)
      owned = was.inside lock w me is_me stayed

      freed : slice_get (slice_set owners lock None) lock ≡ Some None
      freed = get_set owners lock None (slice_get_within owners lock (Some w) owned)

      inside : (l u : ℕ) (you : WorkerState) → slice_get (slice_set workers w new) u ≡ Some you → IsInSectionOf you.stance l → slice_get (slice_set owners lock None) l ≡ Some (Some u)
      inside l u you at stays = elim (cases_eq u w) [
        | inl same ↦
            (let mine : new ≡ you = same_Some new you (sym here ∙ subst (λ (v : ℕ). slice_get (slice_set workers w new) v ≡ Some you) same at) in
            let S : WorkerState → Type 0 = λ (x : WorkerState). IsInSectionOf x.stance l in
            absurd (none l (subst S (sym mine) stays)))
        | inr apart ↦
            (let old : slice_get owners l ≡ Some (Some u) = was.inside l u you (sym (off u apart) ∙ at) stays in
            elim (cases_eq l lock) [
              | inl there ↦ absurd (apart (same_owner u w (slice_get owners lock) (subst (λ (k : ℕ). slice_get owners k ≡ Some (Some u)) there old) owned))
              | inr else_ ↦ get_set_other owners lock l None else_ ∙ old
            ])
      ]

      owner : (l u : ℕ) → slice_get (slice_set owners lock None) l ≡ Some (Some u) → (you : WorkerState) × (slice_get (slice_set workers w new) u ≡ Some you) × IsInSectionOf you.stance l
      owner l u owns = elim (cases_eq l lock) [
        | inl there ↦ absurd (some_none u (slice_get (slice_set owners lock None) lock) (subst (λ (k : ℕ). slice_get (slice_set owners lock None) k ≡ Some (Some u)) there owns) freed)
        | inr else_ ↦
            (let old = was.owner l u (sym (get_set_other owners lock l None else_) ∙ owns) in
            elim (cases_eq u w) [
              | inl same ↦
                  (let mine : me ≡ old.0 = same_Some me old.0 (sym is_me ∙ subst (λ (v : ℕ). slice_get workers v ≡ Some old.0) same old.1) in
                  let S : WorkerState → Type 0 = λ (x : WorkerState). IsInSectionOf x.stance l in
                  absurd (else_ (only l (subst S (sym mine) old.2))))
              | inr apart ↦ (old.0, off u apart ∙ old.1, old.2)
            ])
      ]

-- ---- the uses of a number

-- Each number from 1 to `asked` has one use, and no other number has any.
pub record IsOnce (places : ℕ → ℕ) (asked : ℕ) : Type 0 where
  pub each : (k : ℕ) → 1 ≤ k → k ≤ asked → places k ≡ 1
  pub zero : places 0 ≡ 0
  pub beyond : (k : ℕ) → asked < k → places k ≡ 0

pub once_same : (places places' : ℕ → ℕ) (asked asked' : ℕ) → asked' ≡ asked → ((k : ℕ) → places' k ≡ places k) → IsOnce places asked → IsOnce places' asked'
once_same places places' asked asked' e same once = record {
  each = λ k low high. same k ∙ once.each k low (omega (arith, high, e));
  zero = same 0 ∙ once.zero;
  beyond = λ k over. same k ∙ once.beyond k (omega (arith, over, e));
}

-- The worker asks under one more number.
pub once_more : (places places' : ℕ → ℕ) (asked n : ℕ) → n ≡ asked + 1 → ((k : ℕ) → places' k ≡ places k + (if n == k then 1 else 0)) → IsOnce places asked → IsOnce places' n
once_more places places' asked n next more once = record {
  each = λ k low high. elim (cases_eq n k) [
    | inl same ↦ (let e : places' k ≡ places k + 1 = rw (eq-eqb n k same) at (more k) in omega (arith, e, once.beyond k (omega (arith, next, same))))
    | inr apart ↦ (let e : places' k ≡ places k + 0 = rw (ne_eqb n k apart) at (more k) in omega (arith, e, once.each k low (omega (arith, high, next, apart))))
  ];
  zero = (let apart : n ≢ 0 = λ e. omega (arith, e, next) in let e : places' 0 ≡ places 0 + 0 = rw (ne_eqb n 0 apart) at (more 0) in omega (arith, e, once.zero));
  beyond = λ k over. (let apart : n ≢ k = λ e. omega (arith, e, over) in let e : places' k ≡ places k + 0 = rw (ne_eqb n k apart) at (more k) in omega (arith, e, once.beyond k (omega (arith, over, next))));
}

-- A number appended to a list.
pub times_more : (k n : ℕ) (ns : List ℕ) → occurrences k (ns ++ n ∷ []) ≡ occurrences k ns + (if n == k then 1 else 0)
unfolding occurrences
times_more k n [] = elim (cases_Bool (n == k)) [ inl t ↦ rw t refl | inr f ↦ rw f refl ]
times_more k n (m ∷ ns) = elim (cases_Bool (m == k)) [
  | inl t ↦ rw t (omega (arith, times_more k n ns))
  | inr f ↦ rw f (times_more k n ns)
]

pub none_times : (k : ℕ) → occurrences k [] ≡ 0
unfolding occurrences
none_times k = refl

-- ---- the invariant of every reached state

-- The job of a stance is of the shape.
abbrev pub HasShapedJob : Shape → JobStance → Type 0
HasShapedJob shape Idle = Unit {0}
HasShapedJob shape (Handed job) = IsJob shape job
HasShapedJob shape (Waiting k job) = IsJob shape job
HasShapedJob shape (Inside k job) = IsJob shape job
HasShapedJob shape (Finished k job) = Unit {0}

pub record IsState (shape : Shape) (state : MachineState) : Type 0 where
  pub workers : length state.workers ≡ shape.workers
  pub matches : Matches state.owners state.workers
  pub jobs : (w : ℕ) (me : WorkerState) → slice_get state.workers w ≡ Some me → HasShapedJob shape me.stance
  pub once : (w : ℕ) (me : WorkerState) → slice_get state.workers w ≡ Some me → IsOnce (number_uses state.history w me) me.asked
  pub legal : HistoryIsLegal shape state.history

-- One worker's state is replaced; each of the others and its entries are unchanged.
module _ (shape : Shape) (old : MachineState) (w : ℕ) (me new : WorkerState) (history : List Entry) (is_me : slice_get old.workers w ≡ Some me) (was : IsState shape old)
    (others : (u : ℕ) → u ≢ w → numbers_of_worker history u ≡ numbers_of_worker old.history u) where
  jobs_with : HasShapedJob shape new.stance → (u : ℕ) (you : WorkerState) → slice_get (slice_set old.workers w new) u ≡ Some you → HasShapedJob shape you.stance
  jobs_with shaped u you at = elim (cases_eq u w) [
    | inl same ↦
        (let mine : new ≡ you = same_Some new you (sym (here old.owners old.workers w me new is_me was.matches) ∙ subst (λ (v : ℕ). slice_get (slice_set old.workers w new) v ≡ Some you) same at) in
        subst (λ (x : WorkerState). HasShapedJob shape x.stance) mine shaped)
    | inr apart ↦ was.jobs u you (sym (off old.owners old.workers w me new is_me was.matches u apart) ∙ at)
  ]

  once_with : IsOnce (number_uses history w new) new.asked → (u : ℕ) (you : WorkerState) → slice_get (slice_set old.workers w new) u ≡ Some you → IsOnce (number_uses history u you) you.asked
  once_with once u you at = elim (cases_eq u w) [
    | inl same ↦
        (let mine : new ≡ you = same_Some new you (sym (here old.owners old.workers w me new is_me was.matches) ∙ subst (λ (v : ℕ). slice_get (slice_set old.workers w new) v ≡ Some you) same at) in
        subst (λ (v : ℕ). IsOnce (number_uses history v you) you.asked) (sym same) (subst (λ (x : WorkerState). IsOnce (number_uses history w x) x.asked) mine once))
    | inr apart ↦
        once_same (number_uses old.history u you) (number_uses history u you) you.asked you.asked refl
        (λ k. ap (λ (ns : List ℕ). occurrences k ns + occurrences k you.withdrawn + stance_holds_number you.stance k) (others u apart))
        (was.once u you (sym (off old.owners old.workers w me new is_me was.matches u apart) ∙ at))
  ]

  pub state_with : (owners : List (Option ℕ)) → Matches owners (slice_set old.workers w new) → HasShapedJob shape new.stance → IsOnce (number_uses history w new) new.asked → HistoryIsLegal shape history
      → IsState shape record { owners = owners; workers = slice_set old.workers w new; history = history }
  state_with owners matches shaped once legal = record {
    workers = length-set old.workers w new ∙ was.workers;
    matches = matches;
    jobs = jobs_with shaped;
    once = once_with once;
    legal = legal;
  }

fallen_back : (s : JobStance) (l : ℕ) → IsInSectionOf (stance_after_crash s) l → IsInSectionOf s l
fallen_back Idle l stays = stays
fallen_back (Handed job) l stays = absurd stays
fallen_back (Waiting k job) l stays = stays
fallen_back (Inside k job) l stays = stays
fallen_back (Finished k job) l stays = stays

fallen_forth : (s : JobStance) (l : ℕ) → IsInSectionOf s l → IsInSectionOf (stance_after_crash s) l
fallen_forth Idle l stays = stays
fallen_forth (Handed job) l stays = absurd stays
fallen_forth (Waiting k job) l stays = stays
fallen_forth (Inside k job) l stays = stays
fallen_forth (Finished k job) l stays = stays

fallen_shaped : (shape : Shape) (s : JobStance) → HasShapedJob shape s → HasShapedJob shape (stance_after_crash s)
fallen_shaped shape Idle is = tt
fallen_shaped shape (Handed job) is = tt
fallen_shaped shape (Waiting k job) is = is
fallen_shaped shape (Inside k job) is = is
fallen_shaped shape (Finished k job) is = tt

fallen_under : (s : JobStance) (k : ℕ) → stance_holds_number (stance_after_crash s) k ≡ stance_holds_number s k
fallen_under Idle k = refl
fallen_under (Handed job) k = refl
fallen_under (Waiting n job) k = refl
fallen_under (Inside n job) k = refl
fallen_under (Finished n job) k = refl

-- Each step preserves it.
pub step_keeps : (shape : Shape) (act : Act) (old : MachineState) (w : ℕ) (me : WorkerState) (new : MachineState) → slice_get old.workers w ≡ Some me → ActEffect shape act old w me new → IsState shape old → IsState shape new
step_keeps shape (Hand k job) old w me new at (up, idle, is, next, few, then_) was =
    let S : JobStance → Type 0 = λ (s : JobStance). (l : ℕ) → IsInSectionOf s l → ⊥ in
    let none : (l : ℕ) → IsInSectionOf me.stance l → ⊥ = subst S (sym idle) (λ l stays. stays) in
    subst (λ (s : MachineState). IsState shape s) (sym then_)
    (state_with shape old w me _ old.history at was (λ u apart. refl) old.owners
    (stays_same old.owners old.workers w me _ at was.matches (λ l stays. absurd stays) (λ l stays. none l stays)) is
    (once_same (number_uses old.history w me) _ me.asked me.asked refl (λ k. ap (λ (s : JobStance). occurrences k (numbers_of_worker old.history w) + occurrences k me.withdrawn + stance_holds_number s k) (sym idle)) (was.once w me at)) was.legal)
step_keeps shape (Ask k) old w me new at (job, up, handed, next, then_) was =
    let S : JobStance → Type 0 = λ (s : JobStance). (l : ℕ) → IsInSectionOf s l → ⊥ in
    let none : (l : ℕ) → IsInSectionOf me.stance l → ⊥ = subst S (sym handed) (λ l stays. stays) in
    let shaped : IsJob shape job = subst (λ (s : JobStance). HasShapedJob shape s) handed (was.jobs w me at) in
    subst (λ (s : MachineState). IsState shape s) (sym then_)
    (state_with shape old w me _ old.history at was (λ u apart. refl) old.owners
    (stays_same old.owners old.workers w me _ at was.matches (λ l stays. absurd stays) (λ l stays. none l stays)) shaped
    (once_more (number_uses old.history w me) _ me.asked k next
    (λ j. (let e : stance_holds_number me.stance j ≡ 0 = ap (λ (s : JobStance). stance_holds_number s j) handed in omega (arith, e))) (was.once w me at)) was.legal)
step_keeps shape (Take lock) old w me new at (k, job, up, waits, there, free, then_) was =
    let S : JobStance → Type 0 = λ (s : JobStance). (l : ℕ) → IsInSectionOf s l → ⊥ in
    let none : (l : ℕ) → IsInSectionOf me.stance l → ⊥ = subst S (sym waits) (λ l stays. stays) in
    let shaped : IsJob shape job = subst (λ (s : JobStance). HasShapedJob shape s) waits (was.jobs w me at) in
    subst (λ (s : MachineState). IsState shape s) (sym then_)
    (state_with shape old w me _ old.history at was (λ u apart. refl) (slice_set old.owners lock (Some w))
    (stays_taken old.owners old.workers w me _ at was.matches lock free (λ l stays. sym stays ∙ there) none there) shaped
    (once_same (number_uses old.history w me) _ me.asked me.asked refl (λ j. ap (λ (s : JobStance). occurrences j (numbers_of_worker old.history w) + occurrences j me.withdrawn + stance_holds_number s j) (sym waits)) (was.once w me at)) was.legal)
step_keeps shape (Finish receipt) old w me new at (k, job, up, entered, inside, is, then_) was =
    let e : Entry = record { receipt = receipt; script = job.script } in
    let by : e.receipt.worker ≡ w = ap (λ (r : _). r.worker) is in
    let number : e.receipt.number ≡ k = ap (λ (r : _). r.number) is in
    let here_ : e.receipt.lock ≡ job.lock = ap (λ (r : _). r.lock) is in
    let back : (l : ℕ) → job.lock ≡ l → IsInSectionOf me.stance l = λ l stays. subst (λ (s : JobStance). IsInSectionOf s l) (sym inside) stays in
    let forth : (l : ℕ) → IsInSectionOf me.stance l → job.lock ≡ l = λ l stays. subst (λ (s : JobStance). IsInSectionOf s l) inside stays in
    let shaped : IsJob shape job = subst (λ (s : JobStance). HasShapedJob shape s) inside (was.jobs w me at) in
    let due : IsLegalNextEntry shape old.history e = rw is record { worker = omega (arith, slice_get_within old.workers w me at, was.workers); follows = record { job = shaped; place = refl; reply = refl } } in
    subst (λ (s : MachineState). IsState shape s) (sym then_)
    (state_with shape old w me _ (old.history ++ e ∷ []) at was (λ u apart. numbers_other old.history e u (λ q. apart (sym q ∙ by))) old.owners
    (stays_same old.owners old.workers w me _ at was.matches back forth) tt
    (once_same (number_uses old.history w me) _ me.asked me.asked refl
    (λ j. (let a : occurrences j (numbers_of_worker (old.history ++ e ∷ []) w) ≡ occurrences j (numbers_of_worker old.history w) + (if k == j then 1 else 0)
    = ap (occurrences j) (numbers_same old.history e w by) ∙ times_more j e.receipt.number (numbers_of_worker old.history w) ∙ ap (λ (n : ℕ). occurrences j (numbers_of_worker old.history w) + (if n == j then 1 else 0)) number in
    let b : stance_holds_number me.stance j ≡ (if k == j then 1 else 0) = ap (λ (s : JobStance). stance_holds_number s j) inside in omega (arith, a, b))) (was.once w me at))
    (legal_more shape old.history e was.legal due))
step_keeps shape (Leave lock) old w me new at (k, job, up, entered, done, there, then_) was =
    let back : (l : ℕ) → IsInSectionOf me.stance l → job.lock ≡ l = λ l stays. subst (λ (s : JobStance). IsInSectionOf s l) done stays in
    subst (λ (s : MachineState). IsState shape s) (sym then_)
    (state_with shape old w me _ old.history at was (λ u apart. refl) (slice_set old.owners lock None)
    (stays_left old.owners old.workers w me _ at was.matches lock (subst (λ (s : JobStance). IsInSectionOf s lock) (sym done) there) (λ l stays. sym (back l stays) ∙ there) (λ l stays. stays)) tt
    (once_same (number_uses old.history w me) _ me.asked me.asked refl (λ j. ap (λ (s : JobStance). occurrences j (numbers_of_worker old.history w) + occurrences j me.withdrawn + stance_holds_number s j) (sym done)) (was.once w me at)) was.legal)
step_keeps shape (Withdraw k) old w me new at (job, up, waits, then_) was =
    let S : JobStance → Type 0 = λ (s : JobStance). (l : ℕ) → IsInSectionOf s l → ⊥ in
    let none : (l : ℕ) → IsInSectionOf me.stance l → ⊥ = subst S (sym waits) (λ l stays. stays) in
    subst (λ (s : MachineState). IsState shape s) (sym then_)
    (state_with shape old w me _ old.history at was (λ u apart. refl) old.owners
    (stays_same old.owners old.workers w me _ at was.matches (λ l stays. absurd stays) (λ l stays. none l stays)) tt
    (once_same (number_uses old.history w me) _ me.asked me.asked refl
    (λ j. (let a = times_more j k me.withdrawn in let b : stance_holds_number me.stance j ≡ (if k == j then 1 else 0) = ap (λ (s : JobStance). stance_holds_number s j) waits in omega (arith, a, b))) (was.once w me at)) was.legal)
step_keeps shape Crash old w me new at (up, then_) was =
    subst (λ (s : MachineState). IsState shape s) (sym then_)
    (state_with shape old w me _ old.history at was (λ u apart. refl) old.owners
    (stays_same old.owners old.workers w me _ at was.matches (fallen_back me.stance) (fallen_forth me.stance)) (fallen_shaped shape me.stance (was.jobs w me at))
    (once_same (number_uses old.history w me) _ me.asked me.asked refl (λ j. ap (λ (n : ℕ). occurrences j (numbers_of_worker old.history w) + occurrences j me.withdrawn + n) (fallen_under me.stance j)) (was.once w me at)) was.legal)
step_keeps shape Restart old w me new at (down, then_) was =
    subst (λ (s : MachineState). IsState shape s) (sym then_)
    (state_with shape old w me _ old.history at was (λ u apart. refl) old.owners
    (stays_same old.owners old.workers w me _ at was.matches (λ l stays. stays) (λ l stays. stays)) (was.jobs w me at)
    (once_same (number_uses old.history w me) _ me.asked me.asked refl (λ j. refl) (was.once w me at)) was.legal)
step_keeps shape (Reenter lock) old w me new at (up, out, stays_there, then_) was =
    subst (λ (s : MachineState). IsState shape s) (sym then_)
    (state_with shape old w me _ old.history at was (λ u apart. refl) old.owners
    (stays_same old.owners old.workers w me _ at was.matches (λ l stays. stays) (λ l stays. stays)) (was.jobs w me at)
    (once_same (number_uses old.history w me) _ me.asked me.asked refl (λ j. refl) (was.once w me at)) was.legal)
step_keeps shape Still old w me new at (up, then_) was = subst (λ (s : MachineState). IsState shape s) (sym then_) was
step_keeps shape Wait old w me new at (k, job, up, waits, then_) was = subst (λ (s : MachineState). IsState shape s) (sym then_) was

pub label_keeps : (shape : Shape) (label : Label) (old new : MachineState) → LabelStep shape label old new → IsState shape old → IsState shape new
label_keeps shape Nothing old new step was = subst (λ (s : MachineState). IsState shape s) (sym step) was
label_keeps shape (Of w act) old new step was = step_keeps shape act old w step.me new step.is_me step.goes was

pub run_keeps : (shape : Shape) (labels : List Label) (old new : MachineState) → MachineRun shape old labels new → IsState shape old → IsState shape new
run_keeps shape [] old new run was = subst (λ (s : MachineState). IsState shape s) (sym run) was
run_keeps shape (label ∷ labels) old new (mid, step, rest) was = run_keeps shape labels mid new rest (label_keeps shape label old mid step was)

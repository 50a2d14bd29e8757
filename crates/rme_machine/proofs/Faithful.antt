-- Each entry that a run adds is that of the job submitted to its worker under its number.
use Rattle.std.proofs.Common.{◌≡◌, ◌≢◌, ℕ, ◌+◌, ◌≤◌, List, [], ◌∷◌, ◌++◌, refl, sym, ◌∙◌, ap, subst, inl, inr, arith, append_assoc}
use Rattle.std.specs.Prelude.{◌==◌, if◌then◌else◌, true, false, Option, Some, None, slice_get, slice_set}
use Rattle.std.proofs.lemmas.Bool.{cases_eq, cases_lt, eq-eqb, ne_eqb, and_left, and_right, and_from}
use Rattle.std.proofs.lemmas.Option.{same_Some, slice_get_within}
use Rattle.rme_words.specs.declared.shape.Shape.{Shape}
use Rattle.rme_script.specs.declared.job.Job.{Job}
use Rattle.rme_program.specs.declared.note.Entry.{Entry}
use Rattle.rme_program.specs.declared.note.Receipt.{Receipt}
use Rattle.rme_machine.specs.declared.stance.JobStance.{JobStance}
use Rattle.rme_machine.specs.declared.stance.JobStance.TheVariants.{Idle, Handed, Waiting, Inside, Finished}
use Rattle.rme_machine.specs.declared.label.Act.{Act}
use Rattle.rme_machine.specs.declared.label.Act.TheVariants.{Hand, Ask, Take, Finish, Leave, Withdraw, Crash, Restart, Reenter, Still, Wait}
use Rattle.rme_machine.specs.declared.label.Label.{Label}
use Rattle.rme_machine.specs.declared.label.Label.TheVariants.{Nothing, Of}
use Rattle.rme_machine.specs.Histories.{entry_job}
use Rattle.rme_machine.specs.Machine.{MachineState, WorkerState, ActEffect, LabelStep, MachineRun, stance_after_crash, opening_state, opening_worker}
use Rattle.rme_machine.specs.Theorems.{EntriesWereHanded, FaithfulLaw, HandedJobs, jobs_handed_before, jobs_handed_in, no_jobs_handed, stance_holds_number, with_job_handed}
use Rattle.rme_machine.proofs.Lists.{get_set, get_set_other}
use Rattle.rme_machine.proofs.Reached.{alike, begins_is}
use Rattle.rme_machine.proofs.Theorems.{IsState}

-- A worker's stance has the job that was submitted to it; it has asked under every number but possibly the last.
abbrev StandsWith : (ℕ → Option Job) → ℕ → JobStance → Type 0
StandsWith handed asked Idle = Unit {0}
StandsWith handed asked (Handed job) = handed (asked + 1) ≡ Some job
StandsWith handed asked (Waiting k job) = (handed k ≡ Some job) × (k ≤ asked)
StandsWith handed asked (Inside k job) = (handed k ≡ Some job) × (k ≤ asked)
StandsWith handed asked (Finished k job) = Unit {0}

stands_same : (handed handed' : ℕ → Option Job) (asked : ℕ) (stance : JobStance) → ((k : ℕ) → handed' k ≡ handed k) → StandsWith handed asked stance → StandsWith handed' asked stance
stands_same handed handed' asked Idle same stands = tt
stands_same handed handed' asked (Handed job) same stands = same (asked + 1) ∙ stands
stands_same handed handed' asked (Waiting k job) same stands = (same k ∙ stands.0, stands.1)
stands_same handed handed' asked (Inside k job) same stands = (same k ∙ stands.0, stands.1)
stands_same handed handed' asked (Finished k job) same stands = tt

stands_fallen : (handed : ℕ → Option Job) (asked : ℕ) (stance : JobStance) → StandsWith handed asked stance → StandsWith handed asked (stance_after_crash stance)
stands_fallen handed asked Idle stands = tt
stands_fallen handed asked (Handed job) stands = tt
stands_fallen handed asked (Waiting k job) stands = stands
stands_fallen handed asked (Inside k job) stands = stands
stands_fallen handed asked (Finished k job) stands = tt

-- An entry is that of the job submitted under its number, for which its worker has asked.
record IsFrom (workers : List WorkerState) (handed : HandedJobs) (e : Entry) : Type 0 where
  job : handed e.receipt.worker e.receipt.number ≡ Some (entry_job e)
  me : WorkerState
  is_me : slice_get workers e.receipt.worker ≡ Some me
  asked : e.receipt.number ≤ me.asked

abbrev AreFrom : List WorkerState → HandedJobs → List Entry → Type 0
AreFrom workers handed [] = Unit {0}
AreFrom workers handed (e ∷ es) = IsFrom workers handed e × AreFrom workers handed es

all_handed : (workers : List WorkerState) (handed : HandedJobs) (es : List Entry) → AreFrom workers handed es → EntriesWereHanded handed es
all_handed workers handed [] from = tt
all_handed workers handed (e ∷ es) from = (from.0.job, all_handed workers handed es from.1)

one_more : (workers : List WorkerState) (handed : HandedJobs) (es : List Entry) (e : Entry) → AreFrom workers handed es → IsFrom workers handed e → AreFrom workers handed (es ++ e ∷ [])
one_more workers handed [] e from last = (last, tt)
one_more workers handed (x ∷ xs) e from last = (from.0, one_more workers handed xs e from.1 last)

record Faith (workers : List WorkerState) (handed : HandedJobs) (es : List Entry) : Type 0 where
  stances : (w : ℕ) (me : WorkerState) → slice_get workers w ≡ Some me → StandsWith (handed w) me.asked me.stance
  entries : AreFrom workers handed es

-- One worker's state is replaced, and the submitted jobs change only at numbers of this worker under which it has not
-- asked.
module _ (workers : List WorkerState) (handed handed' : HandedJobs) (w : ℕ) (me new : WorkerState) (is_me : slice_get workers w ≡ Some me)
    (same : (v k : ℕ) → (v ≡ w → k ≤ me.asked) → handed' v k ≡ handed v k) (more : me.asked ≤ new.asked) where
  here : slice_get (slice_set workers w new) w ≡ Some new
  here = get_set workers w new (slice_get_within workers w me is_me)

  from_with : (es : List Entry) → AreFrom workers handed es → AreFrom (slice_set workers w new) handed' es
  from_with [] from = tt
  from_with (e ∷ es) from = (
    elim (cases_eq e.receipt.worker w) [
      | inl mine ↦
          (let its : me ≡ from.0.me = same_Some me from.0.me (sym is_me ∙ subst (λ (v : ℕ). slice_get workers v ≡ Some from.0.me) mine from.0.is_me) in
          let low : e.receipt.number ≤ me.asked = subst (λ (x : WorkerState). e.receipt.number ≤ x.asked) (sym its) from.0.asked in
          record {
            job = same e.receipt.worker e.receipt.number (λ q. low) ∙ from.0.job;
            me = new;
            is_me = subst (λ (v : ℕ). slice_get (slice_set workers w new) v ≡ Some new) (sym mine) here;
            asked = omega (arith, low, more);
          })
      | inr apart ↦ record {
        job = same e.receipt.worker e.receipt.number (λ q. absurd (apart q)) ∙ from.0.job;
        me = from.0.me;
        is_me = get_set_other workers w e.receipt.worker new apart ∙ from.0.is_me;
        asked = from.0.asked;
      }
    ],
    from_with es from.1,
  )

  faith_with : (es : List Entry) → Faith workers handed es → StandsWith (handed' w) new.asked new.stance → Faith (slice_set workers w new) handed' es
  faith_with es faith stands = record {
    stances = λ v you at. elim (cases_eq v w) [
      | inl mine ↦
          (let its : new ≡ you = same_Some new you (sym here ∙ subst (λ (u : ℕ). slice_get (slice_set workers w new) u ≡ Some you) mine at) in
          subst (λ (u : ℕ). StandsWith (handed' u) you.asked you.stance) (sym mine) (subst (λ (x : WorkerState). StandsWith (handed' w) x.asked x.stance) its stands))
      | inr apart ↦
          stands_same (handed v) (handed' v) you.asked you.stance (λ k. same v k (λ q. absurd (apart q)))
          (faith.stances v you (sym (get_set_other workers w v new apart) ∙ at))
    ];
    entries = from_with es faith.entries;
  }

-- The entries that a step adds to the history.
record Adds (shape : Shape) (label : Label) (old new : MachineState) (handed : HandedJobs) (es : List Entry) : Type 0 where
  more : List Entry
  longer : new.history ≡ old.history ++ more
  faith : Faith new.workers (with_job_handed label handed) (es ++ more)

append_none : (es : List Entry) → es ++ [] ≡ es
append_none [] = refl
append_none (e ∷ es) = ap (λ (xs : List Entry). e ∷ xs) (append_none es)

-- A step that adds nothing.
adds_none : (shape : Shape) (label : Label) (old new : MachineState) (handed : HandedJobs) (es : List Entry) → new.history ≡ old.history → Faith new.workers (with_job_handed label handed) es
    → Adds shape label old new handed es
adds_none shape label old new handed es same faith = record {
  more = [];
  longer = same ∙ sym (append_none old.history);
  faith = subst (λ (xs : List Entry). Faith new.workers (with_job_handed label handed) xs) (sym (append_none es)) faith;
}

module _ (shape : Shape) (old : MachineState) (w : ℕ) (me : WorkerState) (new : MachineState) (handed : HandedJobs) (es : List Entry) (is_me : slice_get old.workers w ≡ Some me)
    (faith : Faith old.workers handed es) where
  stands : StandsWith (handed w) me.asked me.stance
  stands = faith.stances w me is_me

  stands_as : (stance : JobStance) → me.stance ≡ stance → StandsWith (handed w) me.asked stance
  stands_as stance is = subst (λ (s : JobStance). StandsWith (handed w) me.asked s) is stands

  -- One worker's state is replaced, and no job is submitted.
  kept_with : (other : WorkerState) → new.workers ≡ slice_set old.workers w other → me.asked ≤ other.asked → StandsWith (handed w) other.asked other.stance → Faith new.workers handed es
  kept_with other then_ more stood =
      subst (λ (ws : List WorkerState). Faith ws handed es) (sym then_)
      (faith_with old.workers handed handed w me other is_me (λ v k q. refl) more es faith stood)

  step_adds : (act : Act) → ActEffect shape act old w me new → Adds shape (Of w act) old new handed es
  step_adds (Hand k job) (up, idle, is, next, few, then_) =
      let H : HandedJobs = with_job_handed (Of w (Hand k job)) handed in
      adds_none shape (Of w (Hand k job)) old new handed es (ap (λ (s : MachineState). s.history) then_)
      (subst (λ (ws : List WorkerState). Faith ws H es) (sym (ap (λ (s : MachineState). s.workers) then_))
      (faith_with old.workers handed H w me record { up = true; entered = me.entered; asked = me.asked; withdrawn = me.withdrawn; stance = Handed job } is_me
      same (omega arith) es faith there))
    where
      same : (v n : ℕ) → (v ≡ w → n ≤ me.asked) → with_job_handed (Of w (Hand k job)) handed v n ≡ handed v n
      same v n low = elim (cases_eq v w) [
        | inl mine ↦
            (let apart : n ≢ k = λ q. omega (arith, low mine, next, q) in
            rw (and_right (v == w) (n == k) (ne_eqb n k apart)) refl)
        | inr apart ↦ rw (and_left (v == w) (n == k) (ne_eqb v w apart)) refl
      ]

      there : with_job_handed (Of w (Hand k job)) handed w (me.asked + 1) ≡ Some job
      there = rw (and_from (w == w) (me.asked + 1 == k) (eq-eqb w w refl) (eq-eqb (me.asked + 1) k (sym next))) refl
  step_adds (Ask k) (job, up, handed_, next, then_) =
      adds_none shape (Of w (Ask k)) old new handed es (ap (λ (s : MachineState). s.history) then_)
      (kept_with record { up = true; entered = me.entered; asked = k; withdrawn = me.withdrawn; stance = Waiting k job } (ap (λ (s : MachineState). s.workers) then_) (omega (arith, next))
      (subst (λ (n : ℕ). handed w n ≡ Some job) (sym next) (stands_as (Handed job) handed_), omega arith))
  step_adds (Take lock) (k, job, up, waits, at, free, then_) =
      adds_none shape (Of w (Take lock)) old new handed es (ap (λ (s : MachineState). s.history) then_)
      (kept_with record { up = true; entered = true; asked = me.asked; withdrawn = me.withdrawn; stance = Inside k job } (ap (λ (s : MachineState). s.workers) then_) (omega arith)
      (stands_as (Waiting k job) waits))
  step_adds (Finish receipt) (k, job, up, entered, inside, is, then_) =
      let other : WorkerState = record { up = true; entered = true; asked = me.asked; withdrawn = me.withdrawn; stance = Finished k job } in
      let stood : StandsWith (handed w) me.asked (Inside k job) = stands_as (Inside k job) inside in
      let it : Entry = record { receipt = receipt; script = job.script } in
      let workers : new.workers ≡ slice_set old.workers w other = ap (λ (s : MachineState). s.workers) then_ in
      let F : List WorkerState → Type 0 = λ (ws : List WorkerState). Faith ws handed es in
      let now : Faith (slice_set old.workers w other) handed es = faith_with old.workers handed handed w me other is_me (λ v n q. refl) (omega arith) es faith tt in
      let worker : receipt.worker ≡ w = ap (λ (r : Receipt). r.worker) is in
      let number : receipt.number ≡ k = ap (λ (r : Receipt). r.number) is in
      let lock : receipt.lock ≡ job.lock = ap (λ (r : Receipt). r.lock) is in
      let mine : handed receipt.worker receipt.number ≡ Some (entry_job it) =
      ap (λ (v : ℕ). handed v receipt.number) worker ∙ ap (handed w) number ∙ stood.0 ∙ ap (λ (l : ℕ). Some record { lock = l; script = job.script }) (sym lock) in
      let last : IsFrom (slice_set old.workers w other) handed it = record {
        job = mine;
        me = other;
        is_me = subst (λ (v : ℕ). slice_get (slice_set old.workers w other) v ≡ Some other) (sym worker) (get_set old.workers w other (slice_get_within old.workers w me is_me));
        asked = omega (arith, number, stood.1);
      } in
      record {
        more = it ∷ [];
        longer = ap (λ (s : MachineState). s.history) then_;
        faith = subst (λ (ws : List WorkerState). Faith ws handed (es ++ it ∷ [])) (sym workers)
            record { stances = now.stances; entries = one_more (slice_set old.workers w other) handed es it now.entries last };
      }
  step_adds (Leave lock) (k, job, up, entered, done, at, then_) =
      adds_none shape (Of w (Leave lock)) old new handed es (ap (λ (s : MachineState). s.history) then_)
      (kept_with record { up = true; entered = false; asked = me.asked; withdrawn = me.withdrawn; stance = Idle } (ap (λ (s : MachineState). s.workers) then_) (omega arith) tt)
  step_adds (Withdraw k) (job, up, waits, then_) =
      adds_none shape (Of w (Withdraw k)) old new handed es (ap (λ (s : MachineState). s.history) then_)
      (kept_with record { up = true; entered = me.entered; asked = me.asked; withdrawn = me.withdrawn ++ k ∷ []; stance = Idle } (ap (λ (s : MachineState). s.workers) then_) (omega arith) tt)
  step_adds Crash (up, then_) =
      adds_none shape (Of w Crash) old new handed es (ap (λ (s : MachineState). s.history) then_)
      (kept_with record { up = false; entered = false; asked = me.asked; withdrawn = me.withdrawn; stance = stance_after_crash me.stance } (ap (λ (s : MachineState). s.workers) then_) (omega arith)
      (stands_fallen (handed w) me.asked me.stance stands))
  step_adds Restart (down, then_) =
      adds_none shape (Of w Restart) old new handed es (ap (λ (s : MachineState). s.history) then_)
      (kept_with record { up = true; entered = me.entered; asked = me.asked; withdrawn = me.withdrawn; stance = me.stance } (ap (λ (s : MachineState). s.workers) then_) (omega arith) stands)
  step_adds (Reenter lock) (up, out, on, then_) =
      adds_none shape (Of w (Reenter lock)) old new handed es (ap (λ (s : MachineState). s.history) then_)
      (kept_with record { up = true; entered = true; asked = me.asked; withdrawn = me.withdrawn; stance = me.stance } (ap (λ (s : MachineState). s.workers) then_) (omega arith) stands)
  step_adds Still (up, then_) =
      adds_none shape (Of w Still) old new handed es (ap (λ (s : MachineState). s.history) then_) (subst (λ (s : MachineState). Faith s.workers handed es) (sym then_) faith)
  step_adds Wait (k, job, up, waits, then_) =
      adds_none shape (Of w Wait) old new handed es (ap (λ (s : MachineState). s.history) then_) (subst (λ (s : MachineState). Faith s.workers handed es) (sym then_) faith)

label_adds : (shape : Shape) (label : Label) (old new : MachineState) (handed : HandedJobs) (es : List Entry) → LabelStep shape label old new → Faith old.workers handed es → Adds shape label old new handed es
label_adds shape Nothing old new handed es step faith =
    adds_none shape Nothing old new handed es (ap (λ (s : MachineState). s.history) step) (subst (λ (s : MachineState). Faith s.workers handed es) (sym step) faith)
label_adds shape (Of w act) old new handed es step faith = step_adds shape old w step.me new handed es step.is_me faith act step.goes

-- The entries that a run adds.
record Added (old new : MachineState) (handed : HandedJobs) (es : List Entry) : Type 0 where
  more : List Entry
  longer : new.history ≡ old.history ++ more
  faith : Faith new.workers handed (es ++ more)

run_adds : (shape : Shape) (labels : List Label) (old new : MachineState) (handed : HandedJobs) (es : List Entry) → MachineRun shape old labels new → Faith old.workers handed es
    → Added old new (jobs_handed_in labels handed) es
run_adds shape [] old new handed es run faith = record {
  more = [];
  longer = ap (λ (s : MachineState). s.history) run ∙ sym (append_none old.history);
  faith = subst (λ (xs : List Entry). Faith new.workers handed xs) (sym (append_none es)) (subst (λ (s : MachineState). Faith s.workers handed es) (sym run) faith);
}
run_adds shape (label ∷ labels) old new handed es (mid, step, rest) faith =
    let one = label_adds shape label old mid handed es step faith in
    let others = run_adds shape labels mid new (with_job_handed label handed) (es ++ one.more) rest one.faith in
    record {
      more = one.more ++ others.more;
      longer = others.longer ∙ ap (λ (xs : List Entry). xs ++ others.more) one.longer ∙ append_assoc old.history one.more others.more;
      faith = subst (λ (xs : List Entry). Faith new.workers (jobs_handed_in labels (with_job_handed label handed)) xs) (append_assoc es one.more others.more) others.faith;
    }

-- ---- the start of a run

opening_faith : (shape : Shape) → Faith (opening_state shape).workers no_jobs_handed []
opening_faith shape = record {
  stances = λ w me at.
      (let is : me ≡ opening_worker = alike shape.workers w opening_worker me at in subst (λ (x : WorkerState). StandsWith (no_jobs_handed w) x.asked x.stance) (sym is) tt);
  entries = tt;
}

-- A worker waits or is inside only under a number for which it has asked.
asked_under : (shape : Shape) (state : MachineState) (w : ℕ) (me : WorkerState) (k : ℕ) → IsState shape state → slice_get state.workers w ≡ Some me → stance_holds_number me.stance k ≡ 1 → k ≤ me.asked
asked_under shape state w me k is at one = elim (cases_lt me.asked k) [
  | inl over ↦ absurd (omega (arith, (is.once w me at).beyond k over, one))
  | inr within ↦ within
]

begun_faith : (shape : Shape) (state : MachineState) → IsState shape state → Faith state.workers (jobs_handed_before state) []
begun_faith shape state is = record { stances = λ w me at. stands_first w me at me.stance refl; entries = tt }
  where
    one_under : (n : ℕ) (job : Job) → stance_holds_number (Waiting n job) n ≡ 1
    one_under n job = rw (eq-eqb n n refl) refl

    found : (n : ℕ) (job : Job) → (if n == n then Some job else None) ≡ Some job
    found n job = rw (eq-eqb n n refl) refl

    stands_first : (w : ℕ) (me : WorkerState) → slice_get state.workers w ≡ Some me → (stance : JobStance) → me.stance ≡ stance → StandsWith (jobs_handed_before state w) me.asked stance
    stands_first w me at Idle e = tt
    stands_first w me at (Handed job) e = rw (at, e) (found (me.asked + 1) job)
    stands_first w me at (Waiting k job) e = (rw (at, e) (found k job), asked_under shape state w me k is at (ap (λ (s : JobStance). stance_holds_number s k) e ∙ one_under k job))
    stands_first w me at (Inside k job) e = (rw (at, e) (found k job), asked_under shape state w me k is at (ap (λ (s : JobStance). stance_holds_number s k) e ∙ one_under k job))
    stands_first w me at (Finished k job) e = tt

pub faithful : FaithfulLaw
faithful = record {
  opened = λ shape labels state run.
      (let all = run_adds shape labels (opening_state shape) state no_jobs_handed [] run (opening_faith shape) in
      subst (λ (es : List Entry). EntriesWereHanded (jobs_handed_in labels no_jobs_handed) es) (sym all.longer) (all_handed state.workers (jobs_handed_in labels no_jobs_handed) all.more all.faith.entries));
  begun = λ shape start state labels begins run.
      (let all = run_adds shape labels start state (jobs_handed_before start) [] run (begun_faith shape start (begins_is shape start begins)) in
      record { entries = all.more; longer = all.longer; handed = all_handed state.workers (jobs_handed_in labels (jobs_handed_before start)) all.more all.faith.entries });
}

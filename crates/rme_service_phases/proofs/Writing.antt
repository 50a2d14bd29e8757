-- The words of a job, stored one after another.
use Rattle.std.proofs.Common.{◌≡◌, ℕ, ◌+◌, ◌-◌, ◌*◌, ◌/◌, ◌%◌, ◌<◌, length, refl, sym, ◌∙◌, ap, subst, arith}
use Rattle.std.specs.Prelude.{slice_index}
use Rattle.std.proofs.lemmas.Bool.{ne_eqb, eq-eqb, lt-ltb, le-ltb}
use Rattle.rme_words.specs.declared.shape.Shape.{Shape}
use Rattle.rme_words.specs.declared.address.Address.{Address}
use Rattle.rme_words.specs.declared.address.Address.TheVariants.{Begun, SlateLock, SlateLen, SlateWord}
use Rattle.rme_script.specs.declared.job.Job.{Job}
use Rattle.rme_script.specs.Slates.{slate_of}
use Rattle.rme_program.specs.declared.action.Action.TheVariants.{Store}
use Rattle.rme_program.specs.declared.note.Note.TheVariants.{Quiet, Asked}
use Rattle.rme_program.specs.declared.private.Private.{Private}
use Rattle.rme_program.specs.declared.stage.Stage.{Stage}
use Rattle.rme_program.specs.declared.stage.Stage.TheVariants.{Resting, Posting, Climbing}
use Rattle.rme_script.specs.Jobs.{IsJob}
use Rattle.rme_program.specs.Steps.{slate_action, after_slate, begun_after}
use Rattle.rme_service_steps.specs.Layout.{position_of_address}
use Rattle.rme_service_steps.specs.declared.seat_record.Part.{Part}
use Rattle.rme_service_steps.specs.Parts.{unchanged_part, submitted_part}
use Rattle.rme_service_steps.specs.Chances.{ChanceCounts}
use Rattle.rme_service_steps.specs.SeatViews.{ServiceId, SeatView}
use Rattle.rme_service_steps.specs.CallSteps.{seat_call, PartIsAtStage, PartIsBeforeStage, CallProgress, CallFell, FellBeforeStep, OwnStepWasMade, StepIsAllowed, StoreIsAllowed}
use Rattle.rme_service_steps.proofs.Leading.{leads_submit}
use Rattle.rme_service_steps.proofs.Chains.{nothing, did, did_led, then_on, then_led, falls_on, falls_at, may_store, is_stage}

-- ---- the rows of Post

module _ (w b : ℕ) (job : Job) where
  -- While words are left the next is stored.
  slate_stores : (k : ℕ) → k < 3 * job.script.n
      → slate_action w b record { job = job; stored = 2 + k } ≡ Store (SlateWord w (k / 3) (k % 3)) (slice_index (slate_of job.script.ops) k)
  slate_stores k below =
      rw (ne_eqb (2 + k) 0 (λ e. omega (arith, e)), ne_eqb (2 + k) 1 (λ e. omega (arith, e)), lt-ltb (2 + k) (2 + 3 * job.script.n) (omega (arith, below)))
      (ap (λ (i : ℕ). Store (SlateWord w (i / 3) (i % 3)) (slice_index (slate_of job.script.ops) i)) (let e : 2 + k - 2 ≡ k = omega arith in e))

  pub slate_goes : (stored : ℕ) → stored < 2 + 3 * job.script.n → after_slate b record { job = job; stored = stored } ≡ (Posting record { job = job; stored = stored + 1 }, Quiet)
  slate_goes stored below = rw (ne_eqb stored (2 + 3 * job.script.n) (λ e. omega (arith, e, below))) refl

  pub slate_keeps : (stored value : ℕ) → stored < 2 + 3 * job.script.n → begun_after b (Posting record { job = job; stored = stored }) value ≡ b
  slate_keeps stored value below = rw (ne_eqb stored (2 + 3 * job.script.n) (λ e. omega (arith, e, below))) refl

  -- After the last of them `begun` is.
  pub begun_stores : slate_action w b record { job = job; stored = 2 + 3 * job.script.n } ≡ Store (Begun w) (b + 1)
  begun_stores =
      rw (ne_eqb (2 + 3 * job.script.n) 0 (λ e. omega (arith, e)), ne_eqb (2 + 3 * job.script.n) 1 (λ e. omega (arith, e)), le-ltb (2 + 3 * job.script.n) (2 + 3 * job.script.n) (omega arith)) refl

  pub begun_goes : after_slate b record { job = job; stored = 2 + 3 * job.script.n } ≡ (Climbing record { lock = job.lock; held = 0 }, Asked (b + 1))
  begun_goes = rw (eq-eqb (2 + 3 * job.script.n) (2 + 3 * job.script.n) refl) refl

  pub begun_counts : (value : ℕ) → begun_after b (Posting record { job = job; stored = 2 + 3 * job.script.n }) value ≡ b + 1
  begun_counts value = rw (eq-eqb (2 + 3 * job.script.n) (2 + 3 * job.script.n) refl) refl

-- ---- the loop over the words of the operations

pub record Writing (ident : ServiceId) (a : SeatView) (t : ChanceCounts) (job : Job) (now : SeatView) (u : ChanceCounts) (k : ℕ) : Type 0 where
  pub ours : now.ident ≡ ident
  pub doing : CallProgress (seat_call ident.shape unchanged_part a now t u) k a.part.private.begun (Posting record { job = job; stored = 2 + k })

module _ (ident : ServiceId) (a : SeatView) (t : ChanceCounts) (job : Job) where
  pub write_begins : a.ident ≡ ident → PartIsBeforeStage ident.shape a.part (Posting record { job = job; stored = 2 }) → Writing ident a t job a t 0
  write_begins ours at = record { ours = ours; doing = nothing ident.shape a t a.part.private.begun (Posting record { job = job; stored = 2 }) at }

  module _ (now : SeatView) (u : ChanceCounts) (k : ℕ) (state : Writing ident a t job now u k) where
    pub write_small : (n : ℕ) → n ≡ job.script.n → k < 3 * n → k / 3 < 8
    write_small n is below = let few = (is_stage ident.shape now.part a.part.private.begun _ state.doing.at).1.script.few in
        let k24 : k < 24 = omega (arith, few, is, below) in omega (arith, k24)

    pub write_may : (s : Shape) (worker number value n : ℕ) → n ≡ job.script.n → k < 3 * n → s ≡ ident.shape → worker ≡ a.part.worker → number ≡ position_of_address s (SlateWord worker (k / 3) (k % 3))
        → value ≡ slice_index (slate_of job.script.ops) k → StoreIsAllowed ident.shape unchanged_part now.part number value
    write_may s worker number value n is below same own its stores =
        let mine : worker ≡ now.part.worker = own ∙ sym state.doing.stays.own in
        let small : k < 3 * job.script.n = omega (arith, is, below) in
        may_store ident.shape now.part a.part.private.begun _ state.doing.at (SlateWord worker (k / 3) (k % 3)) number value refl
        (slate_stores now.part.worker a.part.private.begun job k small ∙ ap (λ (w : ℕ). Store (SlateWord w (k / 3) (k % 3)) (slice_index (slate_of job.script.ops) k)) (sym mine)
        ∙ ap (λ (v : ℕ). Store (SlateWord worker (k / 3) (k % 3)) v) (sym stores))
        (subst (λ (w : ℕ). w < ident.shape.workers) (sym mine) state.doing.at.stood.worker, write_small n is below, omega arith)
        (its ∙ ap (λ (x : Shape). position_of_address x (SlateWord worker (k / 3) (k % 3))) same)

    pub write_more : (next : SeatView) (v : ChanceCounts) (value n : ℕ) → n ≡ job.script.n → k < 3 * n → OwnStepWasMade (seat_call ident.shape unchanged_part now next u v) value → Writing ident a t job next v (k + 1)
    write_more next v value n is below made =
        let small : 2 + k < 2 + 3 * job.script.n = omega (arith, is, below) in
        let one = did ident.shape now next u v value made state.doing.at refl (slate_goes now.part.worker a.part.private.begun job (2 + k) small) (slate_keeps now.part.worker a.part.private.begun job (2 + k) value small) in
        record {
          ours = made.ident ∙ state.ours;
          doing = subst (λ (m : ℕ). CallProgress (seat_call ident.shape unchanged_part a next t v) (k + 1) a.part.private.begun (Posting record { job = job; stored = m })) (omega arith) (then_on ident.shape a now next t u v state.doing one);
        }

    pub write_fell : (next : SeatView) (v : ChanceCounts) (n : ℕ) → n ≡ job.script.n → k < 3 * n → FellBeforeStep (seat_call ident.shape unchanged_part now next u v) → CallFell (seat_call ident.shape unchanged_part a next t v) (3 * job.script.n)
    write_fell next v n is below fell =
        falls_on ident.shape a now next t u v state.doing (falls_at ident.shape unchanged_part now next u v 1 fell (omega arith)) (omega (arith, is, below))

    pub write_ends : (n : ℕ) → n ≡ job.script.n → k ≡ 3 * n → CallProgress (seat_call ident.shape unchanged_part a now t u) (3 * job.script.n) a.part.private.begun (Posting record { job = job; stored = 2 + 3 * job.script.n })
    write_ends n is all = subst (λ (m : ℕ). CallProgress (seat_call ident.shape unchanged_part a now t u) m a.part.private.begun (Posting record { job = job; stored = 2 + m })) (omega (arith, is, all)) state.doing

    pub write_within : (n : ℕ) → n ≡ job.script.n → k < 3 * n → k < 3 * length job.script.ops
    write_within n is below = let counted = (is_stage ident.shape now.part a.part.private.begun _ state.doing.at).1.script.counted in omega (arith, is, below, counted)

-- ---- the whole of Post

module _ (s : Shape) (job : Job) (a : SeatView) (t : ChanceCounts) (b : ℕ) (rests : PartIsAtStage s a.part b Resting) where
  pub submit_may : (at : ℕ) → b < s.jobs → IsJob s job → at ≡ position_of_address s (SlateLock a.part.worker) → StepIsAllowed s (submitted_part job) a.part (Store (SlateLock a.part.worker) job.lock) at
  submit_may at few good its = record {
    leads = leads_submit s a.part job (ap (λ (q : Private). q.stage) rests.private) (subst (λ (n : ℕ). n < s.jobs) (sym (ap (λ (q : Private). q.begun) rests.private)) few) good;
    entries = refl;
    count = refl;
    section = refl;
    here = ap (λ (w : ℕ). Store (SlateLock w) job.lock) (ap (λ (q : Private). q.worker) rests.private);
    within = rests.stood.worker;
    lies = its;
  }

  module _ (c : SeatView) (v : ChanceCounts) where
    pub post_one : OwnStepWasMade (seat_call s (submitted_part job) a c t v) job.lock → CallProgress (seat_call s (submitted_part job) a c t v) 1 b (Posting record { job = job; stored = 1 })
    post_one made =
        let first : ◌≡◌ {A = Private} (submitted_part job a.part).private record { worker = a.part.worker; begun = b; stage = Posting record { job = job; stored = 0 } } =
        ap {B = Private} (λ (q : Private). record { worker = q.worker; begun = q.begun; stage = Posting record { job = job; stored = 0 } }) rests.private in
        did_led s (submitted_part job) a c t v job.lock b (Posting record { job = job; stored = 0 }) made first refl refl refl refl refl
        (slate_goes a.part.worker b job 0 (omega arith)) (slate_keeps a.part.worker b job 0 job.lock (omega arith))

    pub len_may : (u : ChanceCounts) (at n : ℕ) → n ≡ job.script.n → CallProgress (seat_call s (submitted_part job) a c t u) 1 b (Posting record { job = job; stored = 1 }) → at ≡ position_of_address s (SlateLen a.part.worker)
        → StoreIsAllowed s unchanged_part c.part at n
    len_may u at n is one its = may_store s c.part b (Posting record { job = job; stored = 1 }) one.at (SlateLen c.part.worker) at n refl (ap (λ (x : ℕ). Store (SlateLen c.part.worker) x) (sym is)) one.at.stood.worker
        (its ∙ ap (λ (w : ℕ). position_of_address s (SlateLen w)) (sym one.stays.own))

    pub post_two : (d : SeatView) (u : ChanceCounts) (n : ℕ) → CallProgress (seat_call s (submitted_part job) a c t v) 1 b (Posting record { job = job; stored = 1 }) → OwnStepWasMade (seat_call s unchanged_part c d v u) n
        → CallProgress (seat_call s (submitted_part job) a d t u) 2 b (Posting record { job = job; stored = 2 })
    post_two d u n one made = then_led s a c d t v u (omega arith) one
        (did s c d v u n made one.at refl (slate_goes c.part.worker b job 1 (omega arith)) (slate_keeps c.part.worker b job 1 n (omega arith)))

    pub post_words : (d : SeatView) (u : ChanceCounts) → CallProgress (seat_call s (submitted_part job) a c t v) 2 b (Posting record { job = job; stored = 2 })
        → CallProgress (seat_call s unchanged_part c d v u) (3 * job.script.n) c.part.private.begun (Posting record { job = job; stored = 2 + 3 * job.script.n })
        → CallProgress (seat_call s (submitted_part job) a d t u) (2 + 3 * job.script.n) b (Posting record { job = job; stored = 2 + 3 * job.script.n })
    post_words d u two words = subst (λ (n : ℕ). CallProgress (seat_call s (submitted_part job) a d t u) (2 + 3 * job.script.n) n (Posting record { job = job; stored = 2 + 3 * job.script.n }))
        (ap (λ (q : Private). q.begun) two.at.private) (then_led s a c d t v u (omega arith) two words)

    pub begun_may : (at m : ℕ) → CallProgress (seat_call s (submitted_part job) a c t v) m b (Posting record { job = job; stored = 2 + 3 * job.script.n }) → at ≡ position_of_address s (Begun a.part.worker)
        → StoreIsAllowed s unchanged_part c.part at (b + 1)
    begun_may at m some_words its = may_store s c.part b (Posting record { job = job; stored = 2 + 3 * job.script.n }) some_words.at (Begun c.part.worker) at (b + 1) refl (begun_stores c.part.worker b job) some_words.at.stood.worker
        (its ∙ ap (λ (w : ℕ). position_of_address s (Begun w)) (sym some_words.stays.own))

    pub post_last : (d : SeatView) (u : ChanceCounts) → CallProgress (seat_call s (submitted_part job) a c t v) (2 + 3 * job.script.n) b (Posting record { job = job; stored = 2 + 3 * job.script.n })
        → OwnStepWasMade (seat_call s unchanged_part c d v u) (b + 1) → CallProgress (seat_call s (submitted_part job) a d t u) (3 + 3 * job.script.n) (b + 1) (Climbing record { lock = job.lock; held = 0 })
    post_last d u some_words made =
        let made_all = then_led s a c d t v u (omega arith) some_words
        (did s c d v u (b + 1) made some_words.at refl (begun_goes c.part.worker b job) (begun_counts c.part.worker b job (b + 1))) in
        subst (λ (m : ℕ). CallProgress (seat_call s (submitted_part job) a d t u) m (b + 1) (Climbing record { lock = job.lock; held = 0 })) (omega arith) made_all

pub made_named : {s : Shape} {a c : SeatView} {t v : ChanceCounts} {x : ℕ} (j k : Job) → j ≡ k → OwnStepWasMade (seat_call s (submitted_part k) a c t v) x → OwnStepWasMade (seat_call s (submitted_part j) a c t v) x
made_named {s} {a} {c} {t} {v} {x} j k e made = subst (λ (i : Job). OwnStepWasMade (seat_call s (submitted_part i) a c t v) x) (sym e) made

pub fell_named : {s : Shape} {a c : SeatView} {t v : ChanceCounts} (j k : Job) → j ≡ k → FellBeforeStep (seat_call s (submitted_part k) a c t v) → FellBeforeStep (seat_call s (submitted_part j) a c t v)
fell_named {s} {a} {c} {t} {v} j k e fell = subst (λ (i : Job). FellBeforeStep (seat_call s (submitted_part i) a c t v)) (sym e) fell

pub may_named : {s : Shape} {p : Part} {at x : ℕ} {address : Address} (j k : Job) → j ≡ k → StepIsAllowed s (submitted_part j) p (Store address x) at → StepIsAllowed s (submitted_part k) p (Store address x) at
may_named {s} {p} {at} {x} {address} j k e may = subst (λ (i : Job). StepIsAllowed s (submitted_part i) p (Store address x) at) e may

-- The same worker, under the name that the caller has for `begun`.
pub at_begun : (s : Shape) (p : Part) (st : Stage) (n : ℕ) → PartIsBeforeStage s p st → n ≡ p.private.begun → PartIsAtStage s p n st
at_begun s p st n at is = subst (λ (b : ℕ). PartIsAtStage s p b st) (sym is) at

-- The word of a kind is the worker's at the shape that the service has.
pub at_word : (kind : ℕ → Address) (shape s : Shape) (worker own at : ℕ) → shape ≡ s → worker ≡ own → at ≡ position_of_address shape (kind worker) → at ≡ position_of_address s (kind own)
at_word kind shape s worker own at same mine its = its ∙ ap (λ (x : Shape). position_of_address x (kind worker)) same ∙ ap (λ (w : ℕ). position_of_address s (kind w)) mine

-- The events other than a step: each changes only one private state. And the initial state.
use Rattle.std.proofs.Common.{◌≡◌, ℕ, ◌+◌, ◌<◌, List, refl, sym, ◌∙◌, ap, subst, arith}
use Rattle.std.specs.Prelude.{Bool, true, false, Option, Some, None}
use Rattle.std.proofs.lemmas.Option.{same_Some, none-some}
use Rattle.rme_words.specs.declared.shape.Shape.{Shape}
use Rattle.rme_words.specs.declared.address.Address.{Address}
use Rattle.rme_tree.specs.Nodes.{held_levels_in}
use Rattle.rme_script.specs.declared.job.Job.{Job}
use Rattle.rme_program.specs.declared.note.Entry.{Entry}
use Rattle.rme_program.specs.declared.private.Private.{Private}
use Rattle.rme_program.specs.declared.stage.Stage.{Stage}
use Rattle.rme_program.specs.declared.stage.Stage.TheVariants.{Resting, Recovering, Posting, Climbing, Logging, Copying, Leaving}
use Rattle.rme_program.specs.declared.stage.Departure.TheVariants.{WithdrawPlace}
use Rattle.rme_program.specs.Steps.{restarted_private, submitted_private, withdrawing_private}
use Rattle.rme_machine.specs.declared.stance.JobStance.TheVariants as stance
use Rattle.rme_machine.specs.declared.label.Act.TheVariants.{Hand, Crash, Restart, Wait}
use Rattle.rme_machine.specs.Histories.{last_entry_of_worker, withdrawn_numbers}
use Rattle.rme_machine.specs.Machine.{WorkerState, stance_after_crash, with_worker}
use Rattle.rme_machine.specs.Views.{worker_words, lock_words, is_pending, slate_job}
use Rattle.rme_machine.specs.AbstractState.{Privates, lock_owned_by_worker, last_entry_job, stance_outside, abstract_stance, abstract_entered, abstract_state, abstract_worker}
use Rattle.rme_machine.specs.Knowledge.{PrivateInvariant, IsIdleWorker, IsPendingAt}
use Rattle.rme_machine.specs.Invariant.{Invariant}
use Rattle.rme_machine.specs.Changes.{PrivateChange}
use Rattle.rme_machine.specs.Laws.{SubmitLaw, CrashLaw, RestartLaw, WithdrawLaw}
use Rattle.rme_machine.proofs.Kept.{private_kept}
use Rattle.rme_machine.proofs.Shows.{load_frame, owned_none, owned_site, shown_moves, shown_still}
use Rattle.rme_machine.proofs.Faces.{face, shown_as, does_as}

-- The invariant, with one private state replaced.
changed : (s : Shape) (mem : Address → ℕ) (privs privs' : Privates) (es : List Entry) (w : ℕ) (p : Private) → Invariant s mem privs es → PrivateChange privs privs' w (Some p)
    → PrivateInvariant s (worker_words mem w) (held_levels_in s mem w) (lock_words s mem) w p → Invariant s mem privs' es
changed s mem privs privs' es w p fact became fits =
    private_kept s mem privs privs' es w (Some p) fact became
    (λ q e. let P : Private → Type 0 = λ p. PrivateInvariant s (worker_words mem w) (held_levels_in s mem w) (lock_words s mem) w p in subst P (same_Some _ _ e) fits)

-- The worker's abstract state after that.
moved : (s : Shape) (mem : Address → ℕ) (privs privs' : Privates) (es : List Entry) (w : ℕ) (p : Option Private) (me : WorkerState) → w < s.workers
    → PrivateChange privs privs' w p → abstract_worker s mem privs' es w ≡ me → abstract_state s mem privs' es ≡ with_worker (abstract_state s mem privs es) w me
moved s mem privs privs' es w p me worker became shows =
    shown_moves s mem mem privs privs' es w worker (load_frame s mem privs privs' es w p became) (λ l below. refl)
    ∙ ap (λ (me : WorkerState). with_worker (abstract_state s mem privs es) w me) shows

fallen_outside : (p : Private) → stance_outside None ≡ stance_after_crash (stance_outside (Some p))
fallen_outside p = go p.stage
  where
    go : (stage : Stage) → stance_outside None ≡ stance_after_crash (stance_outside (Some record p { stage = stage }))
    go Resting = refl
    go (Recovering recovery) = refl
    go (Posting slate) = refl
    go (Climbing ascent) = refl
    go (Logging log) = refl
    go (Copying redo) = refl
    go (Leaving departure) = refl

fallen_stance : (owned : Option ℕ) (pending : Bool) (number : ℕ) (slate last : Job) (p : Private)
    → abstract_stance owned pending number slate last None ≡ stance_after_crash (abstract_stance owned pending number slate last (Some p))
fallen_stance (Some lock) true number slate last p = refl
fallen_stance (Some lock) false number slate last p = refl
fallen_stance None true number slate last p = refl
fallen_stance None false number slate last p = fallen_outside p

fallen_entered : (owned : Option ℕ) → abstract_entered owned None ≡ false
fallen_entered (Some lock) = refl
fallen_entered None = refl

pub crash : CrashLaw
crash s mem privs privs' es w p fact worker was became =
    let before : abstract_worker s mem privs es w ≡ face (lock_owned_by_worker s mem w) (is_pending (worker_words mem w)) (worker_words mem w).begun
    (slate_job (worker_words mem w)) (last_entry_job (last_entry_of_worker es w)) (Some p) (withdrawn_numbers es w (worker_words mem w).done) =
    shown_as s mem privs es w _ _ _ _ refl refl refl was in
    let after : abstract_worker s mem privs' es w ≡ record {
      up = false;
      entered = false;
      asked = (worker_words mem w).begun;
      withdrawn = withdrawn_numbers es w (worker_words mem w).done;
      stance = stance_after_crash (abstract_stance (lock_owned_by_worker s mem w) (is_pending (worker_words mem w)) (worker_words mem w).begun (slate_job (worker_words mem w)) (last_entry_job (last_entry_of_worker es w)) (Some p));
    } =
    shown_as s mem privs' es w _ _ _ _ refl refl refl became.at
    ∙ rw (fallen_entered (lock_owned_by_worker s mem w)) (rw (fallen_stance (lock_owned_by_worker s mem w) (is_pending (worker_words mem w)) (worker_words mem w).begun (slate_job (worker_words mem w)) (last_entry_job (last_entry_of_worker es w)) p) refl) in (
      private_kept s mem privs privs' es w None fact became (λ q e. absurd (none-some q e)),
      does_as s Crash mem privs es w _ (abstract_state s mem privs' es) worker before (refl, moved s mem privs privs' es w None _ worker became after),
    )

-- A restart changes nothing else in the abstract state.
raised_stance : (owned : Option ℕ) (pending : Bool) (number : ℕ) (slate last : Job) (w : ℕ)
    → abstract_stance owned pending number slate last (Some (restarted_private w)) ≡ abstract_stance owned pending number slate last None
raised_stance (Some lock) true number slate last w = refl
raised_stance (Some lock) false number slate last w = refl
raised_stance None true number slate last w = refl
raised_stance None false number slate last w = refl

raised_entered : (owned : Option ℕ) (w : ℕ) → abstract_entered owned (Some (restarted_private w)) ≡ abstract_entered owned None
raised_entered (Some lock) w = refl
raised_entered None w = refl

pub restart : RestartLaw
restart s mem privs privs' es w fact worker was became =
    let before : abstract_worker s mem privs es w ≡ face (lock_owned_by_worker s mem w) (is_pending (worker_words mem w)) (worker_words mem w).begun
    (slate_job (worker_words mem w)) (last_entry_job (last_entry_of_worker es w)) None (withdrawn_numbers es w (worker_words mem w).done) =
    shown_as s mem privs es w _ _ _ _ refl refl refl was in
    let after : abstract_worker s mem privs' es w ≡ record {
      up = true;
      entered = abstract_entered (lock_owned_by_worker s mem w) None;
      asked = (worker_words mem w).begun;
      withdrawn = withdrawn_numbers es w (worker_words mem w).done;
      stance = abstract_stance (lock_owned_by_worker s mem w) (is_pending (worker_words mem w)) (worker_words mem w).begun (slate_job (worker_words mem w)) (last_entry_job (last_entry_of_worker es w)) None;
    } =
    shown_as s mem privs' es w _ _ _ _ refl refl refl became.at
    ∙ rw (raised_entered (lock_owned_by_worker s mem w) w) (rw (raised_stance (lock_owned_by_worker s mem w) (is_pending (worker_words mem w)) (worker_words mem w).begun (slate_job (worker_words mem w)) (last_entry_job (last_entry_of_worker es w)) w) refl) in (
      changed s mem privs privs' es w (restarted_private w) fact became record {
        is = refl;
        shaped = record { worker = worker; begun = omega arith; stage = tt };
        knows = tt;
      },
      does_as s Restart mem privs es w _ (abstract_state s mem privs' es) worker before (refl, moved s mem privs privs' es w _ _ worker became after),
    )

pub submit : SubmitLaw
submit s mem privs privs' es w p job fact worker was ready few good became =
    let fits : PrivateInvariant s (worker_words mem w) (held_levels_in s mem w) (lock_words s mem) w p = fact.fits w p worker was in
    let idle : IsIdleWorker s (worker_words mem w) (held_levels_in s mem w) p.begun = rw ready at fits.knows in
    let owned : lock_owned_by_worker s mem w ≡ None = owned_none s mem w (λ l below all. omega (arith, idle.holds l below, all, s.counted.tree.some_level)) in
    let before : abstract_worker s mem privs es w ≡ record {
      up = true;
      entered = false;
      asked = p.begun;
      withdrawn = withdrawn_numbers es w (worker_words mem w).done;
      stance = stance.Idle;
    } =
    shown_as s mem privs es w None false p.begun (Some p) owned idle.past idle.known was ∙ rw ready refl in
    let after : abstract_worker s mem privs' es w ≡ record {
      up = true;
      entered = false;
      asked = p.begun;
      withdrawn = withdrawn_numbers es w (worker_words mem w).done;
      stance = stance.Handed job;
    } =
    shown_as s mem privs' es w None false p.begun _ owned idle.past idle.known became.at in (
      changed s mem privs privs' es w (submitted_private p job) fact became record {
        is = fits.is;
        shaped = record { worker = fits.shaped.worker; begun = fits.shaped.begun; stage = (few, good, omega arith) };
        knows = (idle, record { lock = λ some. absurd (omega arith); len = λ some. absurd (omega arith); words = refl });
      },
      does_as s (Hand (p.begun + 1) job) mem privs es w _ (abstract_state s mem privs' es) worker before
          (refl, refl, good, refl, few, moved s mem privs privs' es w _ _ worker became after),
    )

pub withdraw : WithdrawLaw
withdraw s mem privs privs' es w p ascent fact worker was climbing became =
    let fits : PrivateInvariant s (worker_words mem w) (held_levels_in s mem w) (lock_words s mem) w p = fact.fits w p worker was in
    let at : IsPendingAt (worker_words mem w) (held_levels_in s mem w) p.begun ascent.lock ascent.held = rw climbing at fits.knows in
    let stage : (ascent.lock < s.locks) × (ascent.held < s.height) = rw climbing at fits.shaped.stage in
    let owned : lock_owned_by_worker s mem w ≡ None = owned_site s mem privs es w ascent.lock fact worker (rw at.pending at.slate) (omega (arith, at.holds, stage.1)) in
    let before : abstract_worker s mem privs es w ≡ record {
      up = true;
      entered = false;
      asked = p.begun;
      withdrawn = withdrawn_numbers es w (worker_words mem w).done;
      stance = stance.Waiting p.begun (slate_job (worker_words mem w));
    } =
    shown_as s mem privs es w None true p.begun (Some p) owned at.pending at.known was in
    let after : abstract_worker s mem privs' es w ≡ record {
      up = true;
      entered = false;
      asked = p.begun;
      withdrawn = withdrawn_numbers es w (worker_words mem w).done;
      stance = stance.Waiting p.begun (slate_job (worker_words mem w));
    } =
    shown_as s mem privs' es w None true p.begun _ owned at.pending at.known became.at in
    let now : withdrawing_private p ≡ record { worker = p.worker; begun = p.begun; stage = Leaving (WithdrawPlace ascent.lock ascent.held) } = rw climbing refl in (
      changed s mem privs privs' es w (withdrawing_private p) fact became (rw now record {
        is = fits.is;
        shaped = record { worker = fits.shaped.worker; begun = fits.shaped.begun; stage = stage };
        knows = at;
      }),
      does_as s Wait mem privs es w _ (abstract_state s mem privs' es) worker before (
        p.begun,
        slate_job (worker_words mem w),
        refl,
        refl,
        shown_still s mem mem privs privs' es w worker (load_frame s mem privs privs' es w _ became) (λ l below. refl) (after ∙ sym before),
      ),
    )

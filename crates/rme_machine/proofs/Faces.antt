-- The abstract state of one worker, from the lock that it owns, its words, its private state and the history.
use Rattle.std.proofs.Common.{◌≡◌, ℕ, ◌<◌, List, refl, sym, ◌∙◌, ap, ap₂}
use Rattle.std.specs.Prelude.{Bool, true, false, Option, Some, None, is_some}
use Rattle.rme_words.specs.declared.shape.Shape.{Shape}
use Rattle.rme_words.specs.declared.address.Address.{Address}
use Rattle.rme_tree.specs.Nodes.{owner_in}
use Rattle.rme_script.specs.declared.job.Job.{Job}
use Rattle.rme_program.specs.declared.note.Entry.{Entry}
use Rattle.rme_program.specs.declared.private.Private.{Private}
use Rattle.rme_machine.specs.declared.label.Act.{Act}
use Rattle.rme_machine.specs.declared.label.Act.TheVariants.{Still}
use Rattle.rme_machine.specs.Histories.{last_entry_of_worker, withdrawn_numbers}
use Rattle.rme_machine.specs.Machine.{MachineState, WorkerState, ActEffect, MachineStep}
use Rattle.rme_machine.specs.Views.{WorkerWords, worker_words, is_pending, slate_job}
use Rattle.rme_machine.specs.AbstractState.{Privates, lock_owned_by_worker, last_entry_job, is_in_section_or_exit, stance_outside, abstract_stance, abstract_entered, abstract_worker, abstract_state}
use Rattle.rme_machine.specs.Invariant.{Invariant}
use Rattle.rme_machine.specs.Laws.{RefinementStep, concrete_state}
use Rattle.rme_machine.proofs.Shows.{Frame, shown_me, shown_still}

-- The abstract state of a worker, from its parts.
abbrev pub face : Option ℕ → Bool → ℕ → Job → Job → Option Private → List ℕ → WorkerState
face owned pending number slate last private withdrawn = record {
  up = is_some private;
  entered = abstract_entered owned private;
  asked = number;
  withdrawn = withdrawn;
  stance = abstract_stance owned pending number slate last private;
}

pub shown_as : (s : Shape) (mem : Address → ℕ) (privs : Privates) (es : List Entry) (w : ℕ) (owned : Option ℕ) (pending : Bool) (number : ℕ) (private : Option Private)
    → lock_owned_by_worker s mem w ≡ owned → is_pending (worker_words mem w) ≡ pending → (worker_words mem w).begun ≡ number → privs w ≡ private
    → abstract_worker s mem privs es w
    ≡ face owned pending number (slate_job (worker_words mem w)) (last_entry_job (last_entry_of_worker es w)) private (withdrawn_numbers es w (worker_words mem w).done)
shown_as s mem privs es w owned pending number private owns at begun is = rw owns (rw at (rw begun (rw is refl)))

-- A step of the abstract machine, from the abstract state of its worker.
pub does_as : (s : Shape) (act : Act) (mem : Address → ℕ) (privs : Privates) (es : List Entry) (w : ℕ) (me : WorkerState) (new : MachineState) → w < s.workers
    → abstract_worker s mem privs es w ≡ me → ActEffect s act (abstract_state s mem privs es) w me new → MachineStep s act (abstract_state s mem privs es) w new
does_as s act mem privs es w me new worker shows goes = record {
  me = me;
  is_me = shown_me s mem privs es w worker ∙ ap (λ (state : WorkerState). Some state) shows;
  goes = goes;
}

stance_same : (owned : Option ℕ) (pending : Bool) (number : ℕ) (slate last : Job) (p q : Option Private) → stance_outside q ≡ stance_outside p
    → abstract_stance owned pending number slate last q ≡ abstract_stance owned pending number slate last p
stance_same (Some lock) true number slate last p q same = refl
stance_same (Some lock) false number slate last p q same = refl
stance_same None true number slate last p q same = refl
stance_same None false number slate last p q same = same

pub entered_same : (owned : Option ℕ) (p q : Option Private) → is_in_section_or_exit q ≡ is_in_section_or_exit p → abstract_entered owned q ≡ abstract_entered owned p
entered_same (Some lock) p q same = same
entered_same None p q same = refl

-- Two private states with the same abstraction, everything else being equal.
pub face_same : (owned : Option ℕ) (pending : Bool) (number : ℕ) (slate last : Job) (withdrawn : List ℕ) (p q : Option Private)
    → is_some q ≡ is_some p → abstract_entered owned q ≡ abstract_entered owned p → stance_outside q ≡ stance_outside p
    → face owned pending number slate last q withdrawn ≡ face owned pending number slate last p withdrawn
face_same owned pending number slate last withdrawn p q up entered outside =
    rw up (rw entered (rw (stance_same owned pending number slate last p q outside) refl))

-- A quiet step: the worker owns the same lock, has the same job, and its private state has the same abstraction.
pub quiet : (s : Shape) (mem mem' : Address → ℕ) (privs privs' : Privates) (es : List Entry) (w : ℕ) (p p' : Private) (new : WorkerWords)
    → w < s.workers → Invariant s mem' privs' es → Frame s mem mem' privs privs' es es w → ((l : ℕ) → l < s.locks → owner_in s mem' l ≡ owner_in s mem l)
    → lock_owned_by_worker s mem' w ≡ lock_owned_by_worker s mem w → worker_words mem' w ≡ new → is_pending new ≡ is_pending (worker_words mem w)
    → new.begun ≡ (worker_words mem w).begun → slate_job new ≡ slate_job (worker_words mem w) → new.done ≡ (worker_words mem w).done
    → privs w ≡ Some p → privs' w ≡ Some p' → abstract_entered (lock_owned_by_worker s mem w) (Some p') ≡ abstract_entered (lock_owned_by_worker s mem w) (Some p) → stance_outside (Some p') ≡ stance_outside (Some p)
    → RefinementStep s (concrete_state mem privs es) (concrete_state mem' privs' es) w Still
quiet s mem mem' privs privs' es w p p' new worker fact frame owners owned own pending begun slate done was is entered outside =
    let number : (worker_words mem' w).begun ≡ (worker_words mem w).begun = ap (λ (own : WorkerWords). own.begun) own ∙ begun in
    let finished : (worker_words mem' w).done ≡ (worker_words mem w).done = ap (λ (own : WorkerWords). own.done) own ∙ done in
    let job : slate_job (worker_words mem' w) ≡ slate_job (worker_words mem w) = ap (λ (own : WorkerWords). slate_job own) own ∙ slate in
    let begun_job : is_pending (worker_words mem' w) ≡ is_pending (worker_words mem w) = ap (λ (own : WorkerWords). is_pending own) own ∙ pending in
    let before : abstract_worker s mem privs es w ≡ face (lock_owned_by_worker s mem w) (is_pending (worker_words mem w)) (worker_words mem w).begun
    (slate_job (worker_words mem w)) (last_entry_job (last_entry_of_worker es w)) (Some p) (withdrawn_numbers es w (worker_words mem w).done) =
    shown_as s mem privs es w _ _ _ _ refl refl refl was in
    let after : abstract_worker s mem' privs' es w ≡ face (lock_owned_by_worker s mem w) (is_pending (worker_words mem w)) (worker_words mem w).begun
    (slate_job (worker_words mem w)) (last_entry_job (last_entry_of_worker es w)) (Some p') (withdrawn_numbers es w (worker_words mem w).done) =
    shown_as s mem' privs' es w _ _ _ _ owned begun_job number is
    ∙ ap₂ (λ (job : Job) (done : ℕ). face (lock_owned_by_worker s mem w) (is_pending (worker_words mem w)) (worker_words mem w).begun
    job (last_entry_job (last_entry_of_worker es w)) (Some p') (withdrawn_numbers es w done)) job finished in (
      fact,
      does_as s Still mem privs es w (abstract_worker s mem privs es w) (abstract_state s mem' privs' es) worker refl (
        ap (λ (o : Option Private). is_some o) was,
        shown_still s mem mem' privs privs' es w worker frame owners
            (after ∙ face_same _ _ _ _ _ _ (Some p) (Some p') refl entered outside ∙ sym before),
      ),
    )

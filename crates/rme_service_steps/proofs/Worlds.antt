-- Worlds: what each shows of one worker, and what makes one.
use Rattle.std.proofs.Common.{◌≡◌, ◌≢◌, ℕ, ◌<◌, List, [], length, refl, sym, ◌∙◌, ap, subst, inl, inr}
use Rattle.std.specs.Prelude.{Bool, true, false, Option, Some, None, ◌==◌, if◌then◌else◌}
use Rattle.std.proofs.lemmas.Bool.{cases_eq, eq-eqb, ne_eqb}
use Rattle.rme_words.specs.declared.shape.Shape.{Shape}
use Rattle.rme_words.specs.declared.address.Address.{Address}
use Rattle.rme_script.specs.declared.job.Job.{Job}
use Rattle.rme_program.specs.declared.note.Entry.{Entry}
use Rattle.rme_program.specs.declared.private.Private.{Private}
use Rattle.rme_machine.specs.Changes.{PrivateChange}
use Rattle.rme_machine.specs.Views.{worker_words, is_pending, slate_job}
use Rattle.rme_machine.specs.AbstractState.{Privates, abstract_state, abstract_worker, lock_owned_by_worker, abstract_stance, last_entry_job}
use Rattle.rme_machine.specs.Histories.{last_entry_of_worker}
use Rattle.rme_machine.specs.Invariant.{Invariant}
use Rattle.rme_machine.specs.FurtherLaws.{StateHasDrafts, StanceHasDraft, draft_after}
use Rattle.rme_machine.specs.KnownSections.{StanceKnowsSection, StateKnowsSections, section_after}
use Rattle.rme_machine.specs.Theorems.{IsReachable}
use Rattle.rme_machine.specs.declared.label.Act.{Act}
use Rattle.rme_machine.specs.Machine.{MachineState, MachineStep}
use Rattle.rme_machine.proofs.Shows.{shown_me}
use Rattle.rme_machine.proofs.Books.{drafting}
use Rattle.rme_machine.proofs.Knowing.{knowing}
use Rattle.rme_service_steps.specs.declared.seat_record.Part.{Part}
use Rattle.rme_service_steps.specs.Layout.{table_size}
use Rattle.rme_service_steps.specs.Rule.{ServiceInvariant, PartMatchesHistory, table_memory, privates_of_parts, parts_with_update}

-- The worker's own part, and another's.
pub there : (parts : ℕ → Part) (w : ℕ) (p : Part) → parts_with_update parts w p w ≡ p
there parts w p = rw (eq-eqb w w refl) refl

pub elsewhere : (parts : ℕ → Part) (w u : ℕ) (p : Part) → u ≢ w → parts_with_update parts w p u ≡ parts u
elsewhere parts w u p apart = rw (ne_eqb u w apart) refl

pub became : (parts : ℕ → Part) (w : ℕ) (p : Part) → PrivateChange (privates_of_parts parts) (privates_of_parts (parts_with_update parts w p)) w (Some p.private)
became parts w p = record {
  at = ap (λ (q : Part). Some q.private) (there parts w p);
  off = λ u apart. ap (λ (q : Part). Some q.private) (elsewhere parts w u p apart);
}

-- The draft of a worker with a pending job is the job of its slate.
draft_by : (owned : Option ℕ) (pending : Bool) (number : ℕ) (slate last : Job) (private : Option Private) (draft : Option Job)
    → pending ≡ true → StanceHasDraft (abstract_stance owned pending number slate last private) draft → draft ≡ Some slate
draft_by (Some lock) true number slate last private draft is draft_after = draft_after
draft_by None true number slate last private draft is draft_after = draft_after
draft_by owned false number slate last private draft is draft_after = cc

pub slate_is_draft : (s : Shape) (mem : Address → ℕ) (privs : Privates) (es : List Entry) (drafts : ℕ → Option Job) (w : ℕ) → w < s.workers
    → StateHasDrafts (abstract_state s mem privs es) drafts → is_pending (worker_words mem w) ≡ true → drafts w ≡ Some (slate_job (worker_words mem w))
slate_is_draft s mem privs es drafts w worker are pending =
    draft_by (lock_owned_by_worker s mem w) (is_pending (worker_words mem w)) _ (slate_job (worker_words mem w)) (last_entry_job (last_entry_of_worker es w)) (privs w) (drafts w) pending
    (are w (abstract_worker s mem privs es w) (shown_me s mem privs es w worker))

-- A world is made of the invariant, the workers' entries, the drafts and the known sections.
pub world_of : (s : Shape) (words : List ℕ) (parts : ℕ → Part) (es : List Entry) → length words ≡ table_size s → Invariant s (table_memory s words) (privates_of_parts parts) es → ((w : ℕ) → w < s.workers → PartMatchesHistory es w (parts w))
    → StateHasDrafts (abstract_state s (table_memory s words) (privates_of_parts parts) es) (λ (w : ℕ). (parts w).draft)
    → StateKnowsSections (abstract_state s (table_memory s words) (privates_of_parts parts) es) (λ (w : ℕ). (parts w).section) → ServiceInvariant s words parts es
world_of s words parts es long fact books drafts sections = record {
  long = long;
  fact = fact;
  books = books;
  drafts = drafts;
  sections = sections;
  slates = λ w worker pending. slate_is_draft s (table_memory s words) (privates_of_parts parts) es (λ (w : ℕ). (parts w).draft) w worker drafts pending;
}

-- Drafts that are the same for each worker.
pub drafts_same : (state : MachineState) (drafts others : ℕ → Option Job) → StateHasDrafts state drafts → ((u : ℕ) → drafts u ≡ others u) → StateHasDrafts state others
drafts_same state drafts others are same u me at = subst (λ (d : Option Job). StanceHasDraft me.stance d) (same u) (are u me at)

-- Known sections that are the same for each worker.
pub sections_same : (state : MachineState) (sections others : ℕ → Option ℕ) → StateKnowsSections state sections → ((u : ℕ) → sections u ≡ others u) → StateKnowsSections state others
sections_same state sections others knows same u me at = subst (λ (n : Option ℕ). StanceKnowsSection state.history me.stance n) (same u) (knows u me at)

-- The drafts after a step of the machine, where the worker's own is then this one.
pub drafts_of : (s : Shape) (act : Act) (old new : MachineState) (parts : ℕ → Part) (p q : Part) → MachineStep s act old p.worker new → parts p.worker ≡ p
    → draft_after act p.draft ≡ q.draft → StateHasDrafts old (λ (u : ℕ). (parts u).draft) → StateHasDrafts new (λ (u : ℕ). (parts_with_update parts p.worker q u).draft)
drafts_of s act old new parts p q does here own are =
    drafts_same new _ _ (drafting s act old p.worker new (λ (v : ℕ). (parts v).draft) does are) same
  where
    same : (u : ℕ) → (if u == p.worker then draft_after act (parts p.worker).draft else (parts u).draft) ≡ (parts_with_update parts p.worker q u).draft
    same u = elim (cases_eq u p.worker) [
      | inl e ↦ rw (eq-eqb u p.worker e) (ap (λ (x : Part). draft_after act x.draft) here ∙ own)
      | inr n ↦ rw (ne_eqb u p.worker n) refl
    ]

-- The state of words, private states and a history with the invariant is one that a run reaches.
pub reached_state : (s : Shape) (mem : Address → ℕ) (privs : Privates) (es : List Entry) → Invariant s mem privs es → IsReachable s (abstract_state s mem privs es)
reached_state s mem privs es fact = record { start = abstract_state s mem privs es; begins = inr (mem, privs, es, fact, refl); labels = []; run = refl }

-- The known sections after a step of the machine, where the worker's own is then this one.
pub sections_of : (s : Shape) (act : Act) (old new : MachineState) (parts : ℕ → Part) (p q : Part) → IsReachable s old → MachineStep s act old p.worker new → parts p.worker ≡ p
    → section_after act p.section ≡ q.section → StateKnowsSections old (λ (u : ℕ). (parts u).section) → StateKnowsSections new (λ (u : ℕ). (parts_with_update parts p.worker q u).section)
sections_of s act old new parts p q reached does here own knows =
    sections_same new _ _ (knowing s act old p.worker new (λ (v : ℕ). (parts v).section) reached does knows) same
  where
    same : (u : ℕ) → (if u == p.worker then section_after act (parts p.worker).section else (parts u).section) ≡ (parts_with_update parts p.worker q u).section
    same u = elim (cases_eq u p.worker) [
      | inl e ↦ rw (eq-eqb u p.worker e) (ap (λ (x : Part). section_after act x.section) here ∙ own)
      | inr n ↦ rw (ne_eqb u p.worker n) refl
    ]

-- A part put in the place of the worker's own, as it is.
pub same_parts : (parts : ℕ → Part) (p : Part) → parts p.worker ≡ p → parts_with_update parts p.worker p ≡ parts
same_parts parts p here = λ k u. at u k
  where
    at : (u : ℕ) → parts_with_update parts p.worker p u ≡ parts u
    at u = elim (cases_eq u p.worker) [
      | inl e ↦ rw (eq-eqb u p.worker e) (sym here ∙ ap parts (sym e))
      | inr n ↦ rw (ne_eqb u p.worker n) refl
    ]

-- Another part of the same worker in the place of its own, with the same entries.
pub books_of : (s : Shape) (words : List ℕ) (parts : ℕ → Part) (es : List Entry) (p q : Part) → ServiceInvariant s words parts es → parts p.worker ≡ p → q.worker ≡ p.worker
    → q.entries ≡ p.entries → (u : ℕ) → u < s.workers → PartMatchesHistory es u (parts_with_update parts p.worker q u)
books_of s words parts es p q world here own entries u below = elim (cases_eq u p.worker) [
  | inl e ↦
      (let Q : Part → Type 0 = λ (x : Part). PartMatchesHistory es u x in
      let old = world.books u below in
      let mine : parts u ≡ p = ap parts e ∙ here in
      let now : Q q = record { own = own ∙ sym e; entries = old.entries ∙ ap (λ (x : Part). x.entries) mine ∙ sym entries } in
      let at : parts_with_update parts p.worker q u ≡ q = rw (eq-eqb u p.worker e) refl in subst Q (sym at) now)
  | inr n ↦ subst (λ (x : Part). PartMatchesHistory es u x) (sym (elsewhere parts p.worker u q n)) (world.books u below)
]

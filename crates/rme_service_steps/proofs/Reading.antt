-- A worker that is inside reads the number of finished sections of its lock.
use Rattle.std.proofs.Common.{◌≡◌, ◌≢◌, ℕ, ◌+◌, ◌*◌, ◌/◌, ◌^◌, ◌<◌, List, [], ◌∷◌, length, refl, sym, ◌∙◌, ap, subst, inl, inr, arith}
use Rattle.std.specs.Prelude.{Bool, true, ◌==◌, if◌then◌else◌, Option, Some, slice_get}
use Rattle.std.proofs.lemmas.Bool.{cases_eq, eq-eqb, ne_eqb}
use Rattle.std.proofs.lemmas.Option.{same_Some}
use Rattle.rme_words.specs.declared.shape.Shape.{Shape}
use Rattle.rme_words.specs.declared.address.Address.{Address}
use Rattle.rme_words.specs.declared.address.Address.TheVariants.{Turn}
use Rattle.rme_tree.specs.Nodes.{held_levels_in, owner_in}
use Rattle.rme_script.specs.declared.job.Job.{Job}
use Rattle.rme_program.specs.declared.note.Entry.{Entry}
use Rattle.rme_program.specs.declared.note.Receipt.{Receipt}
use Rattle.rme_program.specs.declared.note.Note.TheVariants.{Finished}
use Rattle.rme_program.specs.declared.private.Private.{Private}
use Rattle.rme_program.specs.declared.stage.Stage.{Stage}
use Rattle.rme_program.specs.declared.stage.Stage.TheVariants.{Resting, Logging}
use Rattle.rme_program.specs.declared.stage.Log.{Log}
use Rattle.rme_program.specs.declared.stage.Log.TheVariants.{LoadTurn}
use Rattle.rme_program.specs.Conditions.{IsStage, IsValidLoad}
use Rattle.rme_program.specs.ActionEffects.{ActionEffect}
use Rattle.rme_program.specs.Steps.{private_action, stage_action, note_after}
use Rattle.rme_machine.specs.declared.stance.JobStance.{JobStance}
use Rattle.rme_machine.specs.declared.stance.JobStance.TheVariants.{Inside}
use Rattle.rme_machine.specs.FurtherLaws.{StateHasDrafts}
use Rattle.rme_machine.specs.declared.label.Act.{Act}
use Rattle.rme_machine.specs.declared.label.Act.TheVariants.{Finish}
use Rattle.rme_machine.specs.Histories.{place_of, history_of_lock, last_entry_of_worker}
use Rattle.rme_machine.specs.KnownSections.{StanceKnowsSection, StateKnowsSections}
use Rattle.rme_machine.specs.Knowledge.{StageKnowledge}
use Rattle.rme_machine.specs.Machine.{MachineState, WorkerState, MachineStep}
use Rattle.rme_machine.specs.Views.{worker_words, lock_words, is_pending, slate_job}
use Rattle.rme_machine.specs.Invariant.{Invariant, IsSettledLock, IsLoggedLock}
use Rattle.rme_machine.specs.AbstractState.{Privates, abstract_state, abstract_worker, abstract_stance, lock_owned_by_worker, last_entry_job, act_of_note}
use Rattle.rme_machine.proofs.Shows.{owned_at, shown_me}
use Rattle.rme_machine.proofs.Sections.{place_count}
use Rattle.rme_machine.proofs.Taking.{taking}
use Rattle.rme_machine.proofs.Owning.{Owner, stands_inside}
use Rattle.rme_service_steps.specs.declared.seat_record.Part.{Part}
use Rattle.rme_service_steps.specs.Parts.{part_after_step, part_with_section}
use Rattle.rme_service_steps.specs.Rule.{ServiceInvariant, service_abstract_state, table_memory, privates_of_parts, parts_with_update}
use Rattle.rme_service_steps.specs.Steps.{PartWasInWorld, PartMadeStep}
use Rattle.rme_service_steps.proofs.Keeping.{kept}
use Rattle.rme_service_steps.proofs.Worlds.{there, elsewhere, world_of, books_of, drafts_same, sections_same}

-- What a worker inside, before its first own step there, has of its lock.
module _ (s : Shape) (mem : Address → ℕ) (privs : Privates) (es : List Entry) (w lock : ℕ) (q : Private) (fact : Invariant s mem privs es) (worker : w < s.workers) (was : privs w ≡ Some q)
    (at : q.stage ≡ Logging (LoadTurn lock)) where
  owner : Owner s (worker_words mem w) (held_levels_in s mem w) w q.begun lock
  owner =
      let fits = fact.fits w q worker was in
      let P : Stage → Type 0 = λ (x : Stage). StageKnowledge s (worker_words mem w) (held_levels_in s mem w) (lock_words s mem) q.begun x in
      let knows : P (Logging (LoadTurn lock)) = subst P at fits.knows in
      let Q : Stage → Type 0 = λ (x : Stage). IsStage s q.begun x in
      let shaped : Q (Logging (LoadTurn lock)) = subst Q at fits.shaped.stage in
      record { worker = worker; few = fits.shaped.begun; lock = shaped; at = knows.0 }

  half_turn : mem (Turn lock) / 2 ≡ place_of es lock
  half_turn = elim (stands_inside s mem privs es w q.begun lock fact owner) [
    | inl settled ↦ (let turn : mem (Turn lock) ≡ 2 * place_of es lock = settled.turn in omega (arith, turn))
    | inr logged ↦ (let turn : mem (Turn lock) ≡ 2 * place_of es lock + 1 = logged.turn in omega (arith, turn))
  ]

  is_inside : (abstract_worker s mem privs es w).stance ≡ Inside (worker_words mem w).begun (slate_job (worker_words mem w))
  is_inside = inside_by (lock_owned_by_worker s mem w) (is_pending (worker_words mem w)) (owned_at s mem privs es w lock fact worker owner.lock owner.at.holds) owner.at.pending
    where
      inside_by : (owned : Option ℕ) (pending : Bool) → owned ≡ Some lock → pending ≡ true
          → abstract_stance owned pending (worker_words mem w).begun (slate_job (worker_words mem w)) (last_entry_job (last_entry_of_worker es w)) (privs w)
          ≡ Inside (worker_words mem w).begun (slate_job (worker_words mem w))
      inside_by owned pending owns is = rw (owns, is) refl

  pub knows_turn : StanceKnowsSection es (abstract_worker s mem privs es w).stance (Some (mem (Turn lock) / 2))
  knows_turn = subst (λ (x : JobStance). StanceKnowsSection es x (Some (mem (Turn lock) / 2))) (sym is_inside)
      (half_turn ∙ ap (λ (l : ℕ). place_of es l) (sym owner.at.slate))

  -- A number that it knows is that of the finished sections of the lock.
  pub known_is : (section : ℕ) → StanceKnowsSection es (abstract_worker s mem privs es w).stance (Some section) → section ≡ length (history_of_lock es lock)
  known_is section knows =
      let known : section ≡ place_of es (slate_job (worker_words mem w)).lock = subst (λ (x : JobStance). StanceKnowsSection es x (Some section)) is_inside knows in
      known ∙ ap (λ (l : ℕ). place_of es l) owner.at.slate ∙ place_count es lock

module _ (s : Shape) (words : List ℕ) (parts : ℕ → Part) (es : List Entry) (p : Part) (lock : ℕ) (world : ServiceInvariant s words parts es) (worker : p.worker < s.workers) (here : parts p.worker ≡ p)
    (at : p.private.stage ≡ Logging (LoadTurn lock)) where
  was : privates_of_parts parts p.worker ≡ Some p.private
  was = ap (λ (q : Part). Some q.private) here

  -- In every world with the part, a number that it knows is that of the finished sections of the lock.
  pub known_in_world : (section : ℕ) → p.section ≡ Some section → section ≡ length (history_of_lock es lock)
  known_in_world section is =
      known_is s (table_memory s words) (privates_of_parts parts) es p.worker lock p.private world.fact worker was at section
      (subst (λ (n : Option ℕ). StanceKnowsSection es (abstract_worker s (table_memory s words) (privates_of_parts parts) es p.worker).stance n) (ap (λ (q : Part). q.section) here ∙ is)
      (world.sections p.worker (abstract_worker s (table_memory s words) (privates_of_parts parts) es p.worker) (shown_me s (table_memory s words) (privates_of_parts parts) es p.worker worker)))

  -- The part with the number, in the place of the part.
  section : ℕ
  section = table_memory s words (Turn lock) / 2

  after : ℕ → Part
  after = parts_with_update parts p.worker (part_with_section p section)

  same_field : {A : Type 0} (field : Part → A) → field (part_with_section p section) ≡ field p → (u : ℕ) → field (after u) ≡ field (parts u)
  unfolding after
  same_field field same u = elim (cases_eq u p.worker) [
    | inl e ↦ rw (eq-eqb u p.worker e) (same ∙ ap field (sym here) ∙ ap (λ (v : ℕ). field (parts v)) (sym e))
    | inr n ↦ rw (ne_eqb u p.worker n) refl
  ]

  same_privates : privates_of_parts after ≡ privates_of_parts parts
  same_privates = λ k u. same_field (λ (q : Part). Some q.private) refl u k

  known_after : StateKnowsSections (abstract_state s (table_memory s words) (privates_of_parts parts) es) (λ (u : ℕ). (after u).section)
  unfolding after section
  known_after u me me_at = elim (cases_eq u p.worker) [
    | inl e ↦ rw (eq-eqb u p.worker e) (
        let mem = table_memory s words in
        let mine : abstract_worker s mem (privates_of_parts parts) es p.worker ≡ me = same_Some _ me (sym (shown_me s mem (privates_of_parts parts) es p.worker worker) ∙ subst (λ (v : ℕ). slice_get (abstract_state s mem (privates_of_parts parts) es).workers v ≡ Some me) e me_at) in
        subst (λ (x : WorkerState). StanceKnowsSection es x.stance (Some (mem (Turn lock) / 2))) mine (knows_turn s mem (privates_of_parts parts) es p.worker lock p.private world.fact worker was at))
    | inr n ↦ rw (ne_eqb u p.worker n) (world.sections u me me_at)
  ]

  pub read_world : ServiceInvariant s words (parts_with_update parts p.worker (part_with_section p (table_memory s words (Turn lock) / 2))) es
  unfolding after section
  read_world =
      let mem = table_memory s words in
      let drafts = drafts_same (abstract_state s mem (privates_of_parts parts) es) _ (λ (u : ℕ). (after u).draft) world.drafts (λ u. sym (same_field (λ (q : Part). q.draft) refl u)) in
      world_of s words after es world.long (subst (λ (f : Privates). Invariant s mem f es) (sym same_privates) world.fact)
      (books_of s words parts es p (part_with_section p section) world here refl refl)
      (subst (λ (f : Privates). StateHasDrafts (abstract_state s mem f es) (λ (u : ℕ). (after u).draft)) (sym same_privates) drafts)
      (subst (λ (f : Privates). StateKnowsSections (abstract_state s mem f es) (λ (u : ℕ). (after u).section)) (sym same_privates) known_after)

  -- The turn is a machine number of 32 bits.
  pub turn_few : table_memory s words (Turn lock) < 2 ^ 32
  turn_few =
      let mem = table_memory s words in
      let own : ActionEffect mem mem (private_action s p.private) (mem (Turn lock)) = subst (λ (x : Stage). ActionEffect mem mem (stage_action s p.private.worker p.private.begun x) (mem (Turn lock))) (sym at) (refl, refl) in
      subst (λ (x : Stage). IsValidLoad s x (mem (Turn lock))) at
      (taking s mem mem (privates_of_parts parts) es p.worker p.private (mem (Turn lock)) world.fact worker was (λ e. loads (sym at ∙ e)) own)
    where
      loads : ◌≡◌ {A = Stage} (Logging (LoadTurn lock)) Resting → ⊥
      loads e = cc

  -- For the abstract machine nothing has happened.
  pub read_runs : service_abstract_state s record { words = words; parts = parts_with_update parts p.worker (part_with_section p (table_memory s words (Turn lock) / 2)); history = es }
      ≡ service_abstract_state s record { words = words; parts = parts; history = es }
  unfolding after section
  read_runs = ap (λ (f : Privates). abstract_state s (table_memory s words) f es) same_privates

as_finish : {s : Shape} {old new : MachineState} {w : ℕ} (act other : Act) → act ≡ other → MachineStep s act old w new → MachineStep s other old w new
as_finish {s} {old} {new} {w} act other same does = subst (λ (a : Act). MachineStep s a old w new) same does

-- The receipt of a section has the place that its worker knew.
pub finished_place : (s : Shape) (p : Part) (value : ℕ) (receipt : Receipt) → PartMadeStep s p value → p.private.stage ≢ Resting → note_after s p.private value ≡ Finished receipt
    → (section : ℕ) → p.section ≡ Some section → receipt.place ≡ section
finished_place s p value receipt made busy note section knows =
    let before = made.before in
    let mem = table_memory s before.words in
    let privs = privates_of_parts before.parts in
    let step = kept s before.words made.words before.parts before.history p value before.world before.worker before.here busy made.did made.after.long in
    let does = as_finish (act_of_note (note_after s p.private value)) (Finish receipt) (ap act_of_note note) step.does in
    let (k, job, up, entered, inside, is, then_) = does.goes in
    let known : StanceKnowsSection before.history does.me.stance (Some section) =
    subst (λ (n : Option ℕ). StanceKnowsSection before.history does.me.stance n) (ap (λ (q : Part). q.section) before.here ∙ knows) (before.world.sections p.worker does.me does.is_me) in
    let place : section ≡ place_of before.history job.lock = subst (λ (x : JobStance). StanceKnowsSection before.history x (Some section)) inside known in
    ap (λ (r : Receipt). r.place) is ∙ sym place

-- The slate's words, loaded one after another.
use Rattle.std.proofs.Common.{◌≡◌, ℕ, ◌+◌, ◌*◌, ◌/◌, ◌%◌, ◌<◌, ◌≤◌, List, [], length, take, refl, sym, ◌∙◌, ap, subst, inl, inr, arith}
use Rattle.std.specs.Prelude.{true, slice_index, slice_set, replicate, nat_lt, Option, Some, None, Result, Ok, Err, OnOk}
use Rattle.std.proofs.lemmas.Option.{same_Some}
use Rattle.std.proofs.lemmas.Bool.{cases_Bool, ne_eqb, eq-eqb}
use Rattle.std.proofs.lemmas.List.{length-set}
use Rattle.rme_words.specs.declared.shape.Shape.{Shape}
use Rattle.rme_words.specs.declared.address.Address.TheVariants.{SlateLen, SlateWord}
use Rattle.rme_script.specs.Programs.{Program}
use Rattle.rme_script.specs.Scripts.{IsScript}
use Rattle.rme_script.specs.declared.op.Op.{Op}
use Rattle.rme_script.specs.Slates.{script_from_words, script_if_read, ops_from_words, slate_of}
use Rattle.rme_script.specs.declared.job.Job.{Job}
use Rattle.rme_program.specs.declared.action.Action.{Action}
use Rattle.rme_program.specs.declared.action.Action.TheVariants.{Load}
use Rattle.rme_program.specs.declared.private.Private.{Private}
use Rattle.rme_program.specs.declared.stage.Stage.{Stage}
use Rattle.rme_program.specs.declared.stage.Stage.TheVariants.{Logging, Copying}
use Rattle.rme_program.specs.declared.stage.Redo.TheVariants.{LoadMask}
use Rattle.rme_program.specs.Masks.{mask_of}
use Rattle.rme_program.specs.Phases.{mask_cells_below}
use Rattle.rme_program.specs.declared.stage.Log.TheVariants.{LoadLen, LoadSlate}
use Rattle.rme_program.specs.Steps.{slate_stage, script_stage, private_action}
use Rattle.rme_program.specs.ActionEffects.{ActionEffect}
use Rattle.rme_machine.proofs.Scripts.{words_more}
use Rattle.rme_service_steps.specs.Layout.{position_of_address}
use Rattle.rme_service_steps.specs.Parts.{unchanged_part, draft_script}
use Rattle.rme_service_steps.specs.Rule.{table_memory}
use Rattle.rme_service_steps.specs.Steps.{PartWasInWorld}
use Rattle.rme_service_steps.specs.Chances.{ChanceCounts}
use Rattle.rme_service_steps.specs.SeatViews.{ServiceId, SeatView}
use Rattle.rme_service_steps.specs.CallSteps.{seat_call, PartIsAtStage, PartIsBeforeStage, CallProgress, CallFell, FellBeforeStep, OwnStepWasMade, LoadIsAllowed}
use Rattle.rme_service_steps.proofs.Chains.{nothing, did, then_on, falls_on, falls_at, may_load, takes_value}
use Rattle.rme_service_phases.specs.Sections.{SlateIsRead, LogSteps, visit_from_even_turn, has_unfinished_job}
use Rattle.rme_service_phases.proofs.Drafted.{IsDrafted, is_drafted, slate_of_long, drafted_script}

-- So many words were loaded, which are those of the draft; once they are all, they are a script of the shape.
pub record Reads (ident : ServiceId) (a : SeatView) (t : ChanceCounts) (lock turn operations : ℕ) (words : List ℕ) (now : SeatView) (u : ChanceCounts) (k : ℕ) : Type 0 where
  pub ours : now.ident ≡ ident
  pub doing : CallProgress (seat_call ident.shape unchanged_part a now t u) k a.part.private.begun (slate_stage ident.shape lock turn operations words k)
  pub good : k ≡ 3 * operations → SlateIsRead ident.shape operations words
  pub long : length words ≡ 24
  pub drafted : take k words ≡ take k (slate_of (draft_script a.part.draft).ops)

stage_before : (s : Shape) (lock turn operations : ℕ) (words : List ℕ) (k : ℕ) → k < 3 * operations → slate_stage s lock turn operations words k ≡ Logging (LoadSlate lock turn operations words k)
stage_before s lock turn operations words k below = rw (ne_eqb k (3 * operations) (λ e. omega (arith, e, below))) refl

no_words : (s : Shape) (operations : ℕ) (words : List ℕ) → operations ≡ 0 → SlateIsRead s operations words
no_words s operations words none =
    let P : ℕ → Type 0 = λ (n : ℕ). SlateIsRead s n words in
    let empty : P 0 = record { script = record { n = 0; ops = [] }; read = refl; good = record { few = omega arith; counted = refl; within = λ k d below. absurd (omega (arith, below)) } } in
    subst P (sym none) empty

module _ (ident : ServiceId) (a : SeatView) (t : ChanceCounts) (lock turn operations : ℕ) where
  pub read_begins : (words : List ℕ) → length words ≡ 24 → a.ident ≡ ident → PartIsBeforeStage ident.shape a.part (slate_stage ident.shape lock turn operations words 0) → Reads ident a t lock turn operations words a t 0
  read_begins words long ours at = record {
    ours = ours;
    doing = nothing ident.shape a t a.part.private.begun _ at;
    good = λ e. no_words ident.shape operations words (omega (arith, e));
    long = long;
    drafted = refl;
  }

  module _ (words : List ℕ) (now : SeatView) (u : ChanceCounts) (k : ℕ) (state : Reads ident a t lock turn operations words now u k) where
    at_word : k < 3 * operations → PartIsAtStage ident.shape now.part a.part.private.begun (Logging (LoadSlate lock turn operations words k))
    at_word below = subst (λ (st : Stage). PartIsAtStage ident.shape now.part a.part.private.begun st) (stage_before ident.shape lock turn operations words k below) state.doing.at

    pub read_may : (shape : Shape) (worker number : ℕ) → operations ≤ 8 → k < 3 * operations → shape ≡ ident.shape → worker ≡ a.part.worker → number ≡ position_of_address shape (SlateWord worker (k / 3) (k % 3))
        → LoadIsAllowed ident.shape unchanged_part now.part number
    read_may shape worker number few below same own its =
        let mine : worker ≡ now.part.worker = own ∙ sym state.doing.stays.own in
        let small : k < 24 = omega (arith, few, below) in
        may_load ident.shape now.part a.part.private.begun _ (at_word below) (SlateWord worker (k / 3) (k % 3)) number refl
        (ap (λ (w : ℕ). Load (SlateWord w (k / 3) (k % 3))) (sym mine))
        (subst (λ (w : ℕ). w < ident.shape.workers) (sym mine) state.doing.at.stood.worker, omega (arith, small), omega arith)
        (its ∙ ap (λ (x : Shape). position_of_address x (SlateWord worker (k / 3) (k % 3))) same)

    -- What a load finds is the draft's.
    module _ (few : operations ≤ 8) (is : operations ≡ (draft_script a.part.draft).n) (next : SeatView) (v : ChanceCounts) (value : ℕ) (below : k < 3 * operations)
        (made : OwnStepWasMade (seat_call ident.shape unchanged_part now next u v) value) where
      waits : has_unfinished_job now.part.private.stage ≡ true
      waits = ap (λ (q : Private). has_unfinished_job q.stage) (at_word below).private

      of_draft : IsDrafted ident.shape (table_memory ident.shape made.told.before.words) now.part.worker (draft_script a.part.draft)
      of_draft = subst (λ (p : Program). IsDrafted ident.shape (table_memory ident.shape made.told.before.words) now.part.worker p) (ap draft_script state.doing.stays.draft)
          (is_drafted ident.shape now.part made.told.before waits)

      value_drafted : value ≡ slice_index (slate_of (draft_script a.part.draft).ops) k
      value_drafted =
          let D : Action → Type 0 = λ (x : Action). ActionEffect (table_memory ident.shape made.told.before.words) (table_memory ident.shape made.told.words) x value in
          let load : D (Load (SlateWord now.part.worker (k / 3) (k % 3))) = subst D (ap (private_action ident.shape) (at_word below).private) made.told.did in
          load.0 ∙ of_draft.words k (omega (arith, is, below))

      words_drafted : take (k + 1) (slice_set words k value) ≡ take (k + 1) (slate_of (draft_script a.part.draft).ops)
      words_drafted =
          let counted = of_draft.shaped.counted in
          let all : length (slate_of (draft_script a.part.draft).ops) ≡ 24 = slate_of_long (draft_script a.part.draft).ops (omega (arith, counted, is, few)) in
          let k24 : k < 24 = omega (arith, few, below) in
          words_more words (slate_of (draft_script a.part.draft).ops) k value (omega (arith, k24, state.long)) (omega (arith, k24, all)) value_drafted state.drafted

    pub read_more : operations ≤ 8 → operations ≡ (draft_script a.part.draft).n → (next : SeatView) (v : ChanceCounts) (value : ℕ) (later : List ℕ) → k < 3 * operations → later ≡ slice_set words k value → OwnStepWasMade (seat_call ident.shape unchanged_part now next u v) value
        → Reads ident a t lock turn operations later next v (k + 1)
    read_more few counted next v value later below is made =
        let one = did ident.shape now next u v value made (at_word below) refl refl refl in
        let takes = takes_value ident.shape now.part value a.part.private.begun _ made.told (at_word below) (λ e. cc) in
        let good : k + 1 ≡ 3 * operations → SlateIsRead ident.shape operations (slice_set words k value) = λ e. record { script = (takes e).0; read = (takes e).1; good = (takes e).2 } in
        let P : List ℕ → Type 0 = λ (xs : List ℕ). Reads ident a t lock turn operations xs next v (k + 1) in
        subst P (sym is) record {
          ours = made.ident ∙ state.ours;
          doing = then_on ident.shape a now next t u v state.doing one;
          good = good;
          long = length-set words k value ∙ state.long;
          drafted = words_drafted few counted next v value below made;
        }

    pub read_fell : (next : SeatView) (v : ChanceCounts) → k < 3 * operations → FellBeforeStep (seat_call ident.shape unchanged_part now next u v) → CallFell (seat_call ident.shape unchanged_part a next t v) (3 * operations)
    read_fell next v below fell = falls_on ident.shape a now next t u v state.doing (falls_at ident.shape unchanged_part now next u v 1 fell (omega arith)) (omega (arith, below))

    pub read_words : k ≡ 3 * operations → take (3 * operations) words ≡ take (3 * operations) (slate_of (draft_script a.part.draft).ops)
    read_words e = subst (λ (n : ℕ). take n words ≡ take n (slate_of (draft_script a.part.draft).ops)) e state.drafted

    pub read_all : k ≡ 3 * operations → CallProgress (seat_call ident.shape unchanged_part a now t u) (3 * operations) a.part.private.begun (slate_stage ident.shape lock turn operations words (3 * operations))
    read_all e = subst (λ (n : ℕ). CallProgress (seat_call ident.shape unchanged_part a now t u) n a.part.private.begun (slate_stage ident.shape lock turn operations words n)) e state.doing

-- The length loaded.
module _ (s : Shape) (a : SeatView) (t : ChanceCounts) (b lock turn : ℕ) (at : PartIsAtStage s a.part b (Logging (LoadLen lock turn))) where
  pub len_may : (shape : Shape) (worker number : ℕ) → shape ≡ s → worker ≡ a.part.worker → number ≡ position_of_address shape (SlateLen worker) → LoadIsAllowed s unchanged_part a.part number
  len_may shape worker number same own its = may_load s a.part b _ at (SlateLen a.part.worker) number refl refl at.stood.worker
      (its ∙ ap (λ (x : Shape). position_of_address x (SlateLen worker)) same ∙ ap (λ (w : ℕ). position_of_address s (SlateLen w)) own)

  module _ (c : SeatView) (u : ChanceCounts) (value : ℕ) (made : OwnStepWasMade (seat_call s unchanged_part a c t u) value) where
    pub len_few : value ≤ 8
    len_few = takes_value s a.part value b _ made.told at (λ e. cc)

    pub len_loaded : CallProgress (seat_call s unchanged_part a c t u) 1 b (slate_stage s lock turn value (replicate 24 0) 0)
    len_loaded = did s a c t u value made at refl refl refl

    -- It is the draft's.
    pub len_drafted : value ≡ (draft_script c.part.draft).n
    len_drafted =
        let drafted = is_drafted s a.part made.told.before (ap (λ (q : Private). has_unfinished_job q.stage) at.private) in
        let D : Action → Type 0 = λ (x : Action). ActionEffect (table_memory s made.told.before.words) (table_memory s made.told.words) x value in
        let load : D (Load (SlateLen a.part.worker)) = subst D (ap (private_action s) at.private) made.told.did in
        load.0 ∙ drafted.counted ∙ ap (λ (o : Option Job). (draft_script o).n) (sym len_loaded.stays.draft)

-- All words are read: the script is known.
pub slate_known : (s : Shape) (lock turn n : ℕ) (words : List ℕ) (script : Program) → Some script ≡ script_from_words n words
    → slate_stage s lock turn n words (3 * n) ≡ script_stage s lock turn (Some script)
slate_known s lock turn n words script read = rw (eq-eqb (3 * n) (3 * n) refl) (ap (script_stage s lock turn) (sym read))

-- The script that was read is the one that the words are.
pub good_script : (s : Shape) (n : ℕ) (words : List ℕ) (script : Program) → SlateIsRead s n words → Some script ≡ script_from_words n words → IsScript s.cells script
good_script s n words script its read = subst (λ (p : Program). IsScript s.cells p) (same_Some its.script script (sym its.read ∙ sym read)) its.good

-- It has as many operations as was said.
pub script_count : (n : ℕ) (words : List ℕ) (p : Program) → Some p ≡ script_from_words n words → p.n ≡ n
script_count n words p read = elim (cases_Bool (nat_lt 8 n)) [
  | inl over ↦ (let e : Some p ≡ None = rw over at read in cc)
  | inr within ↦ (let e : Some p ≡ script_if_read n (ops_from_words n words) = rw within at read in of_ops (ops_from_words n words) e)
]
  where
    of_ops : (ops : Option (List Op)) → Some p ≡ script_if_read n ops → p.n ≡ n
    of_ops None e = cc
    of_ops (Some ops) e = ap (λ (q : Program). q.n) (same_Some p record { n = n; ops = ops } e)

pub logs : {s : Shape} {a c : SeatView} {t u : ChanceCounts} {lock turn : ℕ} (script : Program) → IsScript s.cells script
    → CallProgress (seat_call s unchanged_part a c t u) (4 + 3 * script.n + mask_cells_below (mask_of script.ops) s.cells * 2) a.part.private.begun (Copying (LoadMask (visit_from_even_turn lock turn script.n (mask_of script.ops))))
    → LogSteps (seat_call s unchanged_part a c t u) lock turn
logs script good doing = record { script = script; good = good; doing = doing }

-- The script that was read is the draft's.
pub script_drafted : (s : Shape) (a c : SeatView) (words : List ℕ) (n : ℕ) (script : Program) → PartWasInWorld s a.part → has_unfinished_job a.part.private.stage ≡ true → c.part.draft ≡ a.part.draft
    → n ≡ (draft_script c.part.draft).n → take (3 * n) words ≡ take (3 * n) (slate_of (draft_script c.part.draft).ops) → Some script ≡ script_from_words n words → script ≡ draft_script a.part.draft
script_drafted s a c words n script stood waits same counted front read =
    let drafts : draft_script c.part.draft ≡ draft_script a.part.draft = ap draft_script same in
    let drafted = is_drafted s a.part stood waits in
    let is : n ≡ (draft_script a.part.draft).n = counted ∙ ap (λ (p : Program). p.n) drafts in
    let all = front ∙ ap (λ (p : Program). take (3 * n) (slate_of p.ops)) drafts in
    let P : ℕ → Type 0 = λ (k : ℕ). take (3 * k) words ≡ take (3 * k) (slate_of (draft_script a.part.draft).ops) in
    let its = drafted_script s _ _ (draft_script a.part.draft) words drafted (subst P is all) in
    same_Some script (draft_script a.part.draft) (read ∙ ap (λ (k : ℕ). script_from_words k words) is ∙ its)

pub on_ok : {T E : Type 0} (result : Result T E) (P : Type 0) → P → OnOk result P
on_ok (Ok x) P it = it
on_ok (Err e) P it = tt

-- The actions of a whole walk are the row, and a stay ends with its row.
use Rattle.std.proofs.Common.{◌≡◌, ℕ, suc, ◌+◌, ◌-◌, ◌*◌, ◌%◌, ◌==◌, Bool, true, false, List, [], ◌∷◌, length, take, drop, refl, sym, ap, subst, ◌∙◌, inl, inr, arith}
use Rattle.std.specs.Prelude.{if◌then◌else◌}
use Rattle.std.proofs.lemmas.Bool.{cases_eq, cases_lt, eq-eqb, ne_eqb, lt-ltb, le-ltb}
use Rattle.rme_words.specs.declared.shape.Shape.{Shape}
use Rattle.rme_script.specs.declared.job.Job.{Job}
use Rattle.rme_script.proofs.Lists.{drop_at}
use Rattle.rme_program.specs.declared.action.Action.{Action}
use Rattle.rme_program.specs.declared.private.Private.{Private}
use Rattle.rme_program.specs.declared.stage.Stage.{Stage}
use Rattle.rme_program.specs.declared.stage.Stage.TheVariants.{Posting, Climbing, Logging, Copying, Leaving}
use Rattle.rme_program.specs.declared.note.Note.{Note}
use Rattle.rme_program.specs.Conditions.{IsPrivate}
use Rattle.rme_program.specs.Stays.{StayLoadFinds, Stay, InRecover, InPost, InEnter, InSection, InExit, InPartialExit, InWithdrawal, StayOutcome, Goes, Stays, Leads, StageIsInStay, IsStayOutcome, IsRowStepOutcome, stay_row, steps_made_in_row, row_step_outcome, clear_stay_outcome}
use Rattle.rme_program.specs.Steps.{private_action, private_after, note_after, begun_after}
use Rattle.rme_program.specs.Table.{section_row}
use Rattle.rme_program.specs.StepSequences.{action_unless_blocked, StayContinues, stay_actions, StayStepSequenceLaw, StayEndLaw}
use Rattle.rme_program.proofs.Rows.{post_length, enter_length, exit_length, clear_length, withdraw_length}
use Rattle.rme_program.proofs.Turns.{takes_row, follows_row}

-- ---- a stay has one row throughout

-- Only Post changes the known value of `begun`, by its last step.
posted : (known : ℕ) (last : Bool) (next : Stage) (note other : Note) → (let turned : StayOutcome × Note = if last then (Leads next, note) else (Goes, other) in turned.0 ≡ Goes) → (if last then known + 1 else known) ≡ known
posted known true next note other e = absurd (cc)
posted known false next note other e = refl

same_begun : (shape : Shape) (worker known value : ℕ) (stay : Stay) (stage : Stage) → StageIsInStay shape known stay stage → (row_step_outcome shape worker known stay (steps_made_in_row shape stay stage) value).0 ≡ Goes
    → stay_row shape worker (begun_after known stage value) stay ≡ stay_row shape worker known stay
same_begun shape worker known value (InRecover begun done lock) stage fits goes = refl
same_begun shape worker known value (InPost job) (Posting slate) fits goes =
    let here : (row_step_outcome shape worker known (InPost slate.job) slate.stored value).0 ≡ Goes = subst (λ (j : Job). (row_step_outcome shape worker known (InPost j) slate.stored value).0 ≡ Goes) (sym fits) goes in
    ap (λ (n : ℕ). stay_row shape worker n (InPost job)) (posted known (slate.stored == 2 + 3 * slate.job.script.n) _ _ _ here)
same_begun shape worker known value (InEnter lock from) (Climbing ascent) fits goes = refl
same_begun shape worker known value (InSection lock reading) (Logging log) fits goes = refl
same_begun shape worker known value (InSection lock reading) (Copying redo) fits goes = refl
same_begun shape worker known value (InExit lock turn) (Leaving departure) fits goes = refl
same_begun shape worker known value (InPartialExit lock levels) (Leaving departure) fits goes = refl
same_begun shape worker known value (InWithdrawal lock levels) (Leaving departure) fits goes = refl
same_begun shape worker known value _ _ fits goes = absurd fits

-- ---- walks

first_action : (shape : Shape) (stay : Stay) (private : Private) → IsPrivate shape private → StageIsInStay shape private.begun stay private.stage
    → drop (steps_made_in_row shape stay private.stage) (stay_row shape private.worker private.begun stay)
    ≡ private_action shape private ∷ drop (steps_made_in_row shape stay private.stage + 1) (stay_row shape private.worker private.begun stay)
first_action shape stay private is fits =
    drop_at (stay_row shape private.worker private.begun stay) (steps_made_in_row shape stay private.stage) (private_action shape private) (takes_row shape private is stay fits)

module _ (shape : Shape) (stay : Stay) (private : Private) (value : ℕ) (is : IsPrivate shape private) (fits : StageIsInStay shape private.begun stay private.stage)
    (finds : StayLoadFinds stay (private_action shape private) value) (next_is : IsPrivate shape (private_after shape private value)) where
  here : IsRowStepOutcome shape private stay value (private_after shape private value) (note_after shape private value)
  here = follows_row shape private value is next_is stay fits finds

  -- One step is its row's action.
  last_step : private_action shape private ∷ [] ≡ take 1 (drop (steps_made_in_row shape stay private.stage) (stay_row shape private.worker private.begun stay))
  last_step = sym (ap (λ (xs : List Action). take 1 xs) (first_action shape stay private is fits))

  -- After a step come the row's actions from the next place on, or from the same place if the step was blocked.
  more_steps : (values : List ℕ) (later : List Action) (onward : StayOutcome) → (row_step_outcome shape private.worker private.begun stay (steps_made_in_row shape stay private.stage) value).0 ≡ onward
      → StayContinues values onward → (values ≡ [] → later ≡ [])
      → (StageIsInStay shape (private_after shape private value).begun stay (private_after shape private value).stage
      → later ≡ take (length later) (drop (steps_made_in_row shape stay (private_after shape private value).stage) (stay_row shape (private_after shape private value).worker (private_after shape private value).begun stay)))
      → action_unless_blocked onward (private_action shape private) later
      ≡ take (length (action_unless_blocked onward (private_action shape private) later)) (drop (steps_made_in_row shape stay private.stage) (stay_row shape private.worker private.begun stay))
  more_steps [] later Goes at on none rest = rw (none refl) last_step
  more_steps [] later (Leads next) at on none rest = rw (none refl) last_step
  more_steps (after ∷ values) later (Leads next) at on none rest = elim on [
    | inl goes ↦ absurd (cc)
    | inr stays ↦ absurd (cc)
  ]
  more_steps (after ∷ values) later Goes at on none rest =
      let onto : IsStayOutcome shape stay private (private_after shape private value) Goes = subst (λ (onward : StayOutcome). IsStayOutcome shape stay private (private_after shape private value) onward) at here.onward in
      let place : drop (steps_made_in_row shape stay (private_after shape private value).stage) (stay_row shape (private_after shape private value).worker (private_after shape private value).begun stay)
      ≡ drop (steps_made_in_row shape stay private.stage + 1) (stay_row shape private.worker private.begun stay)
      = ap (λ (k : ℕ). drop k (stay_row shape (private_after shape private value).worker (private_after shape private value).begun stay)) onto.1
      ∙ ap (λ (row : List Action). drop (steps_made_in_row shape stay private.stage + 1) row) (same_begun shape private.worker private.begun value stay private.stage fits at) in
      ap (λ (xs : List Action). private_action shape private ∷ xs) (rest onto.0 ∙ ap (λ (xs : List Action). take (length later) xs) place)
      ∙ sym (ap (λ (xs : List Action). take (suc (length later)) xs) (first_action shape stay private is fits))
  more_steps values later Stays at on none rest =
      let same : private_after shape private value ≡ private = subst (λ (onward : StayOutcome). IsStayOutcome shape stay private (private_after shape private value) onward) at here.onward in
      let F : Private → Type 0 = λ (p : Private). StageIsInStay shape p.begun stay p.stage in
      let P : Private → Type 0 = λ (p : Private). later ≡ take (length later) (drop (steps_made_in_row shape stay p.stage) (stay_row shape p.worker p.begun stay)) in
      subst P same (rest (subst F (sym same) fits))

pub walk_law : StayStepSequenceLaw
walk_law shape stay private [] is fits walks = refl
walk_law shape stay private (value ∷ values) is fits walks =
    more_steps shape stay private value is fits walks.0 walks.1 values (stay_actions shape stay (private_after shape private value) values) _ refl walks.2 (none values)
    (λ next. walk_law shape stay (private_after shape private value) values walks.1 next walks.3)
  where
    none : (values : List ℕ) → values ≡ [] → stay_actions shape stay (private_after shape private value) values ≡ []
    none [] e = refl
    none (after ∷ values) e = absurd (cc)

-- ---- ends

clear_end : (level : ℕ) (next : Stage) → clear_stay_outcome level ≡ Leads next → level ≡ 1
clear_end level next e = elim (cases_eq level 1) [
  | inl q ↦ q
  | inr n ↦ let on : Goes ≡ Leads next = rw (ne_eqb level 1 n) at e in absurd (cc)
]

pub end_law : StayEndLaw
end_law shape worker known (InRecover begun done lock) place value next whole l e = absurd whole
end_law shape worker known (InPost job) place value next whole l e = elim (cases_eq place (2 + 3 * job.script.n)) [
  | inl q ↦ omega (arith, q, post_length worker known job)
  | inr n ↦ let on : Goes ≡ Leads next = rw (ne_eqb place (2 + 3 * job.script.n) n) at e in absurd (cc)
]
end_law shape worker known (InEnter lock from) place value next whole l e = elim (cases_eq value 0) [
  | inl q ↦ elim (cases_eq (from + place + 1) shape.height) [
    | inl top ↦ omega (arith, top, enter_length shape worker lock from)
    | inr n ↦ let on : Goes ≡ Leads next = rw (eq-eqb value 0 q, ne_eqb (from + place + 1) shape.height n) at e in absurd (cc)
  ]
  | inr n ↦ let stuck : Stays ≡ Leads next = rw (ne_eqb value 0 n) at e in absurd (cc)
]
end_law shape worker known (InSection lock reading) place value next whole l e =
    elim (cases_eq (place + 1) (length (section_row shape worker known lock reading))) [
      | inl q ↦ q
      | inr n ↦ let on : Goes ≡ Leads next = rw (ne_eqb (place + 1) (length (section_row shape worker known lock reading)) n) at e in absurd (cc)
    ]
end_law shape worker known (InExit lock turn) place value next whole l e = elim (cases_lt place (1 + turn % 2)) [
  | inl early ↦ let on : Goes ≡ Leads next = rw (lt-ltb place (1 + turn % 2) early) at e in absurd (cc)
  | inr late ↦
      let clears : clear_stay_outcome (shape.height - (place - (1 + turn % 2))) ≡ Leads next = rw (le-ltb place (1 + turn % 2) late) at e in
      omega (arith, clear_end (shape.height - (place - (1 + turn % 2))) next clears, late, exit_length shape worker lock turn)
]
end_law shape worker known (InPartialExit lock levels) place value next whole l e = omega (arith, clear_end (levels - place) next e, clear_length shape worker lock levels)
end_law shape worker known (InWithdrawal lock levels) place value next whole l e = elim (cases_lt place 3) [
  | inl early ↦ let on : Goes ≡ Leads next = rw (lt-ltb place 3 early) at e in absurd (cc)
  | inr late ↦ elim (cases_eq place 3) [
    | inl q ↦ elim (cases_eq levels 0) [
      | inl none ↦ omega (arith, q, none, withdraw_length shape worker known lock levels)
      | inr some ↦ let on : Goes ≡ Leads next = rw (le-ltb place 3 late, eq-eqb place 3 q, ne_eqb levels 0 some) at e in absurd (cc)
    ]
    | inr n ↦
        let clears : clear_stay_outcome (levels - (place - 4)) ≡ Leads next = rw (le-ltb place 3 late, ne_eqb place 3 n) at e in
        omega (arith, clear_end (levels - (place - 4)) next clears, late, n, withdraw_length shape worker known lock levels)
  ]
]

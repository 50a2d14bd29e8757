-- Own steps one after another: what each may be, what it has done, and what several have done.
use Rattle.std.proofs.Common.{◌≡◌, ◌≢◌, ℕ, ◌+◌, ◌<◌, ◌≤◌, List, [], ◌∷◌, ◌++◌, length, refl, sym, ◌∙◌, ap, subst, arith}
use Rattle.std.specs.Prelude.{true, Option, Some, None}
use Rattle.std.proofs.lemmas.List.{length-append}
use Rattle.rme_words.specs.declared.shape.Shape.{Shape}
use Rattle.rme_words.specs.declared.address.Address.{Address}
use Rattle.rme_words.specs.Words.{IsShapeAddress}
use Rattle.rme_program.specs.declared.action.Action.{Action}
use Rattle.rme_program.specs.declared.action.Action.TheVariants.{Load, Store, Swap}
use Rattle.rme_program.specs.declared.note.Note.{Note}
use Rattle.rme_program.specs.declared.private.Private.{Private}
use Rattle.rme_program.specs.declared.stage.Stage.{Stage}
use Rattle.rme_program.specs.declared.stage.Stage.TheVariants.{Resting}
use Rattle.rme_program.specs.Conditions.{IsPrivate, IsStage, IsValidLoad}
use Rattle.rme_program.specs.ActionEffects.{action_address}
use Rattle.rme_program.specs.Steps.{private_action, stage_action, outcome_at, begun_after, private_after}
use Rattle.rme_service_steps.specs.declared.seat_record.Part.{Part}
use Rattle.rme_service_steps.specs.Layout.{position_of_address}
use Rattle.rme_service_steps.specs.Parts.{part_after_step, part_after_steps, part_after_change, unchanged_part}
use Rattle.rme_service_steps.specs.Steps.{PartWasInWorld, PartMadeStep}
use Rattle.rme_service_steps.specs.Chances.{ChanceCounts, ChanceWasAsked, QuestionsAreCounted}
use Rattle.rme_service_steps.specs.SeatViews.{SeatView}
use Rattle.rme_service_steps.specs.CallSteps.{seat_call, ValuesWereFound, StepsWereMade, SeatStepSequence, JobIsUnchanged, PartIsAtStage, CallProgress, CallFell, stage_adds_no_entry, PlainStepIsAllowed, LoadIsAllowed, StoreIsAllowed, SwapIsAllowed, OwnStepWasMade, FellBeforeStep}
use Rattle.rme_machine.proofs.Further.{fitting}
use Rattle.rme_machine.proofs.Taking.{taking}
use Rattle.rme_service_steps.specs.Rule.{table_memory, privates_of_parts}
use Rattle.rme_service_steps.proofs.Seats.{plain_entries, kept_section, stood_after}
use Rattle.rme_service_steps.proofs.Leading.{leads_onward}

-- ---- questions

counted_on : (a b c : Option ℕ) (m n : ℕ) → QuestionsAreCounted a b m → QuestionsAreCounted b c n → QuestionsAreCounted a c (m + n)
counted_on a b None m n first then_ = tt
counted_on a None (Some z) m n first then_ = absurd then_
counted_on None (Some y) (Some z) m n first then_ = absurd first
counted_on (Some x) (Some y) (Some z) m n first then_ = omega (arith, first, then_)

pub asked_on : (t u v : ChanceCounts) (m n k j : ℕ) → ChanceWasAsked t u m k → ChanceWasAsked u v n j → ChanceWasAsked t v (m + n) (k + j)
asked_on t u v m n k j first then_ = record { yes = omega (arith, first.yes, then_.yes); asked = counted_on t.questions u.questions v.questions m n first.asked then_.asked }

-- ---- walks

walked_on : (s : Shape) (p : Part) (vs ws : List ℕ) → part_after_steps s p (vs ++ ws) ≡ part_after_steps s (part_after_steps s p vs) ws
walked_on s p [] ws = refl
walked_on s p (v ∷ vs) ws = walked_on s (part_after_step s p v) vs ws

led_onward : (s : Shape) (p : Part) (vs : List ℕ) → part_after_change s unchanged_part p vs ≡ part_after_steps s p vs
led_onward s p [] = refl
led_onward s p (v ∷ vs) = refl

led_on : (s : Shape) (lead : Part → Part) (p : Part) (vs ws : List ℕ) → 0 < length vs → part_after_change s lead p (vs ++ ws) ≡ part_after_steps s (part_after_change s lead p vs) ws
led_on s lead p [] ws some_step = absurd (omega (arith, some_step))
led_on s lead p (v ∷ vs) ws some_step = walked_on s (part_after_step s (lead p) v) vs ws

all_on : (s : Shape) (p : Part) (vs ws : List ℕ) → StepsWereMade s p vs → StepsWereMade s (part_after_steps s p vs) ws → StepsWereMade s p (vs ++ ws)
all_on s p [] ws one two = two
all_on s p (v ∷ vs) ws one two = (one.0, all_on s (part_after_step s p v) vs ws one.1 two)

all_onward : (s : Shape) (p : Part) (vs : List ℕ) → ValuesWereFound s unchanged_part p vs → StepsWereMade s p vs
all_onward s p [] found = tt
all_onward s p (v ∷ vs) found = found

found_onward : (s : Shape) (p : Part) (vs : List ℕ) → StepsWereMade s p vs → ValuesWereFound s unchanged_part p vs
found_onward s p [] all = tt
found_onward s p (v ∷ vs) all = all

found_led : (s : Shape) (lead : Part → Part) (p : Part) (vs ws : List ℕ) → 0 < length vs → ValuesWereFound s lead p vs → StepsWereMade s (part_after_change s lead p vs) ws → ValuesWereFound s lead p (vs ++ ws)
found_led s lead p [] ws some_step one two = absurd (omega (arith, some_step))
found_led s lead p (v ∷ vs) ws some_step one two = (one.0, all_on s (part_after_step s (lead p) v) vs ws one.1 two)

module _ (s : Shape) (a b c : SeatView) (t u v : ChanceCounts) (falls : ℕ) where
  -- What the second walk found, from where the first has led.
  then_found : (lead : Part → Part) (one : SeatStepSequence (seat_call s lead a b t u) 0) (two : SeatStepSequence (seat_call s unchanged_part b c u v) falls) → StepsWereMade s (part_after_change s lead a.part one.values) two.values
  then_found lead one two = subst (λ (p : Part). StepsWereMade s p two.values) one.walk (all_onward s b.part two.values two.found)

  join_walks : (lead : Part → Part) (one : SeatStepSequence (seat_call s lead a b t u) 0) (two : SeatStepSequence (seat_call s unchanged_part b c u v) falls)
      → part_after_change s lead a.part (one.values ++ two.values) ≡ part_after_steps s (part_after_change s lead a.part one.values) two.values → ValuesWereFound s lead a.part (one.values ++ two.values)
      → SeatStepSequence (seat_call s lead a c t v) falls
  join_walks lead one two joined found = record {
    values = one.values ++ two.values;
    walk = two.walk ∙ led_onward s b.part two.values ∙ ap (λ (p : Part). part_after_steps s p two.values) one.walk ∙ sym joined;
    found = found;
    steps = let l = length-append one.values two.values in omega (arith, l, one.steps, two.steps);
    asks = let l = length-append one.values two.values in
        let asks = asked_on t u v _ _ 0 falls one.asks two.asks in
        record { yes = omega (arith, asks.yes); asked = subst (λ (n : ℕ). QuestionsAreCounted t.questions v.questions n) (omega (arith, l)) asks.asked };
  }

  pub walks_then : SeatStepSequence (seat_call s unchanged_part a b t u) 0 → SeatStepSequence (seat_call s unchanged_part b c u v) falls → SeatStepSequence (seat_call s unchanged_part a c t v) falls
  walks_then one two = join_walks unchanged_part one two
      (led_onward s a.part (one.values ++ two.values) ∙ walked_on s a.part one.values two.values ∙ ap (λ (p : Part). part_after_steps s p two.values) (sym (led_onward s a.part one.values)))
      (found_onward s a.part (one.values ++ two.values)
      (all_on s a.part one.values two.values (all_onward s a.part one.values one.found)
      (subst (λ (p : Part). StepsWereMade s p two.values) (led_onward s a.part one.values) (then_found unchanged_part one two))))

  pub led_then : (lead : Part → Part) (one : SeatStepSequence (seat_call s lead a b t u) 0) → SeatStepSequence (seat_call s unchanged_part b c u v) falls → 0 < length one.values → SeatStepSequence (seat_call s lead a c t v) falls
  led_then lead one two some_step = join_walks lead one two (led_on s lead a.part one.values two.values some_step)
      (found_led s lead a.part one.values two.values some_step one.found (then_found lead one two))

-- ---- what several steps have done

module _ (s : Shape) (a b c : SeatView) (t u v : ChanceCounts) where
  stays_on : (lead : Part → Part) → JobIsUnchanged (seat_call s lead a b t u) → JobIsUnchanged (seat_call s unchanged_part b c u v) → JobIsUnchanged (seat_call s lead a c t v)
  stays_on lead one two = record { ident = two.ident ∙ one.ident; own = two.own ∙ one.own; draft = two.draft ∙ one.draft; entries = two.entries ∙ one.entries; section = two.section ∙ one.section }

  some_values : (lead : Part → Part) (m b1 : ℕ) (st : Stage) (one : CallProgress (seat_call s lead a b t u) m b1 st) → 1 ≤ m → 0 < length one.walks.values
  some_values lead m b1 st one some_step = let w = one.walks in omega (arith, w.steps, one.counted, some_step)

  pub then_on : {m n b1 b2 : ℕ} {st1 st2 : Stage} → CallProgress (seat_call s unchanged_part a b t u) m b1 st1 → CallProgress (seat_call s unchanged_part b c u v) n b2 st2 → CallProgress (seat_call s unchanged_part a c t v) (m + n) b2 st2
  then_on one two = record {
    walks = walks_then s a b c t u v 0 one.walks two.walks;
    counted = omega (arith, one.counted, two.counted);
    stays = stays_on unchanged_part one.stays two.stays;
    at = two.at;
  }

  pub then_led : {lead : Part → Part} {m n b1 b2 : ℕ} {st1 st2 : Stage} → 1 ≤ m → CallProgress (seat_call s lead a b t u) m b1 st1 → CallProgress (seat_call s unchanged_part b c u v) n b2 st2 → CallProgress (seat_call s lead a c t v) (m + n) b2 st2
  then_led {lead} some_step one two = record {
    walks = led_then s a b c t u v 0 lead one.walks two.walks (some_values lead _ _ _ one some_step);
    counted = omega (arith, one.counted, two.counted);
    stays = stays_on lead one.stays two.stays;
    at = two.at;
  }

  pub falls_on : {m n most b1 : ℕ} {st1 : Stage} → CallProgress (seat_call s unchanged_part a b t u) m b1 st1 → CallFell (seat_call s unchanged_part b c u v) n → m + n ≤ most → CallFell (seat_call s unchanged_part a c t v) most
  falls_on one two few = record {
    walks = walks_then s a b c t u v 1 one.walks two.walks;
    fewer = omega (arith, one.counted, two.fewer, few);
    ident = two.ident ∙ one.stays.ident;
    own = two.own ∙ one.stays.own;
    entries = two.entries ∙ one.stays.entries;
    section = two.section ∙ one.stays.section;
  }

  pub falls_led : {lead : Part → Part} {m n most b1 : ℕ} {st1 : Stage} → 1 ≤ m → CallProgress (seat_call s lead a b t u) m b1 st1 → CallFell (seat_call s unchanged_part b c u v) n → m + n ≤ most → CallFell (seat_call s lead a c t v) most
  falls_led {lead} some_step one two few = record {
    walks = led_then s a b c t u v 1 lead one.walks two.walks (some_values lead _ _ _ one some_step);
    fewer = omega (arith, one.counted, two.fewer, few);
    ident = two.ident ∙ one.stays.ident;
    own = two.own ∙ one.stays.own;
    entries = two.entries ∙ one.stays.entries;
    section = two.section ∙ one.stays.section;
  }

-- Nothing was done yet.
counted_none : (a : Option ℕ) → QuestionsAreCounted a a 0
counted_none None = tt
counted_none (Some x) = omega arith

pub nothing : (s : Shape) (a : SeatView) (t : ChanceCounts) (b : ℕ) (st : Stage) → PartIsAtStage s a.part b st → CallProgress (seat_call s unchanged_part a a t t) 0 b st
nothing s a t b st at = record {
  walks = record { values = []; walk = refl; found = tt; steps = omega arith; asks = record { yes = omega arith; asked = counted_none t.questions } };
  counted = omega arith;
  stays = record { ident = refl; own = refl; draft = refl; entries = refl; section = refl };
  at = at;
}

-- A fall before the first step.
pub falls_at : (s : Shape) (lead : Part → Part) (a b : SeatView) (t u : ChanceCounts) (most : ℕ) → FellBeforeStep (seat_call s lead a b t u) → 1 ≤ most → CallFell (seat_call s lead a b t u) most
falls_at s lead a b t u most fell some_step = record {
  walks = record { values = []; walk = ap (λ (x : SeatView). x.part) fell.same; found = tt; steps = ap (λ (x : SeatView). x.part.steps) fell.same ∙ omega arith; asks = fell.asks };
  fewer = let e : b.part.steps ≡ a.part.steps = ap (λ (x : SeatView). x.part.steps) fell.same in omega (arith, e, some_step);
  ident = ap (λ (x : SeatView). x.ident) fell.same;
  own = ap (λ (x : SeatView). x.part.worker) fell.same;
  entries = ap (λ (x : SeatView). x.part.entries) fell.same;
  section = ap (λ (x : SeatView). x.part.section) fell.same;
}

-- ---- one step

module _ (s : Shape) (p : Part) (b : ℕ) (st : Stage) (at : PartIsAtStage s p b st) where
  may_next : (action : Action) (spot : ℕ) → stage_adds_no_entry st ≡ true → stage_action s p.worker b st ≡ action → IsShapeAddress s (action_address action) → spot ≡ position_of_address s (action_address action)
      → PlainStepIsAllowed s unchanged_part p action spot
  may_next action spot plain is within its = record {
    may = record {
      leads = leads_onward s p (λ e. busy st plain (ap (λ (q : Private). q.stage) (sym at.private) ∙ e));
      entries = refl;
      count = refl;
      section = refl;
      here = ap (private_action s) at.private ∙ is;
      within = within;
      lies = its;
    };
    plain = ap (λ (q : Private). stage_adds_no_entry q.stage) at.private ∙ plain;
    draft = refl;
  }
    where
      busy : (x : Stage) → stage_adds_no_entry x ≡ true → x ≢ Resting
      busy x is_plain_x e = let no : stage_adds_no_entry Resting ≡ true = ap stage_adds_no_entry (sym e) ∙ is_plain_x in cc

  pub may_load : (address : Address) (spot : ℕ) → stage_adds_no_entry st ≡ true → stage_action s p.worker b st ≡ Load address → IsShapeAddress s address → spot ≡ position_of_address s address → LoadIsAllowed s unchanged_part p spot
  may_load address spot plain is within its = (address, may_next (Load address) spot plain is within its)

  pub may_store : (address : Address) (spot value : ℕ) → stage_adds_no_entry st ≡ true → stage_action s p.worker b st ≡ Store address value → IsShapeAddress s address → spot ≡ position_of_address s address
      → StoreIsAllowed s unchanged_part p spot value
  may_store address spot value plain is within its = (address, may_next (Store address value) spot plain is within its)

  pub may_swap : (address : Address) (spot from to : ℕ) → stage_adds_no_entry st ≡ true → stage_action s p.worker b st ≡ Swap address from to → IsShapeAddress s address → spot ≡ position_of_address s address
      → SwapIsAllowed s unchanged_part p spot from to
  may_swap address spot from to plain is within its = (address, may_next (Swap address from to) spot plain is within its)

-- The step that was made, from this stage by a lead, led here.
module _ (s : Shape) (lead : Part → Part) (a c : SeatView) (t v : ChanceCounts) (value b : ℕ) (st : Stage) (made : OwnStepWasMade (seat_call s lead a c t v) value)
    (private : (lead a.part).private ≡ record { worker = a.part.worker; begun = b; stage = st }) where
  pub did_led : {b2 : ℕ} {out : Stage} {note : Note} → stage_adds_no_entry st ≡ true → (lead a.part).worker ≡ a.part.worker → (lead a.part).entries ≡ a.part.entries → (lead a.part).steps ≡ a.part.steps
      → (lead a.part).section ≡ a.part.section → outcome_at s a.part.worker b st value ≡ (out, note) → begun_after b st value ≡ b2 → CallProgress (seat_call s lead a c t v) 1 b2 out
  did_led {b2} {out} {note} plain own entries steps section leads known = record {
    walks = record {
      values = value ∷ [];
      walk = made.took;
      found = (made.told, tt);
      steps = ap (λ (p : Part). p.steps) made.took ∙ ap (λ (n : ℕ). n + 1) steps;
      asks = made.asks;
    };
    counted = ap (λ (p : Part). p.steps) made.took ∙ ap (λ (n : ℕ). n + 1) steps;
    stays = record {
      ident = made.ident;
      own = ap (λ (p : Part). p.worker) made.took ∙ own;
      draft = ap (λ (p : Part). p.draft) made.took;
      entries = ap (λ (p : Part). p.entries) made.took ∙ plain_entries s (lead a.part) value (ap (λ (q : Private). stage_adds_no_entry q.stage) private ∙ plain) ∙ entries;
      section = ap (λ (p : Part). p.section) made.took ∙ kept_section s (lead a.part) value (ap (λ (q : Private). stage_adds_no_entry q.stage) private ∙ plain) ∙ section;
    };
    at = record {
      private = ap (λ (p : Part). p.private) made.took ∙ ap (λ (q : Private). private_after s q value) private ∙ now ∙ mine;
      stood = subst (λ (p : Part). PartWasInWorld s p) (sym made.took) (stood_after s (lead a.part) value made.told);
    };
  }
    where
      now : ◌≡◌ {A = Private} (private_after s record { worker = a.part.worker; begun = b; stage = st } value) record { worker = a.part.worker; begun = b2; stage = out }
      now = λ k. record { worker = a.part.worker; begun = known k; stage = (leads k).0 }

      mine : ◌≡◌ {A = Private} record { worker = a.part.worker; begun = b2; stage = out } record { worker = c.part.worker; begun = b2; stage = out }
      mine = ap {B = Private} (λ (w : ℕ). record { worker = w; begun = b2; stage = out }) (sym (ap (λ (p : Part). p.worker) made.took ∙ own))

  pub note_led : {out : Stage} {note : Note} → outcome_at s a.part.worker b st value ≡ (out, note) → c.part.note ≡ note
  note_led leads = ap (λ (p : Part). p.note) made.took ∙ ap (λ (q : Private). (outcome_at s q.worker q.begun q.stage value).1) private ∙ ap (λ (o : Stage × Note). o.1) leads

pub did : (s : Shape) (a c : SeatView) (t v : ChanceCounts) (value : ℕ) {b b2 : ℕ} {st out : Stage} {note : Note} → OwnStepWasMade (seat_call s unchanged_part a c t v) value → PartIsAtStage s a.part b st → stage_adds_no_entry st ≡ true
    → outcome_at s a.part.worker b st value ≡ (out, note) → begun_after b st value ≡ b2 → CallProgress (seat_call s unchanged_part a c t v) 1 b2 out
did s a c t v value {b} {b2} {st} made at plain leads known = did_led s unchanged_part a c t v value b st made at.private plain refl refl refl refl leads known

-- ---- what a worker at a stage knows

-- A part that was in a world is of the shape, and its step may accept what it finds.
pub is_private : (s : Shape) (p : Part) → PartWasInWorld s p → (p.private.worker ≡ p.worker) × IsPrivate s p.private
is_private s p stood = fitting s (table_memory s stood.words) (privates_of_parts stood.parts) stood.history p.worker p.private stood.world.fact stood.worker (ap (λ (q : Part). Some q.private) stood.here)

pub is_stage : (s : Shape) (p : Part) (b : ℕ) (st : Stage) → PartIsAtStage s p b st → IsStage s b st
is_stage s p b st at =
    let P : Private → Type 0 = λ (q : Private). IsPrivate s q in
    let shaped : P record { worker = p.worker; begun = b; stage = st } = subst P at.private (is_private s p at.stood).1 in shaped.stage

pub few_begun : (s : Shape) (p : Part) (b : ℕ) (st : Stage) → PartIsAtStage s p b st → b ≤ s.jobs
few_begun s p b st at =
    let P : Private → Type 0 = λ (q : Private). IsPrivate s q in
    let shaped : P record { worker = p.worker; begun = b; stage = st } = subst P at.private (is_private s p at.stood).1 in shaped.begun

pub takes_value : (s : Shape) (p : Part) (value b : ℕ) (st : Stage) → PartMadeStep s p value → PartIsAtStage s p b st → st ≢ Resting → IsValidLoad s st value
takes_value s p value b st stepped at busy =
    let before = stepped.before in
    let stage : p.private.stage ≡ st = ap (λ (q : Private). q.stage) at.private in
    subst (λ (x : Stage). IsValidLoad s x value) stage
    (taking s (table_memory s before.words) (table_memory s stepped.words) (privates_of_parts before.parts) before.history p.worker p.private value before.world.fact before.worker
    (ap (λ (q : Part). Some q.private) before.here) (λ e. busy (sym stage ∙ e)) stepped.did)

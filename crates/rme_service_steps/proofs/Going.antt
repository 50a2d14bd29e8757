-- The rule of the table: an own step of a seat with one part preserves it, and its caller learns the world in which it
-- was made.
use Rattle.std.proofs.Common.{◌≡◌, ◌≢◌, ℕ, zero, suc, ◌+◌, ◌/◌, ◌<◌, List, [], ◌∷◌, set, refl, sym, ◌∙◌, ap, subst, inl, inr, arith}
use Rattle.std.specs.Prelude.{◌==◌, if◌then◌else◌, slice_index, slice_set}
use Rattle.std.proofs.lemmas.Bool.{cases_eq, eq-eqb, ne_eqb}
use mathlib.Core.Option.{some, some-injective, some-ne-none}
use lib.ListN.{get_elem?}
use Rattle.atomic_table.specs.Table.{State, Step, keeps, Allows}
use Rattle.atomic_table.proofs.Lists.{at_set, set_else, set_again}
use Rattle.rme_words.specs.declared.shape.Shape.{Shape}
use Rattle.rme_words.specs.declared.address.Address.{Address}
use Rattle.rme_words.specs.declared.address.Address.TheVariants.{Turn}
use Rattle.rme_words.specs.Words.{IsShapeAddress}
use Rattle.rme_program.specs.declared.stage.Stage.TheVariants.{Logging}
use Rattle.rme_program.specs.declared.stage.Log.TheVariants.{LoadTurn}
use Rattle.rme_program.specs.declared.note.Entry.{Entry}
use Rattle.rme_program.specs.ActionEffects.{action_address}
use Rattle.rme_program.specs.Steps.{private_action, note_after}
use Rattle.rme_machine.specs.Changes.{history_after}
use Rattle.rme_service_steps.specs.declared.seat_record.Part.{Part}
use Rattle.rme_service_steps.specs.declared.seat_record.SeatRecord.{SeatRecord}
use Rattle.rme_service_steps.specs.Parts.{part_after_step, part_with_section}
use Rattle.rme_service_steps.specs.Layout.{position_of_address}
use Rattle.rme_service_steps.specs.Rule.{ServiceInvariant, RecordsInvariant, RecordAgrees, TableInvariant, table_memory, parts_with_update, total_of, part_count_of_worker, part_is_of_worker, one_part_record}
use Rattle.rme_service_steps.specs.Steps.{ChangeIsAllowed, PartWasInWorld, PartMadeStep, PartReadsWord, ReaderLoadEffect, SectionLoadEffect, OwnStepEffect, position_of_action, word_after_action, value_of_action, value_found_in, words_after}
use Rattle.rme_service_steps.proofs.Tables.{set_same, found_read}
use Rattle.rme_service_steps.proofs.Totals.{total_set, total_at}
use Rattle.rme_service_steps.proofs.Worlds.{there, elsewhere}
use Rattle.rme_service_steps.proofs.Reading.{read_world, turn_few}
use Rattle.rme_service_steps.proofs.Keeping.{keeps as step_keeps}

-- If a seat has the one part of a worker, no other seat has a part of it.
alone : (views : List SeatRecord) (id other : ℕ) (mine its : SeatRecord) (w k : ℕ) (q : Part) → total_of (part_count_of_worker w) views ≡ 1 → get_elem? views id ≡ some mine → part_count_of_worker w mine ≡ 1
    → other ≢ id → get_elem? views other ≡ some its → get_elem? its.parts k ≡ some q → q.worker ≢ w
alone views id other mine its w k q once at one apart there has e =
    let none : SeatRecord = record { shape = mine.shape; parts = [] } in
    let emptied = total_set (part_count_of_worker w) views id mine none at in
    let still : get_elem? (set views id none) other ≡ some its = set_else views id other none apart ∙ there in
    let some_part = total_at (part_count_of_worker w) (set views id none) other its still in
    let own : part_is_of_worker w q ≡ 1 = rw (eq-eqb q.worker w e) refl in
    let some_one = total_at (part_is_of_worker w) its.parts k q has in
    absurd (omega (arith, emptied, some_part, own, some_one, once, one))

-- A seat's record after the part of another changed.
agrees_still : (s : Shape) (parts : ℕ → Part) (its : SeatRecord) (w : ℕ) (q : Part) → RecordAgrees s parts its → ((k : ℕ) (r : Part) → get_elem? its.parts k ≡ some r → r.worker ≢ w)
    → RecordAgrees s (parts_with_update parts w q) its
agrees_still s parts its w q agrees others = record {
  shaped = agrees.shaped;
  own = λ k r at. let old = agrees.own k r at in (old.0, elsewhere parts w r.worker q (others k r at) ∙ old.1);
}

agrees_solo : (s : Shape) (parts : ℕ → Part) (w : ℕ) (q : Part) → q.worker ≡ w → w < s.workers → RecordAgrees s (parts_with_update parts w q) (one_part_record s q)
agrees_solo s parts w q is worker = record { shaped = λ some_part. refl; own = own }
  where
    own : (k : ℕ) (r : Part) → get_elem? (q ∷ []) k ≡ some r → (r.worker < s.workers) × (parts_with_update parts w q r.worker ≡ r)
    own zero r at =
        let P : Part → Type 0 = λ (x : Part). (x.worker < s.workers) × (parts_with_update parts w q x.worker ≡ x) in
        let here : P q = (subst (λ (v : ℕ). v < s.workers) (sym is) worker, ap (parts_with_update parts w q) is ∙ there parts w q) in
        subst P (some-injective q r at) here
    own (suc k) r at = absurd (some-ne-none r (sym at))

one_solo : (s : Shape) (p : Part) (w : ℕ) → p.worker ≡ w → part_count_of_worker w (one_part_record s p) ≡ 1
one_solo s p w is = rw (eq-eqb p.worker w is) refl

pub record Mine (s : Shape) (parts : ℕ → Part) (p : Part) : Type 0 where
  pub worker : p.worker < s.workers
  pub here : parts p.worker ≡ p

pub mine : (s : Shape) (table : State ℕ SeatRecord) (id : ℕ) (p : Part) (shown : RecordsInvariant s table.words table.views) → get_elem? table.views id ≡ some (one_part_record s p) → Mine s shown.parts p
mine s table id p shown at = let own = (shown.agrees id (one_part_record s p) at).own 0 p refl in record { worker = own.0; here = own.1 }

-- A part replaced twice.
updated_again : (parts : ℕ → Part) (w v : ℕ) (p q : Part) → v ≡ w → parts_with_update (parts_with_update parts w p) v q ≡ parts_with_update parts w q
updated_again parts w v p q e = λ k u. at u k
  where
    at : (u : ℕ) → parts_with_update (parts_with_update parts w p) v q u ≡ parts_with_update parts w q u
    at u = elim (cases_eq u w) [
      | inl same ↦ rw (eq-eqb u v (same ∙ sym e), eq-eqb u w same) refl
      | inr apart ↦ rw (ne_eqb u v (λ h. apart (h ∙ e)), ne_eqb u w apart) refl
    ]

-- The rule is kept where the one part of a seat is replaced by another of the same worker, in a world.
pub replaced : (s : Shape) (table : State ℕ SeatRecord) (id : ℕ) (p q : Part) (words : List ℕ) (es : List Entry) (shown : RecordsInvariant s table.words table.views)
    → get_elem? table.views id ≡ some (one_part_record s p) → q.worker ≡ p.worker → ServiceInvariant s words (parts_with_update shown.parts p.worker q) es → RecordsInvariant s words (slice_set table.views id (one_part_record s q))
replaced s table id p q words es shown at own world = record {
  parts = parts_with_update shown.parts p.worker q;
  history = es;
  once = once;
  agrees = agrees;
  world = world;
}
  where
    once : (w : ℕ) → w < s.workers → total_of (part_count_of_worker w) (slice_set table.views id (one_part_record s q)) ≡ 1
    once w worker =
        let set_one = total_set (part_count_of_worker w) table.views id (one_part_record s p) (one_part_record s q) at in
        let alike : part_count_of_worker w (one_part_record s q) ≡ part_count_of_worker w (one_part_record s p) = ap (λ (v : ℕ). (if v == w then 1 else 0) + 0) own in
        let total_one = shown.once w worker in
        omega (arith, set_one, alike, total_one)

    agrees : (seat : ℕ) (its : SeatRecord) → get_elem? (slice_set table.views id (one_part_record s q)) seat ≡ some its → RecordAgrees s (parts_with_update shown.parts p.worker q) its
    agrees seat its there = elim (at_set table.views id seat (one_part_record s q) its there) [
      | inl same ↦
          (let P : SeatRecord → Type 0 = λ (x : SeatRecord). RecordAgrees s (parts_with_update shown.parts p.worker q) x in
          subst P same.1 (agrees_solo s shown.parts p.worker q own (mine s table id p shown at).worker))
      | inr other ↦ agrees_still s shown.parts its p.worker q (shown.agrees seat its other.1)
          (λ k r has. alone table.views id seat (one_part_record s p) its p.worker k r (shown.once p.worker (mine s table id p shown at).worker) at (one_solo s p p.worker refl) other.0 other.1 has)
    ]

-- Whatever the table is, the seat may make its own step.
pub goes : (s : Shape) (slots id : ℕ) (p : Part) (lead : Part → Part) (step : ℕ → Step ℕ) → ChangeIsAllowed s lead p → IsShapeAddress s (action_address (private_action s (lead p).private))
    → Allows (TableInvariant s) slots id (one_part_record s p, []) (position_of_action s (private_action s (lead p).private)) (word_after_action (private_action s (lead p).private))
    (λ found. λ after. OwnStepEffect lead (step found) (one_part_record s p, []) (value_of_action (private_action s (lead p).private) found) after)
goes s slots id p lead step leads within table holds long at small =
    let q = lead p in
    let action = private_action s q.private in
    let value = value_of_action action (value_found_in s table.words action) in
    let own = mine s table id p holds at in
    let worker : q.worker < s.workers = subst (λ (v : ℕ). v < s.workers) (sym leads.worker) own.worker in
    let led = leads.world table.words holds.parts holds.history holds.world own.worker own.here in
    let parts = parts_with_update holds.parts p.worker q in
    let here : parts q.worker ≡ q = ap parts leads.worker ∙ there holds.parts p.worker q in
    let kept = step_keeps s record { words = table.words; parts = parts; history = holds.history } q led worker here leads.busy within in
    let after = part_after_step s q value in
    let again : parts_with_update parts q.worker after ≡ parts_with_update holds.parts p.worker after = updated_again holds.parts p.worker q.worker q after leads.worker in
    let world = subst (λ (f : ℕ → Part). ServiceInvariant s (words_after s table.words action) f (history_after holds.history (table_memory s table.words) q.worker (note_after s q.private value))) again kept.world in
    let rule = replaced s table id p after (words_after s table.words action) _ holds at leads.worker world in
    let stood : PartWasInWorld s q = record { words = table.words; parts = parts; history = holds.history; world = led; worker = worker; here = here } in
    let told : PartMadeStep s q value = record { before = stood; words = words_after s table.words action; did = kept.did; after = kept.world } in
    (one_part_record s after, keeps, tt, rule, (refl, told))

-- Whatever the table is, a worker that is inside may read the number of finished sections of its lock.
pub reads : (s : Shape) (slots id : ℕ) (p : Part) (lock : ℕ) (known : Step ℕ) → lock < s.locks → p.private.stage ≡ Logging (LoadTurn lock)
    → Allows (TableInvariant s) slots id (one_part_record s p, []) (position_of_address s (Turn lock)) (λ (n : ℕ). n) (λ found. λ after. SectionLoadEffect known (one_part_record s p, []) found after)
reads s slots id p lock known within at_turn table holds long at small =
    let own = mine s table id p holds at in
    let spot = position_of_address s (Turn lock) in
    let q = part_with_section p (slice_index table.words spot / 2) in
    let found : slice_index table.words spot ≡ table_memory s table.words (Turn lock) = found_read s table.words holds.world.long (Turn lock) within in
    let world : ServiceInvariant s table.words (parts_with_update holds.parts p.worker q) holds.history =
    subst (λ (n : ℕ). ServiceInvariant s table.words (parts_with_update holds.parts p.worker (part_with_section p (n / 2))) holds.history) (sym found)
    (read_world s table.words holds.parts holds.history p lock holds.world own.worker own.here at_turn) in
    let words : table.words ≡ slice_set table.words spot (slice_index table.words spot) = sym (set_same table.words spot) in
    let rule = subst (λ (ws : List ℕ). RecordsInvariant s ws (slice_set table.views id (one_part_record s q))) words (replaced s table id p q table.words holds.history holds at refl world) in
    let stood : PartWasInWorld s q = record { words = table.words; parts = parts_with_update holds.parts p.worker q; history = holds.history; world = world; worker = own.worker; here = there holds.parts p.worker q } in
    let few = turn_few s table.words holds.parts holds.history p lock holds.world own.worker own.here at_turn in
    (one_part_record s q, keeps, tt, rule, (refl, stood, (let is = found in omega (arith, few, is))))

-- A reader's load changes nothing.
pub looks : (s : Shape) (slots id : ℕ) (p : Part) (at : ℕ) (known : Step ℕ) → known.word ≡ at
    → Allows (TableInvariant s) slots id (one_part_record s p, []) at (λ (n : ℕ). n) (λ found. λ after. ReaderLoadEffect known (one_part_record s p, []) found after)
looks s slots id p at known its table holds long there small =
    let own = mine s table id p holds there in
    let words : table.words ≡ slice_set table.words at (slice_index table.words at) = sym (set_same table.words at) in
    let views : table.views ≡ slice_set table.views id (one_part_record s p) = sym (set_again table.views id (one_part_record s p) there) in
    let rule = subst (λ (ws : List ℕ). RecordsInvariant s ws (slice_set table.views id (one_part_record s p))) words (subst (λ (vs : List SeatRecord). RecordsInvariant s table.words vs) views holds) in
    let stood : PartWasInWorld s p = record { words = table.words; parts = holds.parts; history = holds.history; world = holds.world; worker = own.worker; here = own.here } in
    let sees : (address : Address) → IsShapeAddress s address → known.word ≡ position_of_address s address → PartReadsWord s p address (slice_index table.words at) =
    λ address within number. record { at = stood; read = ap (slice_index table.words) (sym its ∙ number) ∙ found_read s table.words holds.world.long address within } in
    (one_part_record s p, keeps, tt, rule, (refl, sees))

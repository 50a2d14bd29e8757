-- A record is cut in two, and two records are put together: the rule of the table is kept.
use Rattle.std.proofs.Common.{◌≡◌, ◌⊎◌, ℕ, zero, suc, ◌<◌, List, [], ◌∷◌, ◌++◌, set, sym, ◌∙◌, subst, inl, inr, arith}
use mathlib.Core.Option.{some, some-ne-none}
use lib.ListN.{get_elem?}
use Rattle.atomic_table.specs.Table.{Splits, Joins}
use Rattle.atomic_table.proofs.Lists.{at_set, at_snoc, set_else}
use Rattle.rme_words.specs.declared.shape.Shape.{Shape}
use Rattle.rme_service_steps.specs.declared.seat_record.Part.{Part}
use Rattle.rme_service_steps.specs.declared.seat_record.SeatRecord.{SeatRecord}
use Rattle.rme_service_steps.specs.Rule.{RecordAgrees, TableInvariant, total_of, part_count_of_worker, part_is_of_worker, one_part_record, all_parts, empty_record}
use Rattle.rme_service_steps.proofs.Totals.{total_set, total_append}

-- A member of two lists put together is one of the first or of the second.
at_joined : {A : Type 0} (l m : List A) (k : ℕ) (a : A) → get_elem? (l ++ m) k ≡ some a → (get_elem? l k ≡ some a) ⊎ ((j : ℕ) × (get_elem? m j ≡ some a))
at_joined [] m k a at = inr (k, at)
at_joined (x ∷ l) m zero a at = inl at
at_joined (x ∷ l) m (suc k) a at = at_joined l m k a at

module _ (s : Shape) (parts : ℕ → Part) where
  agrees_rest : (p : Part) (ps : List Part) (its : Shape) → RecordAgrees s parts record { shape = its; parts = p ∷ ps } → RecordAgrees s parts record { shape = its; parts = ps }
  agrees_rest p ps its agrees = record { shaped = λ some_part. agrees.shaped (omega arith); own = λ k q at. agrees.own (suc k) q at }

  agrees_first : (p : Part) (ps : List Part) (its : Shape) → RecordAgrees s parts record { shape = its; parts = p ∷ ps } → RecordAgrees s parts (one_part_record its p)
  agrees_first p ps its agrees = record { shaped = λ some_part. agrees.shaped (omega arith); own = own }
    where
      own : (k : ℕ) (q : Part) → get_elem? (p ∷ []) k ≡ some q → (q.worker < s.workers) × (parts q.worker ≡ q)
      own zero q at = agrees.own zero q at
      own (suc k) q at = absurd (some-ne-none q (sym at))

  agrees_all : (its other : SeatRecord) → its.shape ≡ s → RecordAgrees s parts its → RecordAgrees s parts other → RecordAgrees s parts (all_parts its other)
  agrees_all its other shaped one two = record {
    shaped = λ some_part. shaped;
    own = λ k q at. elim (at_joined its.parts other.parts k q at) [
      | inl here ↦ one.own k q here
      | inr there ↦ two.own there.0 q there.1
    ];
  }

  agrees_spent : RecordAgrees s parts empty_record
  agrees_spent = record { shaped = λ some_part. absurd (omega (arith, some_part)); own = λ k q at. absurd (some-ne-none q (sym at)) }

-- The first part of a record is split off, and a new seat has it.
pub splits : (s : Shape) (id : ℕ) (its : Shape) (p : Part) (ps : List Part)
    → Splits (TableInvariant s) id (record { shape = its; parts = p ∷ ps }) (record { shape = its; parts = ps }) (one_part_record its p)
splits s id its p ps table holds at = record { parts = holds.parts; history = holds.history; once = once; agrees = agrees; world = holds.world }
  where
    old : SeatRecord
    old = record { shape = its; parts = p ∷ ps }

    left : SeatRecord
    left = record { shape = its; parts = ps }

    once : (w : ℕ) → w < s.workers → total_of (part_count_of_worker w) (set table.views id left ++ one_part_record its p ∷ []) ≡ 1
    once w worker =
        let cut = total_set (part_count_of_worker w) table.views id old left at in
        let both = total_append (part_count_of_worker w) (set table.views id left) (one_part_record its p ∷ []) in
        let all = holds.once w worker in
        omega (arith, cut, both, all)

    agrees : (seat : ℕ) (r : SeatRecord) → get_elem? (set table.views id left ++ one_part_record its p ∷ []) seat ≡ some r → RecordAgrees s holds.parts r
    agrees seat r there = elim (at_snoc (set table.views id left) (one_part_record its p) r seat there) [
      | inl before ↦ elim (at_set table.views id seat left r before) [
        | inl same ↦ subst (λ (x : SeatRecord). RecordAgrees s holds.parts x) same.1 (agrees_rest s holds.parts p ps its (holds.agrees id old at))
        | inr other ↦ holds.agrees seat r other.1
      ]
      | inr last ↦ subst (λ (x : SeatRecord). RecordAgrees s holds.parts x) last (agrees_first s holds.parts p ps its (holds.agrees id old at))
    ]

-- A seat joins the parts of another, which is consumed.
pub joins : (s : Shape) (id other : ℕ) (one two : SeatRecord) → one.shape ≡ s → Joins (TableInvariant s) id one other two (all_parts one two) empty_record
joins s id other one two shaped table holds at apart there = record { parts = holds.parts; history = holds.history; once = once; agrees = agrees; world = holds.world }
  where
    mid : List SeatRecord
    mid = set table.views id (all_parts one two)

    was : get_elem? table.views other ≡ some two
    was = sym (set_else table.views id other (all_parts one two) apart) ∙ there

    once : (w : ℕ) → w < s.workers → total_of (part_count_of_worker w) (set mid other empty_record) ≡ 1
    once w worker =
        let more = total_set (part_count_of_worker w) table.views id one (all_parts one two) at in
        let less = total_set (part_count_of_worker w) mid other two empty_record there in
        let both = total_append (part_is_of_worker w) one.parts two.parts in
        let all = holds.once w worker in
        omega (arith, more, less, both, all)

    agrees : (seat : ℕ) (r : SeatRecord) → get_elem? (set mid other empty_record) seat ≡ some r → RecordAgrees s holds.parts r
    agrees seat r now = elim (at_set mid other seat empty_record r now) [
      | inl same ↦ subst (λ (x : SeatRecord). RecordAgrees s holds.parts x) same.1 (agrees_spent s holds.parts)
      | inr else_where ↦ elim (at_set table.views id seat (all_parts one two) r else_where.1) [
        | inl same ↦ subst (λ (x : SeatRecord). RecordAgrees s holds.parts x) same.1
            (agrees_all s holds.parts one two shaped (holds.agrees id one at) (holds.agrees other two was))
        | inr still ↦ holds.agrees seat r still.1
      ]
    ]

-- A seat whose worker is inside: that it may read the number of finished sections, and what it keeps.
use Rattle.std.proofs.Common.{◌≡◌, ℕ, ◌/◌, ◌<◌, List, [], refl, sym, ◌∙◌, ap, subst, arith}
use Rattle.std.specs.Prelude.{Bool, Option, is_some}
use Rattle.atomic_table.specs.Table.{Me, Allows}
use Rattle.atomic_table.specs.Seated.{TableId}
use Rattle.rme_words.specs.declared.shape.Shape.{Shape}
use Rattle.rme_words.specs.declared.address.Address.TheVariants.{Turn}
use Rattle.rme_words.specs.Words.{word_number}
use Rattle.rme_words.proofs.Places.{word_below}
use Rattle.rme_program.specs.declared.note.Entry.{Entry}
use Rattle.rme_program.specs.declared.private.Private.{Private}
use Rattle.rme_service_steps.specs.declared.seat_record.Part.{Part}
use Rattle.rme_service_steps.specs.declared.seat_record.SeatRecord.{SeatRecord}
use Rattle.rme_service_steps.specs.CallSteps.{TurnIsNext}
use Rattle.rme_service_steps.specs.Layout.{position_of_address, table_size}
use Rattle.rme_service_steps.specs.Parts.{part_with_section}
use Rattle.rme_service_steps.specs.Rule.{TableInvariant, one_part_record, only_part}
use Rattle.rme_service_steps.specs.SeatViews.{ServiceId, SeatView, WordTableInvariant, SeatInvariant}
use Rattle.rme_service_steps.specs.Steps.{SectionLoadEffect}
use Rattle.rme_service_steps.proofs.Going.{reads}
use Rattle.rme_service_steps.proofs.Positions.{inside}
use Rattle.rme_service_steps.proofs.Seats.{AtTable, no_step, same_shape, same_table, same_part, same_key, ident_shape}

module _ (mine tid : TableId) (key shape : Shape) (me : Me ℕ SeatRecord) (ident : ServiceId) (stand : SeatView) (table : AtTable mine tid key shape me ident stand) where
  pub may_read : (id at : ℕ) → TurnIsNext ident.shape stand.part at
      → (mine ≡ tid) × (at < tid.words) × Allows (TableInvariant key) tid.slots id me at (λ (n : ℕ). n) (λ found. λ after. SectionLoadEffect no_step me found after)
  may_read id at given =
      let P : Shape → Type 0 = λ (s : Shape). TurnIsNext s stand.part at in
      let Q : Part → Type 0 = λ (p : Part). TurnIsNext me.0.shape p at in
      let may : Q (only_part me.0) = subst Q (sym (same_part mine tid key shape me ident stand table)) (subst P (ident_shape mine tid key shape me ident stand table) given) in
      let (lock, within, lies, next) = may in
      let below = inside me.0.shape (word_number me.0.shape (Turn lock)) (word_below me.0.shape (Turn lock) within) in
      let words : tid.words ≡ table_size me.0.shape = table.keeps.words ∙ ap (λ (s : Shape). table_size s) (sym (same_shape mine tid key shape me ident stand table)) in
      let go = reads me.0.shape tid.slots id (only_part me.0) lock no_step within (ap (λ (q : Private). q.stage) next.private) in
      let N : ℕ → Type 0 = λ (n : ℕ). Allows (TableInvariant me.0.shape) tid.slots id (one_part_record me.0.shape (only_part me.0), []) n (λ (m : ℕ). m)
      (λ found. λ after. SectionLoadEffect no_step (one_part_record me.0.shape (only_part me.0), []) found after) in
      let K : Shape → Type 0 = λ (k : Shape). Allows (TableInvariant k) tid.slots id (one_part_record me.0.shape (only_part me.0), []) at (λ (m : ℕ). m)
      (λ found. λ after. SectionLoadEffect no_step (one_part_record me.0.shape (only_part me.0), []) found after) in
      let M : Me ℕ SeatRecord → Type 0 = λ (m : Me ℕ SeatRecord). Allows (TableInvariant key) tid.slots id m at (λ (n : ℕ). n) (λ found. λ after. SectionLoadEffect no_step m found after) in
      (same_table mine tid key shape me ident stand table, omega (arith, below, words, lies), subst M (sym table.one) (subst K (sym (same_key mine tid key shape me ident stand table)) (subst N (sym lies) go)))

  -- What the seat keeps, and what contracts see of it.
  module _ (worker : ℕ) (drafted : Bool) (es : List Entry) (room : ℕ) (seated : SeatInvariant me worker drafted es room) (value : ℕ) (after : Me ℕ SeatRecord) (told : SectionLoadEffect no_step me value after) where
    after_one : after ≡ (one_part_record me.0.shape (part_with_section (only_part me.0) (value / 2)), [])
    after_one = told.0 ∙ ap (λ (m : Me ℕ SeatRecord). (one_part_record me.0.shape (part_with_section (only_part me.0) (value / 2)), m.1)) table.one

    after_part : only_part after.0 ≡ part_with_section (only_part me.0) (value / 2)
    after_part = ap (λ (m : Me ℕ SeatRecord). only_part m.0) after_one

    after_shape : after.0.shape ≡ me.0.shape
    after_shape = ap (λ (m : Me ℕ SeatRecord). m.0.shape) after_one

    pub read_keeps : SeatInvariant after worker drafted es room
    read_keeps =
        let P : Me ℕ SeatRecord → Type 0 = λ (m : Me ℕ SeatRecord). SeatInvariant m worker drafted es room in
        let there : P (one_part_record me.0.shape (part_with_section (only_part me.0) (value / 2)), []) = record {
          one = refl;
          own = seated.own;
          drafts = seated.drafts;
          all = seated.all;
          jobs = seated.jobs;
          stood = told.1;
        } in subst P (sym after_one) there

    pub read_view : (others : TableId) → others ≡ mine
        → ◌≡◌ {A = SeatView} record { ident = record { table = others; shape = after.0.shape }; part = only_part after.0 } record { ident = stand.ident; part = part_with_section stand.part (value / 2) }
    read_view others same =
        let part : only_part after.0 ≡ part_with_section stand.part (value / 2) = after_part ∙ ap (λ (p : Part). part_with_section p (value / 2)) (same_part mine tid key shape me ident stand table) in
        λ k. record {
          ident = record { table = (same ∙ ap (λ (x : SeatView). x.ident.table) table.sight) k; shape = (after_shape ∙ ap (λ (x : SeatView). x.ident.shape) table.sight) k };
          part = part k;
        }

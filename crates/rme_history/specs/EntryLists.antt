-- A list of finished sections, with the operations of their scripts concatenated in a second list.
use Rattle.std.specs.Prelude.{ℕ, ◌+◌, ◌-◌, ◌*◌, ◌≤◌, List, [], ◌∷◌, length, slice_range}
use Rattle.rme_script.specs.declared.op.Op.{Op}
use Rattle.rme_program.specs.declared.note.Entry.{Entry}
use Rattle.rme_history.specs.declared.entry_head.EntryHead.{EntryHead}

-- The sections, and the number for which there is room.
pub record EntryListView : Type 0 where
  pub entries : List Entry
  pub room : ℕ

-- Where the operations before these heads end: at the next head's, or at the end of all.
abbrev pub end_before : List EntryHead → ℕ → ℕ
end_before [] count = count
end_before (head ∷ heads) count = head.start

-- The script of a section has the operations from its head's start to this end.
abbrev pub entry_up_to : List Op → EntryHead → ℕ → Entry
entry_up_to ops head end =
    record {
      receipt = head.receipt;
      script = record { n = end - head.start; ops = slice_range ops head.start end };
    }

abbrev pub entries_from_heads : List Op → List EntryHead → List Entry
entries_from_heads ops [] = []
entries_from_heads ops (head ∷ heads) =
    entry_up_to ops head (end_before heads (length ops)) ∷ entries_from_heads ops heads

-- Operations from a start to an end exist, and are at most as many as a job may have.
pub record AreEntryOps (count start end : ℕ) : Type 0 where
  pub up : start ≤ end
  pub there : end ≤ count
  pub few : end - start ≤ 8

-- The operations of each head, in order.
abbrev pub AreEntryHeads : ℕ → List EntryHead → Type 0
AreEntryHeads count [] = Unit {0}
AreEntryHeads count (head ∷ heads) =
    AreEntryOps count head.start (end_before heads count) × AreEntryHeads count heads

-- Each head is valid, and there is room for all entries that may come, with the operations that are still missing.
pub record IsEntryList (ops : List Op) (heads : List EntryHead) (room ops_wide heads_wide : ℕ) : Type 0 where
  pub all : AreEntryHeads (length ops) heads
  pub few : length ops ≤ 8 * length heads
  pub most : room ≤ 2305843009213693951
  pub op_room : length ops + 8 * (room - length heads) ≤ ops_wide
  pub head_room : room ≤ heads_wide

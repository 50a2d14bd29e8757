-- A list of finished sections: its entries one by one, and appending another.
use Rattle.std.proofs.Common.{◌≡◌, refl, ap, sym, ◌∙◌, subst, ℕ, zero, suc, ◌+◌, ◌-◌, ◌≤◌, arith, List, [], ◌∷◌, ◌++◌, length, take, drop, slice_range, Some, None, length-append}
use Rattle.std.specs.List.{slice_get}
use Rattle.std.proofs.lemmas.List.{take-append-le, drop-append-le, length-drop}
use Rattle.std.proofs.Math.Seq.{drop-append_seam, take-length}
use Rattle.rme_script.specs.declared.op.Op.{Op}
use Rattle.rme_script.specs.Programs.{Program}
use Rattle.rme_program.specs.declared.note.Entry.{Entry}
use Rattle.rme_history.specs.declared.entry_head.EntryHead.{EntryHead}
use Rattle.rme_history.specs.EntryLists.{AreEntryHeads, AreEntryOps, end_before, entries_from_heads, entry_up_to}

-- ---- one entry

-- Where the operations of the head before this index end.
pub end_at_next : (heads : List EntryHead) (count k : ℕ) (next : EntryHead) → slice_get heads k ≡ Some next → end_before (drop k heads) count ≡ next.start
end_at_next [] count k next there = absurd (cc there)
end_at_next (head ∷ heads) count zero next there = cc there
end_at_next (head ∷ heads) count (suc k) next there = end_at_next heads count k next there

pub end_at_last : (heads : List EntryHead) (count k : ℕ) → slice_get heads k ≡ None → end_before (drop k heads) count ≡ count
end_at_last [] count zero past = refl
end_at_last [] count (suc k) past = refl
end_at_last (head ∷ heads) count zero past = absurd (cc past)
end_at_last (head ∷ heads) count (suc k) past = end_at_last heads count k past

pub entries_len : (ops : List Op) (heads : List EntryHead) → length (entries_from_heads ops heads) ≡ length heads
entries_len ops [] = refl
entries_len ops (head ∷ heads) = ap (λ (n : ℕ). suc n) (entries_len ops heads)

pub entry_there : (ops : List Op) (heads : List EntryHead) (k : ℕ) (head : EntryHead) → slice_get heads k ≡ Some head → slice_get (entries_from_heads ops heads) k ≡ Some (entry_up_to ops head (end_before (drop (suc k) heads) (length ops)))
entry_there ops [] k head there = absurd (cc there)
entry_there ops (first ∷ heads) zero head there = cc there
entry_there ops (first ∷ heads) (suc k) head there = entry_there ops heads k head there

pub no_entry : (ops : List Op) (heads : List EntryHead) (k : ℕ) → slice_get heads k ≡ None → slice_get (entries_from_heads ops heads) k ≡ None
no_entry ops [] k past = refl
no_entry ops (first ∷ heads) zero past = absurd (cc past)
no_entry ops (first ∷ heads) (suc k) past = no_entry ops heads k past

pub ops_there : (count : ℕ) (heads : List EntryHead) (k : ℕ) (head : EntryHead) → AreEntryHeads count heads → slice_get heads k ≡ Some head → AreEntryOps count head.start (end_before (drop (suc k) heads) count)
ops_there count [] k head all there = absurd (cc there)
ops_there count (first ∷ heads) zero head all there =
    let same : first ≡ head = cc there in subst (λ (h : EntryHead). AreEntryOps count h.start (end_before heads count)) same all.0
ops_there count (first ∷ heads) (suc k) head all there = ops_there count heads k head all.1 there

-- ---- one more

-- A range of a list is the same in a longer list.
range_kept : (ops new : List Op) (from to : ℕ) → from ≤ to → to ≤ length ops → slice_range (ops ++ new) from to ≡ slice_range ops from to
range_kept ops new from to up there =
    ap (take (to - from)) (drop-append-le from ops new (omega (arith, up, there)))
    ∙ take-append-le (to - from) (drop from ops) new (omega (arith, up, there, length-drop from ops))

entry_kept : (ops new : List Op) (h : EntryHead) (end : ℕ) → AreEntryOps (length ops) h.start end → entry_up_to (ops ++ new) h end ≡ entry_up_to ops h end
entry_kept ops new h end are =
    ap (λ (xs : List Op). record { receipt = h.receipt; script = record { n = end - h.start; ops = xs } }) (range_kept ops new h.start end are.up are.there)

-- The operations before a further head end where those of all earlier heads did.
end_kept : (heads : List EntryHead) (h : EntryHead) (count more : ℕ) → h.start ≡ count → end_before (heads ++ h ∷ []) more ≡ end_before heads count
end_kept [] h count more begins = begins
end_kept (head ∷ heads) h count more begins = refl

-- The appended operations are those of the head that names them.
entry_new : (ops new : List Op) (h : EntryHead) → h.start ≡ length ops → entry_up_to (ops ++ new) h (length (ops ++ new)) ≡ record { receipt = h.receipt; script = record { n = length new; ops = new } }
entry_new ops new h begins =
    let n : length (ops ++ new) - h.start ≡ length new = omega (arith, begins, length-append ops new) in
    let r : slice_range (ops ++ new) h.start (length (ops ++ new)) ≡ new =
    ap (λ (few : ℕ). take few (drop h.start (ops ++ new))) n
    ∙ (ap (λ (from : ℕ). take (length new) (drop from (ops ++ new))) begins ∙ (ap (take (length new)) (drop-append_seam ops new) ∙ take-length new)) in
    cc (n, r)

-- So the list grows by the appended section.
pub entries_more : (ops : List Op) (heads : List EntryHead) (h : EntryHead) (script : Program) → AreEntryHeads (length ops) heads → length script.ops ≡ script.n → h.start ≡ length ops
    → entries_from_heads (ops ++ script.ops) (heads ++ h ∷ []) ≡ entries_from_heads ops heads ++ record { receipt = h.receipt; script = script } ∷ []
entries_more ops [] h script all long begins =
    ap (λ (e : Entry). e ∷ []) (entry_new ops script.ops h begins ∙ ap (λ (n : ℕ). record { receipt = h.receipt; script = record { n = n; ops = script.ops } }) long)
entries_more ops (head ∷ heads) h script all long begins =
    let first : entry_up_to (ops ++ script.ops) head (end_before (heads ++ h ∷ []) (length (ops ++ script.ops))) ≡ entry_up_to ops head (end_before heads (length ops)) =
    ap (entry_up_to (ops ++ script.ops) head) (end_kept heads h (length ops) (length (ops ++ script.ops)) begins) ∙ entry_kept ops script.ops head (end_before heads (length ops)) all.0 in
    ap (λ (e : Entry). e ∷ entries_from_heads (ops ++ script.ops) (heads ++ h ∷ [])) first
    ∙ ap (λ (es : List Entry). entry_up_to ops head (end_before heads (length ops)) ∷ es) (entries_more ops heads h script all.1 long begins)

-- The heads are valid with the one that names the appended operations.
ops_kept : (count more start end : ℕ) → count ≤ more → AreEntryOps count start end → AreEntryOps more start end
ops_kept count more start end le are = record { up = are.up; there = omega (arith, are.there, le); few = are.few }

pub heads_more : (count more : ℕ) (heads : List EntryHead) (h : EntryHead) → AreEntryHeads count heads → h.start ≡ count → count ≤ more → more - count ≤ 8 → AreEntryHeads more (heads ++ h ∷ [])
heads_more count more [] h all begins le few = (record { up = omega (arith, begins, le); there = omega arith; few = omega (arith, begins, few) }, tt)
heads_more count more (head ∷ heads) h all begins le few =
    let e : end_before (heads ++ h ∷ []) more ≡ end_before heads count = end_kept heads h count more begins in
    (subst (λ (end : ℕ). AreEntryOps more head.start end) (sym e) (ops_kept count more head.start (end_before heads count) le all.0), heads_more count more heads h all.1 begins le few)

-- ---- one entry that was found

-- The head at an index, with the end of its operations, is that of the entry there.
pub record FindsEntry (ops : List Op) (heads : List EntryHead) (k : ℕ) (head : EntryHead) (end : ℕ) : Type 0 where
  pub entry : slice_get (entries_from_heads ops heads) k ≡ Some (entry_up_to ops head end)
  pub are : AreEntryOps (length ops) head.start end

pub finds_entry : (ops : List Op) (heads : List EntryHead) (k : ℕ) (head : EntryHead) (end : ℕ) → AreEntryHeads (length ops) heads → slice_get heads k ≡ Some head → end ≡ end_before (drop (k + 1) heads) (length ops) → FindsEntry ops heads k head end
finds_entry ops heads k head end all there is =
    let next : k + 1 ≡ suc k = omega arith in
    let e : end_before (drop (suc k) heads) (length ops) ≡ end = sym (is ∙ ap (λ (n : ℕ). end_before (drop n heads) (length ops)) next) in
    subst (λ (n : ℕ). FindsEntry ops heads k head n) e record { entry = entry_there ops heads k head there; are = ops_there (length ops) heads k head all there }

-- The same by equal values.
pub finds_entry_by : {ops : List Op} {heads dereferenced : List EntryHead} {at len end : ℕ} {head : EntryHead} → AreEntryHeads (length ops) heads → slice_get heads at ≡ Some head → dereferenced ≡ heads → len ≡ length ops → end ≡ end_before (drop (at + 1) dereferenced) len → FindsEntry ops heads at head end
finds_entry_by {ops} {heads} {dereferenced} {at} {len} {end} {head} all there same many is =
    let behind : end_before (drop (at + 1) dereferenced) len ≡ end_before (drop (at + 1) heads) (length ops) = cc (same, many) in
    finds_entry ops heads at head end all there (is ∙ behind)

-- The reads of a checker state, from its workers and its fold, and what a finished section preserves.
use Rattle.std.proofs.Common.{◌≡◌, ℕ, ◌+◌, ◌<◌, true, Some, List, [], ◌∷◌, ◌++◌, length, take, get_or, slice_get, length-append, refl, sym, ◌∙◌, ap, subst, arith}
use Rattle.std.specs.Prelude.{replicate, slice_set}
use Rattle.std.specs.List.{All}
use Rattle.std.proofs.lemmas.Bool.{eq-eqb}
use Rattle.std.proofs.lemmas.List.{take_all}
use Rattle.std.proofs.lemmas.List.Elements.{All-replicate, All-set}
use Rattle.std.proofs.lemmas.Option.{same_Some, slice_get_read}
use Rattle.std.proofs.Math.Seq.{take-append_seam}
use Rattle.rme_words.specs.declared.shape.Shape.{Shape}
use Rattle.rme_script.specs.declared.job.Job.{Job}
use Rattle.rme_script.proofs.Lists.{get_seam}
use Rattle.rme_program.specs.declared.note.Receipt.{Receipt}
use Rattle.rme_program.specs.declared.note.Entry.{Entry}
use Rattle.rme_script.specs.Jobs.{IsJob}
use Rattle.rme_machine.specs.declared.stance.JobStance.{JobStance}
use Rattle.rme_machine.specs.declared.stance.JobStance.TheVariants.{Idle, Handed, Waiting, Inside, Finished}
use Rattle.rme_machine.specs.Histories.{place_of, lock_row, EntryFollows}
use Rattle.rme_machine.specs.Machine.{WorkerState, opening_worker}
use Rattle.rme_machine.proofs.Finishing.{rows_long}
use Rattle.rme_machine.proofs.Lists.{made_at, made_long}
use Rattle.rme_history.specs.Folds.{IsReplayFold, EntryFollowsAt}
use Rattle.rme_core_checker.specs.Deciding.{has_outcome, is_section_receipt, stance_after_finish, entry_of_section}
use Rattle.rme_core_checker.specs.Invariants.{StanceJobIsOfShape}
use Rattle.rme_core_checker.proofs.Tests.{receipt_due, is_receipt_is}

abbrev IsFit : Shape → WorkerState → Type 0
IsFit s me = StanceJobIsOfShape s me.stance

-- ---- reads

-- Initially no worker has a job.
pub opening_fits : (s : Shape) (workers : List WorkerState) (n : ℕ) → workers ≡ replicate n opening_worker → All (IsFit s) workers
opening_fits s workers n are = subst (λ (all : List WorkerState). All (IsFit s) all) (sym are) (All-replicate (IsFit s) n opening_worker tt)

-- Each worker's job is of the shape.
pub read_fits : (s : Shape) (workers : List WorkerState) (w : ℕ) (me : WorkerState) → All (IsFit s) workers → w < length workers → me ≡ get_or workers w me → StanceJobIsOfShape s me.stance
read_fits s workers w me all within read = subst (λ (x : WorkerState). IsFit s x) (sym read) (all w me within)

pub inside_fits : (s : Shape) (workers : List WorkerState) (w : ℕ) (me : WorkerState) (k : ℕ) (job : Job) → All (IsFit s) workers → w < length workers
    → me ≡ get_or workers w me → me.stance ≡ Inside k job → IsJob s job
inside_fits s workers w me k job all within read is =
    subst (λ (own : JobStance). StanceJobIsOfShape s own) is (read_fits s workers w me all within read)

-- The worker that is read at an index is the worker there.
pub read_same : (workers : List WorkerState) (w : ℕ) (me read : WorkerState) → w < length workers → read ≡ get_or workers w read → slice_get workers w ≡ Some me → read ≡ me
read_same workers w me read within is at = same_Some read me (sym (slice_get_read workers (length workers) w read refl within is) ∙ at)

-- The count and the row of a lock are its next place and its cells.
module _ (s : Shape) (es : List Entry) (cells : List (List ℕ)) (counts : List ℕ) (fold : IsReplayFold s es cells counts) (lock : ℕ) (within : lock < s.locks) where
  pub counts_reach : lock < length counts
  counts_reach =
      let many : length counts ≡ s.locks = ap (λ (xs : List ℕ). length xs) fold.places ∙ made_long (λ (l : ℕ). place_of es l) s.locks in
      omega (arith, many, within)

  pub cells_reach : lock < length cells
  cells_reach =
      let many : length cells ≡ s.locks = ap (λ (xs : List (List ℕ)). length xs) fold.rows ∙ made_long (λ (l : ℕ). lock_row s es l) s.locks in
      omega (arith, many, within)

  pub count_read : (count : ℕ) → count ≡ get_or counts lock count → count ≡ place_of es lock
  count_read count read =
      read ∙ ap (λ (xs : List ℕ). get_or xs lock count) fold.places
      ∙ made_at (λ (l : ℕ). place_of es l) s.locks lock count within

  pub row_read : (row : List ℕ) → row ≡ get_or cells lock row → row ≡ lock_row s es lock
  row_read row read =
      read ∙ ap (λ (xs : List (List ℕ)). get_or xs lock row) fold.rows
      ∙ made_at (λ (l : ℕ). lock_row s es l) s.locks lock row within

  pub row_long : (row : List ℕ) → row ≡ get_or cells lock row → length row ≡ s.cells
  row_long row read = ap (λ (xs : List ℕ). length xs) (row_read row read) ∙ rows_long s es lock

-- A receipt of the worker's own number and lock is due if its place and its reply are those of the values read.
pub receipt_read : (s : Shape) (history : List Entry) (w : ℕ) (own : JobStance) (receipt : Receipt) (k : ℕ) (job : Job) (count : ℕ) (row : List ℕ) → own ≡ Inside k job
    → receipt.worker ≡ w → receipt.lock ≡ job.lock → receipt.number ≡ k → count ≡ place_of history job.lock → row ≡ lock_row s history job.lock
    → has_outcome count row job.script receipt ≡ is_section_receipt s history w own receipt
receipt_read s history w own receipt k job count row is at on numbered counted found =
    rw (is, eq-eqb receipt.worker w at, eq-eqb receipt.lock job.lock on, eq-eqb receipt.number k numbered, counted, found) refl

-- ---- a section that is finished

due_follows : (s : Shape) (history : List Entry) (w k : ℕ) (job : Job) → IsJob s job → EntryFollows s history (entry_of_section (receipt_due s history w k job) (Inside k job))
due_follows s history w k job is = record { job = is; place = refl; reply = refl }

-- The entry of a receipt that is due follows from the history.
pub receipt_follows : (s : Shape) (history : List Entry) (w : ℕ) (own : JobStance) (receipt : Receipt) → is_section_receipt s history w own receipt ≡ true → StanceJobIsOfShape s own
    → EntryFollows s history (entry_of_section receipt own)
receipt_follows s history w own receipt t fits =
    let due = is_receipt_is s history w own receipt t in
    let job : StanceJobIsOfShape s (Inside due.0 due.1) = subst (λ (o : JobStance). StanceJobIsOfShape s o) due.2 fits in
    subst (λ (r : Receipt). EntryFollows s history (entry_of_section r own)) (sym due.3)
    (subst (λ (o : JobStance). EntryFollows s history (entry_of_section (receipt_due s history w due.0 due.1) o)) (sym due.2) (due_follows s history w due.0 due.1 job))

pub finish_follows : (s : Shape) (history : List Entry) (workers : List WorkerState) (w : ℕ) (me : WorkerState) (receipt : Receipt) → All (IsFit s) workers → w < length workers
    → me ≡ get_or workers w me → ((x : WorkerState) → slice_get workers w ≡ Some x → is_section_receipt s history w x.stance receipt ≡ true)
    → EntryFollows s history (entry_of_section receipt me.stance)
finish_follows s history workers w me receipt all within read due =
    receipt_follows s history w me.stance receipt (due me (slice_get_read workers (length workers) w me refl within read)) (read_fits s workers w me all within read)

-- So it follows at the end of the entries.
pub follows_last : (s : Shape) (es all : List Entry) (e : Entry) (last : ℕ) → all ≡ es ++ e ∷ [] → last ≡ length es → EntryFollows s es e → EntryFollowsAt s all last
follows_last s es all e last is at follows d there =
    let here : slice_get (es ++ e ∷ []) (length es) ≡ Some d = rw (← is, ← at) there in
    let same : e ≡ d = same_Some e d (sym (get_seam es [] e) ∙ here) in
    let front : take last all ≡ es = rw (is, at) (take-append_seam es (e ∷ [])) in
    subst (λ (earlier : List Entry). EntryFollows s earlier d) (sym front) (subst (λ (x : Entry). EntryFollows s es x) same follows)

-- After it all entries are present.
pub take_whole : (es all : List Entry) (e : Entry) (last : ℕ) → all ≡ es ++ e ∷ [] → last ≡ length es → take (last + 1) all ≡ all
take_whole es all e last is at = take_all (last + 1) all (let long = ap (λ (xs : List Entry). length xs) is in omega (arith, long, at, length-append es (e ∷ [])))

-- The job of a worker that has finished is the one with which it was inside.
pub done_fits : (s : Shape) (own : JobStance) → StanceJobIsOfShape s own → StanceJobIsOfShape s (stance_after_finish own)
done_fits s Idle fits = fits
done_fits s (Handed job) fits = fits
done_fits s (Waiting k job) fits = fits
done_fits s (Inside k job) fits = fits
done_fits s (Finished k job) fits = fits

pub fits_set : (s : Shape) (workers : List WorkerState) (w : ℕ) (me : WorkerState) → All (IsFit s) workers → StanceJobIsOfShape s me.stance → All (IsFit s) (slice_set workers w me)
fits_set s workers w me all fits = All-set (IsFit s) workers w me fits all

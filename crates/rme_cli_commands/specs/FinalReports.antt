-- THE FINAL REPORT OF A CLOSED SERVICE, and the exit status.
use Rattle.std.specs.Prelude.{◌≡◌, ℕ, ◌+◌, Bool, true, false, ◌==◌, if◌then◌else◌, List, [], ◌∷◌, ◌++◌, length, count_by, slice_get, slice_index, Option, Some, None, Result, Ok, Err, codes, decimal, string_bytes}
use Rattle.rme_words.specs.declared.refusal.Refusal.{Refusal}
use Rattle.rme_words.specs.declared.refusal.Refusal.TheVariants.{NoWorker}
use Rattle.rme_table.specs.declared.closed.CountedService.{CountedService}
use Rattle.rme_table.specs.declared.closed.CountedLock.{CountedLock}
use Rattle.rme_table.specs.declared.closed.Unclosed.{Unclosed}
use Rattle.rme_supervisor.specs.declared.end.End.{End}
use Rattle.rme_supervisor.specs.declared.end.End.TheVariants.{AllDone}
use Rattle.rme_cli_commands.specs.declared.final_report.FinalReport.{FinalReport}
use Rattle.rme_cli_commands.specs.declared.final_report.ThreadsOutcome.{ThreadsOutcome}

-- the cells, as ` 5 0`
abbrev pub spaced_cell_text : ℕ → List ℕ
spaced_cell_text cell = codes " " ++ decimal cell

abbrev pub spaced_cells_text : List ℕ → List ℕ
spaced_cells_text [] = []
spaced_cells_text (cell ∷ cells) = spaced_cell_text cell ++ spaced_cells_text cells

-- the line of a lock, as `lock bank cells 5 0 entries 1`
abbrev pub closed_lock_front : List ℕ → List ℕ
closed_lock_front name = codes "lock " ++ (name ++ codes " cells")

abbrev pub closed_lock_end : ℕ → List ℕ
closed_lock_end entries = codes " entries " ++ (decimal entries ++ codes "\n")

abbrev pub closed_lock_text : List ℕ → CountedLock → List ℕ
closed_lock_text name lock =
    closed_lock_front name ++ (spaced_cells_text lock.cells.items ++ closed_lock_end lock.entries)

-- the remark on an unsettled lock, as `rme: lock bank is not settled: worker 0 is inside`
abbrev pub unsettled_remark_text : List ℕ → Bool → Option ℕ → List ℕ
unsettled_remark_text name true owner = []
unsettled_remark_text name false None = []
unsettled_remark_text name false (Some worker) =
    codes "rme: lock " ++ (name ++ (codes " is not settled: worker " ++ (decimal worker ++ codes " is inside\n")))

abbrev pub lock_remark_text : List ℕ → CountedLock → List ℕ
lock_remark_text name lock = unsettled_remark_text name lock.settled lock.owner

-- the texts of the locks, from this number on, each with its name, in order
abbrev pub lock_text_at : (List ℕ → CountedLock → List ℕ) → List ℕ → Option CountedLock → List ℕ
lock_text_at text name None = []
lock_text_at text name (Some lock) = text name lock

abbrev pub lock_texts_from : (List ℕ → CountedLock → List ℕ) → List CountedLock → ℕ → List (List ℕ) → List ℕ
lock_texts_from text locks number [] = []
lock_texts_from text locks number (name ∷ names) =
    lock_text_at text name (slice_get locks number) ++ lock_texts_from text locks (number + 1) names

-- the lines of the locks with these names, and the remarks on them
abbrev pub closed_locks_text : List (List ℕ) → List CountedLock → List ℕ
closed_locks_text names locks = lock_texts_from closed_lock_text locks 0 names

abbrev pub lock_remarks_text : List (List ℕ) → List CountedLock → List ℕ
lock_remarks_text names locks = lock_texts_from lock_remark_text locks 0 names

-- The program writes this to the standard output and to the standard error, and ends with this status.
pub record FinalReportSays (closing : FinalReport) (text diagnostics : List ℕ) (status : ℕ) : Type 0 where
  pub said : string_bytes closing.text ≡ text
  pub remarked : string_bytes closing.diagnostics ≡ diagnostics
  pub ends : closing.status ≡ status

-- The report of a service that was not closed, since a worker is missing; no other reason has one.
abbrev pub UnclosedReport : Refusal → FinalReport → Type 0
UnclosedReport NoWorker closing = FinalReportSays closing [] [] 1
UnclosedReport _ closing = ⊥

-- the final report of `serve`
abbrev pub ServiceReport : List (List ℕ) → Result CountedService Unclosed → FinalReport → Type 0
ServiceReport names (Ok counted) closing =
    FinalReportSays closing (closed_locks_text names counted.locks.items) (lock_remarks_text names counted.locks.items)
    0
ServiceReport names (Err unclosed) closing = UnclosedReport unclosed.why closing

-- a worker's plan has no further job
abbrev pub is_all_done : End → Bool
is_all_done AllDone = true
is_all_done _ = false

-- the status is 0 if all workers are done
abbrev pub status_of_counts : ℕ → ℕ → ℕ
status_of_counts done workers = if done == workers then 0 else 1

abbrev pub status_of_ends : List End → ℕ
status_of_ends ends = status_of_counts (count_by is_all_done ends) (length ends)

-- the lines of workers and their lock, as `workers 8`, `jobs 100`, `all done 8`, and `cell 800`, `entries 800`
abbrev pub counts_text : ℕ → ℕ → ℕ → List ℕ
counts_text workers jobs done =
    codes "workers " ++ (decimal workers ++
    (codes "\njobs " ++ (decimal jobs ++ (codes "\nall done " ++ (decimal done ++ codes "\n")))))

abbrev pub only_lock_text : CountedLock → List ℕ
only_lock_text lock =
    codes "cell " ++ (decimal (slice_index lock.cells.items 0) ++
    (codes "\nentries " ++ (decimal lock.entries ++ codes "\n")))

abbrev pub threads_text : ℕ → ℕ → List End → Option CountedLock → List ℕ
threads_text workers jobs ends None = []
threads_text workers jobs ends (Some lock) = counts_text workers jobs (count_by is_all_done ends) ++ only_lock_text lock

-- the final report of `threads`, with an outcome, or without one if a worker is missing
abbrev pub ThreadsReport : ℕ → ℕ → Option ThreadsOutcome → FinalReport → Type 0
ThreadsReport workers jobs None closing = FinalReportSays closing [] [] 1
ThreadsReport workers jobs (Some outcome) closing =
    FinalReportSays closing (threads_text workers jobs outcome.ends.items (slice_get outcome.counted.locks.items 0)) []
    (status_of_ends outcome.ends.items)

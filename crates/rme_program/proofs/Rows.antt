-- The action of a stage is its row's at its place, and the length of each row.
use Rattle.std.proofs.Common.{◌≡◌, ℕ, ◌+◌, ◌-◌, ◌*◌, ◌/◌, ◌%◌, ◌<◌, ◌≤◌, Bool, true, false, nat_lt, List, [], ◌∷◌, ◌++◌, length, refl, ap, ◌∙◌, inl, inr, arith, length-append}
use Rattle.std.specs.Prelude.{Some, slice_index, ◌⊎◌}
use Rattle.std.specs.List.{slice_get}
use Rattle.std.proofs.lemmas.Bool.{cases_eq, cases_lt, eq-eqb, ne_eqb, lt-ltb, le-ltb}
use Rattle.std.proofs.lemmas.List.{get_or_append_left}
use Rattle.rme_words.specs.declared.shape.Shape.{Shape}
use Rattle.rme_words.specs.declared.address.Address.TheVariants.{Begun, Done, Reply, Place, At, SlateLock, SlateLen, SlateWord, Turn}
use Rattle.rme_tree.specs.Paths.{side}
use Rattle.rme_script.specs.declared.job.Job.{Job}
use Rattle.rme_script.specs.Slates.{ops_words, slate_of}
use Rattle.rme_script.proofs.Slating.{words_length}
use Rattle.rme_program.specs.declared.action.Action.{Action}
use Rattle.rme_program.specs.declared.action.Action.TheVariants.{Load, Store, Swap}
use Rattle.rme_program.specs.declared.stage.Recovery.{Recovery}
use Rattle.rme_program.specs.declared.stage.Recovery.TheVariants.{LoadBegun, LoadDone, LoadLock, LoadPath}
use Rattle.rme_program.specs.declared.stage.Slate.{Slate}
use Rattle.rme_program.specs.declared.stage.Ascent.{Ascent}
use Rattle.rme_program.specs.declared.stage.Departure.{Departure}
use Rattle.rme_program.specs.declared.stage.Departure.TheVariants.{LoadExitTurn, StoreExitTurn, Clear, WithdrawPlace, WithdrawAt, WithdrawReply, WithdrawDone}
use Rattle.rme_program.specs.Conditions.{IsRecoveryStage, IsDepartureStage}
use Rattle.rme_script.specs.Jobs.{IsJob}
use Rattle.rme_program.specs.Steps.{recovery_action, slate_action, ascent_action, departure_action}
use Rattle.rme_program.specs.Table.{actions_for_each, path_node, lock_word_address, recover_row, post_row, enter_row, clear_row, settle_row, exit_row, withdraw_row}
use Rattle.rme_program.specs.StepsMade.{steps_made_in_recovery}
use Rattle.rme_program.specs.Stays.{RecoveryIsInStay, ExitIsInStay, PartialExitIsInStay, WithdrawalIsInStay, steps_made_in_exit, steps_made_in_partial_exit, steps_made_in_withdrawal}
use Rattle.rme_program.proofs.Lists.{at_left, at_right, at_each, length_each}

-- ---- RECOVER

pub recover_at : (shape : Shape) (worker known begun done lock : ℕ) (recovery : Recovery) → IsRecoveryStage shape recovery → RecoveryIsInStay known begun done lock recovery
    → slice_get (recover_row shape worker (nat_lt done begun) lock) (steps_made_in_recovery recovery) ≡ Some (recovery_action shape worker recovery)
recover_at shape worker known begun done lock LoadBegun is fits = refl
recover_at shape worker known begun done lock LoadDone is fits = refl
recover_at shape worker known begun done lock (LoadLock true) is fits = rw (← fits.1) refl
recover_at shape worker known begun done lock (LoadLock false) is fits = rw (← fits.1) refl
recover_at shape worker known begun done lock (LoadPath pending here held) is fits =
    rw fits.2 (at_right (Load (Begun worker) ∷ Load (Done worker) ∷ Load (lock_word_address worker (nat_lt done begun)) ∷ [])
    (actions_for_each shape.height (λ i. Load (path_node shape worker lock (i + 1)))) held (3 + held) (Load (path_node shape worker lock (held + 1)))
    (at_each shape.height (λ i. Load (path_node shape worker lock (i + 1))) held is.1) (omega arith))

pub path_at : (shape : Shape) (worker : ℕ) (pending : Bool) (lock held place level : ℕ) → held < shape.height → place ≡ 3 + held → held + 1 ≡ level
    → slice_get (recover_row shape worker pending lock) place ≡ Some (Load (path_node shape worker lock level))
path_at shape worker pending lock held place level l p e =
    at_right (Load (Begun worker) ∷ Load (Done worker) ∷ Load (lock_word_address worker pending) ∷ [])
    (actions_for_each shape.height (λ i. Load (path_node shape worker lock (i + 1)))) held place (Load (path_node shape worker lock level))
    (at_each shape.height (λ i. Load (path_node shape worker lock (i + 1))) held l ∙ ap (λ (n : ℕ). Some (Load (path_node shape worker lock n))) e) (omega (arith, p))

pub recover_length : (shape : Shape) (worker : ℕ) (pending : Bool) (lock : ℕ) → length (recover_row shape worker pending lock) ≡ shape.height + 3
recover_length shape worker pending lock = omega (arith, length_each shape.height (λ i. Load (path_node shape worker lock (i + 1))))

-- ---- POST

abbrev pub slate_stores : ℕ → Job → List Action
slate_stores worker job = actions_for_each (3 * job.script.n) (λ i. Store (SlateWord worker (i / 3) (i % 3)) (slice_index (ops_words job.script.ops) i))

-- The words of the operations are the first of the slate.
slate_word : (job : Job) (i : ℕ) → length job.script.ops ≡ job.script.n → i < 3 * job.script.n → slice_index (slate_of job.script.ops) i ≡ slice_index (ops_words job.script.ops) i
slate_word job i counted l = get_or_append_left (ops_words job.script.ops) _ 0 i (omega (arith, l, counted, words_length job.script.ops))

pub post_at : (shape : Shape) (worker known : ℕ) (slate : Slate) → IsJob shape slate.job → slate.stored ≤ 2 + 3 * slate.job.script.n
    → slice_get (post_row worker known slate.job) slate.stored ≡ Some (slate_action worker known slate)
post_at shape worker known slate is most = elim (cases_eq slate.stored 0) [
  | inl q ↦ rw (eq-eqb slate.stored 0 q, q) refl
  | inr n ↦ rw (ne_eqb slate.stored 0 n) (elim (cases_eq slate.stored 1) [
    | inl q ↦ rw (eq-eqb slate.stored 1 q, q) refl
    | inr m ↦ rw (ne_eqb slate.stored 1 m) (elim (cases_lt slate.stored (2 + 3 * slate.job.script.n)) [
      | inl l ↦ rw (lt-ltb slate.stored (2 + 3 * slate.job.script.n) l, slate_word slate.job (slate.stored - 2) is.script.counted (omega (arith, l, n, m)))
          (at_right (Store (SlateLock worker) slate.job.lock ∷ Store (SlateLen worker) slate.job.script.n ∷ [])
          (slate_stores worker slate.job ++ Store (Begun worker) (known + 1) ∷ []) (slate.stored - 2) slate.stored _
          (at_left (slate_stores worker slate.job) _ (slate.stored - 2) _
          (at_each (3 * slate.job.script.n) (λ i. Store (SlateWord worker (i / 3) (i % 3)) (slice_index (ops_words slate.job.script.ops) i)) (slate.stored - 2) (omega (arith, l, n, m))))
          (omega (arith, n, m)))
      | inr g ↦ rw (le-ltb slate.stored (2 + 3 * slate.job.script.n) g)
          (at_right (Store (SlateLock worker) slate.job.lock ∷ Store (SlateLen worker) slate.job.script.n ∷ [])
          (slate_stores worker slate.job ++ Store (Begun worker) (known + 1) ∷ []) (slate.stored - 2) slate.stored _
          (at_right (slate_stores worker slate.job) (Store (Begun worker) (known + 1) ∷ []) 0 (slate.stored - 2) _ refl
          (omega (arith, g, most, length_each (3 * slate.job.script.n) (λ i. Store (SlateWord worker (i / 3) (i % 3)) (slice_index (ops_words slate.job.script.ops) i)))))
          (omega (arith, n, m)))
    ])
  ])
]

pub post_length : (worker known : ℕ) (job : Job) → length (post_row worker known job) ≡ 3 + 3 * job.script.n
post_length worker known job =
    omega (
      arith,
      length-append (slate_stores worker job) (Store (Begun worker) (known + 1) ∷ []),
      length_each (3 * job.script.n) (λ i. Store (SlateWord worker (i / 3) (i % 3)) (slice_index (ops_words job.script.ops) i)),
    )

-- ---- ENTER

pub enter_at : (shape : Shape) (worker lock from : ℕ) (ascent : Ascent) → ascent.held < shape.height → (ascent.lock ≡ lock) × (from ≤ ascent.held)
    → slice_get (enter_row shape worker lock from) (ascent.held - from) ≡ Some (ascent_action shape worker ascent)
enter_at shape worker lock from ascent is fits =
    let e : from + (ascent.held - from) + 1 ≡ ascent.held + 1 = omega (arith, fits.1) in
    let f : ℕ → Action = λ i. Swap (path_node shape worker lock (from + i + 1)) 0 (side shape.leaves worker (from + i + 1)) in
    rw fits.0 (at_each (shape.height - from) f (ascent.held - from) (omega (arith, is, fits.1))
    ∙ ap (λ (l : ℕ). Some (Swap (path_node shape worker lock l) 0 (side shape.leaves worker l))) e)

pub enter_length : (shape : Shape) (worker lock from : ℕ) → length (enter_row shape worker lock from) ≡ shape.height - from
enter_length shape worker lock from = length_each (shape.height - from) (λ i. Swap (path_node shape worker lock (from + i + 1)) 0 (side shape.leaves worker (from + i + 1)))

-- ---- EXIT

clear_at : (shape : Shape) (worker lock levels level : ℕ) → 1 ≤ level → level ≤ levels
    → slice_get (clear_row shape worker lock levels) (levels - level) ≡ Some (Store (path_node shape worker lock level) 0)
clear_at shape worker lock levels level some most =
    let e : levels - (levels - level) ≡ level = omega (arith, most) in
    at_each levels (λ i. Store (path_node shape worker lock (levels - i)) 0) (levels - level) (omega (arith, some, most))
    ∙ ap (λ (l : ℕ). Some (Store (path_node shape worker lock l) 0)) e

pub clear_length : (shape : Shape) (worker lock levels : ℕ) → length (clear_row shape worker lock levels) ≡ levels
clear_length shape worker lock levels = length_each levels (λ i. Store (path_node shape worker lock (levels - i)) 0)

pub parity : (turn : ℕ) → (turn % 2 ≡ 0) ⊎ (turn % 2 ≡ 1)
parity turn = elim (cases_eq (turn % 2) 0) [ inl q ↦ inl q | inr n ↦ inr (omega (arith, n)) ]

settle_length : (lock turn : ℕ) → length (settle_row lock turn) ≡ turn % 2
settle_length lock turn = elim (parity turn) [
  | inl q ↦ rw (eq-eqb (turn % 2) 0 q, q) refl
  | inr q ↦ rw (ne_eqb (turn % 2) 0 (omega (arith, q)), q) refl
]

pub exit_at : (shape : Shape) (worker known lock turn : ℕ) (departure : Departure) → IsDepartureStage shape departure → ExitIsInStay shape lock turn departure
    → slice_get (exit_row shape worker lock turn) (steps_made_in_exit shape turn departure) ≡ Some (departure_action shape worker known departure)
exit_at shape worker known lock turn (LoadExitTurn here) is fits = rw fits refl
exit_at shape worker known lock turn (StoreExitTurn here odd) is fits = rw (ne_eqb (turn % 2) 0 fits.2, fits.0, fits.1) refl
exit_at shape worker known lock turn (Clear here level) is fits =
    rw fits.0 (at_right (Load (Turn lock) ∷ []) (settle_row lock turn ++ clear_row shape worker lock shape.height) (turn % 2 + (shape.height - level)) (1 + turn % 2 + (shape.height - level)) _
    (at_right (settle_row lock turn) (clear_row shape worker lock shape.height) (shape.height - level) (turn % 2 + (shape.height - level)) _
    (clear_at shape worker lock shape.height level is.1 is.2)
    (omega (arith, settle_length lock turn)))
    (omega arith))
exit_at shape worker known lock turn (WithdrawPlace here held) is fits = absurd fits
exit_at shape worker known lock turn (WithdrawAt here held) is fits = absurd fits
exit_at shape worker known lock turn (WithdrawReply here held) is fits = absurd fits
exit_at shape worker known lock turn (WithdrawDone here held) is fits = absurd fits

pub exit_length : (shape : Shape) (worker lock turn : ℕ) → length (exit_row shape worker lock turn) ≡ 1 + turn % 2 + shape.height
exit_length shape worker lock turn =
    omega (arith, length-append (settle_row lock turn) (clear_row shape worker lock shape.height), settle_length lock turn, clear_length shape worker lock shape.height)

pub partial_at : (shape : Shape) (worker known lock levels : ℕ) (departure : Departure) → IsDepartureStage shape departure → PartialExitIsInStay shape lock levels departure
    → slice_get (clear_row shape worker lock levels) (steps_made_in_partial_exit levels departure) ≡ Some (departure_action shape worker known departure)
partial_at shape worker known lock levels (Clear here level) is fits = rw fits.0 (clear_at shape worker lock levels level is.1 fits.1)
partial_at shape worker known lock levels (LoadExitTurn here) is fits = absurd fits
partial_at shape worker known lock levels (StoreExitTurn here odd) is fits = absurd fits
partial_at shape worker known lock levels (WithdrawPlace here held) is fits = absurd fits
partial_at shape worker known lock levels (WithdrawAt here held) is fits = absurd fits
partial_at shape worker known lock levels (WithdrawReply here held) is fits = absurd fits
partial_at shape worker known lock levels (WithdrawDone here held) is fits = absurd fits

pub withdraw_at : (shape : Shape) (worker known lock levels : ℕ) (departure : Departure) → IsDepartureStage shape departure → WithdrawalIsInStay shape lock levels departure
    → slice_get (withdraw_row shape worker known lock levels) (steps_made_in_withdrawal levels departure) ≡ Some (departure_action shape worker known departure)
withdraw_at shape worker known lock levels (WithdrawPlace here held) is fits = refl
withdraw_at shape worker known lock levels (WithdrawAt here held) is fits = rw fits.0 refl
withdraw_at shape worker known lock levels (WithdrawReply here held) is fits = refl
withdraw_at shape worker known lock levels (WithdrawDone here held) is fits = refl
withdraw_at shape worker known lock levels (Clear here level) is fits =
    rw fits.0 (at_right (Store (Place worker) 18446744073709551615 ∷ Store (At worker) lock ∷ Store (Reply worker) 0 ∷ Store (Done worker) known ∷ [])
    (clear_row shape worker lock levels) (levels - level) (4 + (levels - level)) _ (clear_at shape worker lock levels level is.1 fits.1) (omega arith))
withdraw_at shape worker known lock levels (LoadExitTurn here) is fits = absurd fits
withdraw_at shape worker known lock levels (StoreExitTurn here odd) is fits = absurd fits

pub withdraw_length : (shape : Shape) (worker known lock levels : ℕ) → length (withdraw_row shape worker known lock levels) ≡ 4 + levels
withdraw_length shape worker known lock levels = omega (arith, clear_length shape worker lock levels)

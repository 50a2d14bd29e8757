-- The values of whole runs: a post, the loads of a section, what comes once its script was run, and the way out.
use Rattle.std.proofs.Common.{◌≡◌, ℕ, zero, suc, ◌+◌, ◌-◌, ◌*◌, ◌<◌, ◌≤◌, List, [], ◌∷◌, length, take, drop, replicate, refl, sym, ap, subst, ◌∙◌, arith}
use Rattle.std.specs.Prelude.{Option, Some, None, Bool, true, false, ◌==◌, if◌then◌else◌, slice_index}
use Rattle.std.proofs.lemmas.List.{length-drop, get_or-drop, get_or-take, take_rest}
use Rattle.rme_words.specs.declared.shape.Shape.{Shape}
use Rattle.rme_script.specs.declared.job.Job.{Job}
use Rattle.rme_script.specs.Programs.{Program}
use Rattle.rme_script.specs.Eval.{RunResult, eval_of}
use Rattle.rme_program.specs.Masks.{first_cell}
use Rattle.rme_program.specs.declared.note.Note.{Note}
use Rattle.rme_program.specs.declared.note.Note.TheVariants.{Quiet, Asked, Entered, Left, Ready}
use Rattle.rme_program.specs.declared.private.Private.{Private}
use Rattle.rme_program.specs.declared.stage.Stage.{Stage}
use Rattle.rme_program.specs.declared.stage.Stage.TheVariants.{Resting, Posting, Logging, Copying, Leaving}
use Rattle.rme_program.specs.declared.stage.Slate.{Slate}
use Rattle.rme_program.specs.declared.stage.Visit.{Visit}
use Rattle.rme_program.specs.declared.stage.Parity.TheVariants.{Even}
use Rattle.rme_program.specs.declared.stage.Log.TheVariants.{LoadTurn, LoadLen, StoreShadows, StoreShadowReply, StoreMask, StoreTurn}
use Rattle.rme_program.specs.declared.stage.Redo.TheVariants.{LoadMask}
use Rattle.rme_program.specs.declared.stage.Departure.TheVariants.{LoadExitTurn, StoreExitTurn, Clear}
use Rattle.rme_program.specs.Conditions.{IsPrivate, IsStage}
use Rattle.rme_program.specs.Steps.{private_after, script_stage, cell_stage_from, run_stage, shadow_stage_from, finish_outcome, clear_stage, logging_section}
use Rattle.rme_process_core.specs.declared.expected_slate.ExpectedSlate.{ExpectedSlate}
use Rattle.rme_process_core.specs.declared.flat.BatchOutcome.{BatchOutcome}
use Rattle.rme_process_core.specs.Runs.{private_at_stage, climbing_private, ValuesLeadTo, QuietStepsLeadTo, NotesWritten, FastForward, noted}
use Rattle.rme_process_core.specs.ExpectedSlates.{IsExpectedSlate, ValuesMatchSlate, ValuesFreeRoot}
use Rattle.rme_process_core.proofs.Telling.{Goes}
use Rattle.rme_process_core.proofs.Going.{posting, clearing, post_goes_on, post_asks, climb_goes_on, climb_enters, turn_goes_on, settle_goes_on, root_goes, clear_goes, lowest_goes}
use Rattle.rme_process_core.proofs.Loading.{ReadsSlate, even_goes, length_goes, word_goes, slate_known}
use Rattle.rme_process_core.proofs.Finishing.{shadow_reply_goes, mask_goes, odd_goes}
use Rattle.rme_process_core.proofs.Led.{takes_none, takes_one, takes_noted, takes_run, takes_there, blind_none, blind_more, blind_there, blind_taken}

-- ---- a post

post_blind : (shape : Shape) (worker begun : ℕ) (job : Job) (stored count : ℕ) → stored + count ≤ 2 + 3 * job.script.n → QuietStepsLeadTo shape (posting worker begun job stored) count (posting worker begun job (stored + count))
post_blind shape worker begun job stored zero few =
    let none : stored ≡ stored + zero = omega arith in
    blind_there shape (posting worker begun job stored) 0 (posting worker begun job stored) (posting worker begun job (stored + zero)) (ap (λ (k : ℕ). posting worker begun job k) none) (blind_none shape (posting worker begun job stored))
post_blind shape worker begun job stored (suc count) few =
    let more : count + 1 ≡ suc count = omega arith in
    let next : stored + count + 1 ≡ stored + suc count = omega arith in
    let P : ℕ → Type 0 = λ k. QuietStepsLeadTo shape (posting worker begun job stored) k (posting worker begun job (stored + suc count)) in
    let Q : ℕ → Type 0 = λ k. QuietStepsLeadTo shape (posting worker begun job stored) (count + 1) (posting worker begun job k) in
    subst P more (subst Q next (blind_more shape (posting worker begun job stored) count (posting worker begun job (stored + count)) (posting worker begun job (stored + count + 1))
    (post_blind shape worker begun job stored count (omega (arith, few))) (λ value. post_goes_on shape worker begun job (stored + count) value (omega (arith, few)))))

module _ (shape : Shape) (worker begun : ℕ) (slate : Slate) (values : List ℕ) (count : ℕ) where
  abbrev job : Job
  job = slate.job

  pub post_led : count + slate.stored ≡ 3 + 3 * job.script.n → slate.stored ≤ 2 + 3 * job.script.n → count ≤ length values
      → ValuesLeadTo shape (private_at_stage worker begun (Posting slate)) (take count values) (Asked (begun + 1) ∷ []) (climbing_private worker (begun + 1) job.lock 0)
  post_led whole few within =
      let start : Private = private_at_stage worker begun (Posting slate) in
      let next : Private = climbing_private worker (begun + 1) job.lock 0 in
      let k : ℕ = count - 1 in
      let more : k + 1 ≡ count = omega (arith, whole, few) in
      let last : slate.stored + k ≡ 2 + 3 * job.script.n = omega (arith, whole, few) in
      let P : ℕ → Type 0 = λ c. ValuesLeadTo shape start (take c values) (Asked (begun + 1) ∷ []) next in
      let Q : ℕ → Type 0 = λ s. QuietStepsLeadTo shape start k (posting worker begun job s) in
      let mid : Private = posting worker begun job (2 + 3 * job.script.n) in
      let stored : ValuesLeadTo shape start (take k values) [] mid = blind_taken shape start values k mid (omega (arith, within, more)) (subst Q last (post_blind shape worker begun job slate.stored k (omega (arith, last)))) in
      subst P more (takes_noted shape start values k [] mid next stored (omega (arith, within, more)) (Asked (begun + 1)) (post_asks shape worker begun job (slice_index values k)))

-- One job more is begun, and the worker is at another stage.
pub begun_private : (shape : Shape) (worker begun : ℕ) (slate : Slate) (stage : Stage) → IsPrivate shape (private_at_stage worker begun (Posting slate)) → IsStage shape (begun + 1) stage → IsPrivate shape (private_at_stage worker (begun + 1) stage)
begun_private shape worker begun slate stage is so = record { worker = is.worker; begun = omega (arith, is.stage.0); stage = so }

-- ---- the way in

module _ (shape : Shape) (worker begun lock held : ℕ) (values : List ℕ) where
  climb_taken : (k : ℕ) → held + k < shape.height → k ≤ length values → ((i : ℕ) → i < k → slice_index values i ≡ 0) → ValuesLeadTo shape (climbing_private worker begun lock held) (take k values) [] (climbing_private worker begun lock (held + k))
  climb_taken zero below within free =
      let none : held ≡ held + zero = omega arith in
      takes_there shape (climbing_private worker begun lock held) [] [] (climbing_private worker begun lock held) (climbing_private worker begun lock (held + zero)) (ap (λ (h : ℕ). climbing_private worker begun lock h) none) (takes_none shape (climbing_private worker begun lock held))
  climb_taken (suc k) below within free =
      let more : k + 1 ≡ suc k = omega arith in
      let next : held + k + 1 ≡ held + suc k = omega arith in
      let P : ℕ → Type 0 = λ c. ValuesLeadTo shape (climbing_private worker begun lock held) (take c values) [] (climbing_private worker begun lock (held + suc k)) in
      let Q : ℕ → Type 0 = λ h. ValuesLeadTo shape (climbing_private worker begun lock held) (take (k + 1) values) [] (climbing_private worker begun lock h) in
      let V : ℕ → Type 0 = λ v. Goes shape (climbing_private worker begun lock (held + k)) v Quiet (λ p. p ≡ climbing_private worker begun lock (held + k + 1)) in
      subst P more (subst Q next (takes_one shape (climbing_private worker begun lock held) values k (climbing_private worker begun lock (held + k)) (climbing_private worker begun lock (held + k + 1))
      (climb_taken k (omega (arith, below)) (omega (arith, within)) (λ i less. free i (omega (arith, less)))) (omega (arith, within))
      (subst V (sym (free k (omega arith))) (climb_goes_on shape worker begun lock (held + k) (omega (arith, below))))))

  pub in_led : (count : ℕ) → held + count ≡ shape.height → held < shape.height → count ≤ length values → ((i : ℕ) → i < count → slice_index values i ≡ 0)
      → ValuesLeadTo shape (climbing_private worker begun lock held) (take count values) (Entered lock ∷ []) (private_at_stage worker begun (Logging (LoadTurn lock)))
  in_led count whole below within free =
      let start : Private = climbing_private worker begun lock held in
      let next : Private = private_at_stage worker begun (Logging (LoadTurn lock)) in
      let k : ℕ = count - 1 in
      let more : k + 1 ≡ count = omega (arith, whole, below) in
      let P : ℕ → Type 0 = λ c. ValuesLeadTo shape start (take c values) (Entered lock ∷ []) next in
      let V : ℕ → Type 0 = λ v. Goes shape (climbing_private worker begun lock (held + k)) v (Entered lock) (λ p. p ≡ next) in
      subst P more (takes_noted shape start values k [] (climbing_private worker begun lock (held + k)) next (climb_taken k (omega (arith, whole, more)) (omega (arith, within, more)) (λ i less. free i (omega (arith, less, more))))
      (omega (arith, within, more)) (Entered lock) (subst V (sym (free k (omega (arith, more)))) (climb_enters shape worker begun lock (held + k) (omega (arith, whole, more)))))

-- ---- the loads of a section

module _ (shape : Shape) (guess : ExpectedSlate) (lock : ℕ) (values : List ℕ) (is : IsExpectedSlate shape guess) (finds : ValuesMatchSlate guess values) where
  abbrev turn : ℕ
  turn = slice_index values 0

  abbrev count : ℕ
  count = guess.script.n

  module _ (worker begun : ℕ) where
    abbrev start : Private
    start = private_at_stage worker begun (Logging (LoadTurn lock))

    -- So many words of the slate are read.
    record HasRead (k : ℕ) : Type 0 where
      mid : Private
      takes : ValuesLeadTo shape start (take (k + 2) values) [] mid
      reads : ReadsSlate shape worker begun lock turn count guess.words k mid

    same_word : (k : ℕ) → k < 3 * count → slice_index values (k + 2) ≡ slice_index guess.words k
    same_word k below =
        let both : 2 + k ≡ k + 2 = omega arith in
        ap (λ (j : ℕ). slice_index values j) (sym both) ∙ sym (get_or-drop 2 values k 0) ∙ sym (get_or-take (3 * count) (drop 2 values) k 0 below)
        ∙ ap (λ (ws : List ℕ). slice_index ws k) finds.words ∙ get_or-take (3 * count) guess.words k 0 below

    first_read : HasRead 0
    first_read =
        let len : Private = private_at_stage worker begun (Logging (LoadLen lock turn)) in
        let next : Private = private_after shape len (slice_index values 1) in
        let R : Private → Type 0 = ReadsSlate shape worker begun lock turn count guess.words 0 in
        let V : ℕ → Type 0 = λ v. Goes shape len v Quiet R in
        let goes : Goes shape len (slice_index values 1) Quiet R = subst V (sym finds.count) (length_goes shape worker begun lock turn count guess.words is.script.few) in
        record {
          mid = next;
          takes = takes_one shape start values 1 len next (takes_one shape start values 0 start len (takes_none shape start) (omega (arith, finds.enough)) (even_goes shape worker begun lock turn finds.small finds.even))
              (omega (arith, finds.enough)) record { takes = goes.takes; says = goes.says; next = refl };
          reads = goes.next;
        }

    next_read : (k : ℕ) → k < 3 * count → HasRead k → HasRead (k + 1)
    next_read k below read =
        let next : Private = private_after shape read.mid (slice_index values (k + 2)) in
        let R : Private → Type 0 = ReadsSlate shape worker begun lock turn count guess.words (k + 1) in
        let V : ℕ → Type 0 = λ v. Goes shape read.mid v Quiet R in
        let goes : Goes shape read.mid (slice_index values (k + 2)) Quiet R =
        subst V (sym (same_word k below)) (word_goes shape worker begun lock turn count guess.words guess.script is.script.few is.slate is.script k read.mid below read.reads) in
        let more : k + 2 + 1 ≡ k + 1 + 2 = omega arith in
        let P : ℕ → Type 0 = λ j. ValuesLeadTo shape start (take j values) [] next in
        record {
          mid = next;
          takes = subst P more (takes_one shape start values (k + 2) read.mid next read.takes (omega (arith, finds.enough, below)) record { takes = goes.takes; says = goes.says; next = refl });
          reads = goes.next;
        }

    has_read : (k : ℕ) → k ≤ 3 * count → HasRead k
    has_read zero few = first_read
    has_read (suc k) few =
        let more : k + 1 ≡ suc k = omega arith in
        let P : ℕ → Type 0 = λ j. HasRead j in
        subst P more (next_read k (omega (arith, few)) (has_read k (omega (arith, few))))

    pub slate_taken : ValuesLeadTo shape start (take (2 + 3 * count) values) [] (private_at_stage worker begun (cell_stage_from shape (logging_section lock turn guess.script guess.named) (replicate shape.cells 0) (first_cell guess.named 0 shape.cells)))
    slate_taken =
        let read : HasRead (3 * count) = has_read (3 * count) (omega arith) in
        let both : 3 * count + 2 ≡ 2 + 3 * count = omega arith in
        let there : Private = private_at_stage worker begun (script_stage shape lock turn (Some guess.script)) in
        let P : ℕ → Type 0 = λ j. ValuesLeadTo shape start (take j values) [] there in
        let M : ℕ → Type 0 = λ m. ValuesLeadTo shape start (take (2 + 3 * count) values) [] (private_at_stage worker begun (cell_stage_from shape (logging_section lock turn guess.script m) (replicate shape.cells 0) (first_cell m 0 shape.cells))) in
        subst M (sym is.named) (subst P both (takes_there shape start (take (3 * count + 2) values) [] read.mid there
        (slate_known shape worker begun lock turn count guess.words guess.script is.script.few is.slate is.script (3 * count) read.mid refl read.reads) read.takes))

-- ---- the script is run

module _ (shape : Shape) (lock turn n named : ℕ) (script : Program) (row out : List ℕ) (reply : ℕ) (counted : n ≡ script.n) (is : eval_of script.ops row ≡ record { row = out; reply = reply }) where
  abbrev visit : ℕ → Visit
  visit k = record { lock = lock; turn = turn; parity = Even k named }

  ran : shadow_stage_from (visit n) named out reply (first_cell named 0 shape.cells) ≡ run_stage shape (logging_section lock turn script named) row
  ran =
      ap (λ (k : ℕ). shadow_stage_from (visit k) named out reply (first_cell named 0 shape.cells)) counted
      ∙ ap (λ (r : RunResult). shadow_stage_from (visit script.n) named r.row r.reply (first_cell named 0 shape.cells)) (sym is)

  pub ran_none : first_cell named 0 shape.cells ≡ None → Logging (StoreShadowReply (visit n) named reply) ≡ run_stage shape (logging_section lock turn script named) row
  ran_none none = ap (λ (o : Option ℕ). shadow_stage_from (visit n) named out reply o) (sym none) ∙ ran

  pub ran_some : (cell : ℕ) → first_cell named 0 shape.cells ≡ Some cell → Logging (StoreShadows (visit n) named out reply cell) ≡ run_stage shape (logging_section lock turn script named) row
  ran_some cell some = ap (λ (o : Option ℕ). shadow_stage_from (visit n) named out reply o) (sym some) ∙ ran

-- What a worker knows that is about to store a shadow word, the reply aside; of any other it is `other`.
abbrev pub Shadows : Type 0
Shadows = Visit × ℕ × List ℕ × ℕ

unfoldable pub shadows_at : Shadows → Stage → Shadows
shadows_at other (Logging (StoreShadows visit named row reply cell)) = (visit, named, row, cell)
shadows_at other stage = other

-- ---- what comes once the script was run

pub finish_led : (shape : Shape) (worker begun : ℕ) (visit : Visit) (named reply cell : ℕ) (row values : List ℕ) (stores copies : ℕ) → stores + 3 ≤ length values
    → QuietStepsLeadTo shape (private_at_stage worker begun (Logging (StoreShadows visit named row reply cell))) stores (private_at_stage worker begun (Logging (StoreShadowReply visit named reply)))
    → ValuesLeadTo shape (private_at_stage worker begun (Copying (LoadMask visit))) (take copies (drop (stores + 3) values)) ((finish_outcome worker begun visit reply).1 ∷ []) (private_at_stage worker begun (finish_outcome worker begun visit reply).0)
    → ValuesLeadTo shape (private_at_stage worker begun (Logging (StoreShadows visit named row reply cell))) (take (stores + 3 + copies) values) ((finish_outcome worker begun visit reply).1 ∷ []) (private_at_stage worker begun (finish_outcome worker begun visit reply).0)
finish_led shape worker begun visit named reply cell row values stores copies enough blind takes =
    let start : Private = private_at_stage worker begun (Logging (StoreShadows visit named row reply cell)) in
    let a : Private = private_at_stage worker begun (Logging (StoreShadowReply visit named reply)) in
    let b : Private = private_at_stage worker begun (Logging (StoreMask visit named)) in
    let d : Private = private_at_stage worker begun (Logging (StoreTurn visit)) in
    let mask : Private = private_at_stage worker begun (Copying (LoadMask visit)) in
    let three : stores + 1 + 1 + 1 ≡ stores + 3 = omega arith in
    let P : ℕ → Type 0 = λ k. QuietStepsLeadTo shape start k mask in
    let stored : QuietStepsLeadTo shape start (stores + 3) mask =
    subst P three (blind_more shape start (stores + 1 + 1) d mask
    (blind_more shape start (stores + 1) b d (blind_more shape start stores a b blind (λ value. shadow_reply_goes shape worker begun visit named reply value)) (λ value. mask_goes shape worker begun visit named value))
    (λ value. odd_goes shape worker begun visit value)) in
    takes_run shape start values (stores + 3) [] mask (private_at_stage worker begun (finish_outcome worker begun visit reply).0) (blind_taken shape start values (stores + 3) mask enough stored) copies ((finish_outcome worker begun visit reply).1 ∷ []) takes

-- ---- the way out

not_zero : (n : ℕ) → (n == 0) ≡ false → 1 ≤ n
not_zero zero e = cc
not_zero (suc n) e = omega arith

module _ (shape : Shape) (worker begun lock : ℕ) (values : List ℕ) where
  pub root_led : (place : ℕ) → ValuesFreeRoot place values → ValuesLeadTo shape (private_at_stage worker begun (Leaving (LoadExitTurn lock))) (take 3 values) (Left lock ∷ []) (private_at_stage worker begun (clear_stage lock (shape.height - 1)))
  root_led place frees =
      let start : Private = private_at_stage worker begun (Leaving (LoadExitTurn lock)) in
      let mid : Private = private_at_stage worker begun (Leaving (StoreExitTurn lock (2 * place + 1))) in
      let root : Private = clearing worker begun lock shape.height in
      let V : ℕ → Type 0 = λ v. Goes shape start v Quiet (λ p. p ≡ mid) in
      takes_noted shape start values 2 [] root (private_at_stage worker begun (clear_stage lock (shape.height - 1)))
      (takes_one shape start values 1 mid root
      (takes_one shape start values 0 start mid (takes_none shape start) (omega (arith, frees.enough)) (subst V (sym frees.odd) (turn_goes_on shape worker begun lock (2 * place + 1) (omega (arith, frees.small)) (omega arith))))
      (omega (arith, frees.enough)) (settle_goes_on shape worker begun lock (2 * place + 1) (slice_index values 1)))
      (omega (arith, frees.enough)) (Left lock) (root_goes shape worker begun lock (slice_index values 2))

  clears_taken : (level k : ℕ) → level < shape.height → k < level → k ≤ length values → ValuesLeadTo shape (clearing worker begun lock level) (take k values) [] (clearing worker begun lock (level - k))
  clears_taken level zero below less within =
      let none : level ≡ level - zero = omega arith in
      takes_there shape (clearing worker begun lock level) [] [] (clearing worker begun lock level) (clearing worker begun lock (level - zero)) (ap (λ (l : ℕ). clearing worker begun lock l) none) (takes_none shape (clearing worker begun lock level))
  clears_taken level (suc k) below less within =
      let more : k + 1 ≡ suc k = omega arith in
      let rest : ℕ = level - suc k in
      let here : level - k ≡ rest + 1 = omega (arith, less) in
      let start : Private = clearing worker begun lock level in
      let P : ℕ → Type 0 = λ c. ValuesLeadTo shape start (take c values) [] (clearing worker begun lock rest) in
      let Q : ℕ → Type 0 = λ l. ValuesLeadTo shape start (take k values) [] (clearing worker begun lock l) in
      subst P more (takes_one shape start values k (clearing worker begun lock (rest + 1)) (clearing worker begun lock rest) (subst Q here (clears_taken level k below (omega (arith, less)) (omega (arith, within)))) (omega (arith, within))
      (clear_goes shape worker begun lock rest (slice_index values k) (omega (arith, below, less)) (omega (arith, less))))

  pub clears_jumps : (level : ℕ) (before after : BatchOutcome) → level < shape.height → level ≤ length values → NotesWritten before (Ready ∷ []) after → IsPrivate shape (clearing worker begun lock level)
      → FastForward shape (noted (clearing worker begun lock level) before) values level (noted (private_at_stage worker begun Resting) after)
  clears_jumps level before after below within writes is =
      let some : 1 ≤ level = is.stage.1 in
      let k : ℕ = level - 1 in
      let more : k + 1 ≡ level = omega (arith, some) in
      let one : level - k ≡ 1 = omega (arith, some) in
      let start : Private = clearing worker begun lock level in
      let P : ℕ → Type 0 = λ c. ValuesLeadTo shape start (take c values) (Ready ∷ []) (private_at_stage worker begun Resting) in
      let Q : ℕ → Type 0 = λ l. ValuesLeadTo shape start (take k values) [] (clearing worker begun lock l) in
      record {
        within = within;
        notes = Ready ∷ [];
        takes = subst P more (takes_noted shape start values k [] (clearing worker begun lock 1) (private_at_stage worker begun Resting) (subst Q one (clears_taken level k below (omega (arith, more)) (omega (arith, within, more))))
            (omega (arith, within, more)) Ready (lowest_goes shape worker begun lock (slice_index values k) (omega (arith, below, some))));
        few = omega (arith, some);
        writes = writes;
        private = record { worker = is.worker; begun = is.begun; stage = tt };
      }

pub cleared_private : (shape : Shape) (worker begun lock : ℕ) → IsPrivate shape (private_at_stage worker begun (Leaving (LoadExitTurn lock))) → IsPrivate shape (private_at_stage worker begun (clear_stage lock (shape.height - 1)))
cleared_private shape worker begun lock is =
    let P : Bool → Type 0 = λ b. IsPrivate shape (private_at_stage worker begun (if b then Resting else Leaving (Clear lock (shape.height - 1)))) in
    let no : (b : Bool) → (shape.height - 1 == 0) ≡ b → P b = λ b is_b. at_b b is_b in
    no (shape.height - 1 == 0) refl
  where
    at_b : (b : Bool) → (shape.height - 1 == 0) ≡ b → IsPrivate shape (private_at_stage worker begun (if b then Resting else Leaving (Clear lock (shape.height - 1))))
    at_b true e = record { worker = is.worker; begun = is.begun; stage = tt }
    at_b false e = record { worker = is.worker; begun = is.begun; stage = (is.stage, not_zero (shape.height - 1) e, omega arith) }

-- ---- by the stage

module _ (shape : Shape) (private : Private) (stage : Stage) (here : private.stage ≡ stage) where
  there : private_at_stage private.worker private.begun stage ≡ private
  there = sym (ap (λ (s : Stage). private_at_stage private.worker private.begun s) here)

  pub private_at : IsPrivate shape private → IsPrivate shape (private_at_stage private.worker private.begun stage)
  private_at is = let P : Private → Type 0 = λ p. IsPrivate shape p in subst P (sym there) is

  pub jumps_at : (values : List ℕ) (count : ℕ) (before : BatchOutcome) (new : Private) (after : BatchOutcome) → FastForward shape (noted (private_at_stage private.worker private.begun stage) before) values count (noted new after) → FastForward shape (noted private before) values count (noted new after)
  jumps_at values count before new after so = let P : Private → Type 0 = λ p. FastForward shape (noted p before) values count (noted new after) in subst P there so

-- Nothing was taken, and the stage is what it was.
pub still : (shape : Shape) (private : Private) (values : List ℕ) (outcome : BatchOutcome) (stage : Stage) → stage ≡ private.stage → FastForward shape (noted private outcome) values 0 (noted private outcome)
    → FastForward shape (noted private outcome) values 0 (noted (private_at_stage private.worker private.begun stage) outcome)
still shape private values outcome stage same so = let P : Stage → Type 0 = λ s. FastForward shape (noted private outcome) values 0 (noted (private_at_stage private.worker private.begun s) outcome) in subst P (sym same) so

-- A slice to the end.
pub led_rest : (shape : Shape) (start : Private) (values : List ℕ) (i count : ℕ) (notes : List Note) (next : Private) → ValuesLeadTo shape start (take count (take (length values - i) (drop i values))) notes next
    → ValuesLeadTo shape start (take count (drop i values)) notes next
led_rest shape start values i count notes next so = let P : List ℕ → Type 0 = λ vs. ValuesLeadTo shape start (take count vs) notes next in subst P (take_rest values i) so

pub rest_within : (values : List ℕ) (i count : ℕ) → i ≤ length values → count ≤ length (take (length values - i) (drop i values)) → i + count ≤ length values
rest_within values i count within few =
    let P : List ℕ → Type 0 = λ vs. count ≤ length vs in
    let fewer : count ≤ length values - i = rw (sym (length-drop i values)) (subst P (take_rest values i) few) in
    omega (arith, within, fewer)

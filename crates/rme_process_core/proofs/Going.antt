-- What each step of a job leads to, where it finds what it should: a post, the way up and the way out.
use Rattle.std.proofs.Common.{◌≡◌, inl, inr, ℕ, ◌+◌, ◌-◌, ◌*◌, ◌/◌, ◌%◌, ◌<◌, ◌≤◌, ◌^◌, Bool, refl, sym, ap, subst, ◌∙◌, arith}
use Rattle.std.specs.Prelude.{if◌then◌else◌, ◌==◌, slice_index}
use Rattle.std.proofs.lemmas.Bool.{ne_eqb, eq-eqb, lt-ltb, le-ltb}
use Rattle.std.proofs.Common.{add-sub_cancel}
use Rattle.rme_words.specs.declared.shape.Shape.{Shape}
use Rattle.rme_words.specs.declared.address.Address.TheVariants.{Begun, SlateLock, SlateLen, SlateWord, Node, Turn}
use Rattle.rme_words.specs.Words.{word_number}
use Rattle.rme_tree.specs.Paths.{node, side}
use Rattle.rme_script.specs.declared.job.Job.{Job}
use Rattle.rme_script.specs.Slates.{slate_of}
use Rattle.rme_program.specs.declared.action.Action.{Action}
use Rattle.rme_program.specs.declared.action.Action.TheVariants.{Store}
use Rattle.rme_program.specs.declared.note.Note.{Note}
use Rattle.rme_program.specs.declared.note.Note.TheVariants.{Quiet, Asked, Ready, Left, Entered}
use Rattle.rme_program.specs.declared.private.Private.{Private}
use Rattle.rme_program.specs.declared.stage.Stage.{Stage}
use Rattle.rme_program.specs.declared.stage.Stage.TheVariants.{Resting, Posting, Climbing, Logging, Leaving}
use Rattle.rme_program.specs.declared.stage.Log.TheVariants.{LoadTurn}
use Rattle.rme_program.specs.declared.stage.Departure.TheVariants.{LoadExitTurn, StoreExitTurn, Clear}
use Rattle.rme_program.specs.Steps.{private_action, private_after, note_after, after_slate, clear_stage}
use Rattle.rme_process_core.specs.declared.flat.FlatAction.{FlatAction}
use Rattle.rme_process_core.specs.Flat.{flat_store, flat_swap, flat_expecting_load}
use Rattle.rme_process_core.specs.declared.flat.Batch.{Batch}
use Rattle.rme_process_core.specs.Batches.{ActionMatches, batch_actions}
use Rattle.rme_process_core.specs.Runs.{PredictsUpTo, private_at_stage, climbing_private}
use Rattle.rme_process_core.proofs.Telling.{Goes, Steps, Ends}

-- ---- a post

-- A worker that posts this job, with this number of its stores made.
abbrev pub posting : ℕ → ℕ → Job → ℕ → Private
posting worker begun job stored = private_at_stage worker begun (Posting record { job = job; stored = stored })

module _ (shape : Shape) (worker begun : ℕ) (job : Job) where
  posts_at : (at : ℕ) → at < 3 * job.script.n
      → private_action shape (posting worker begun job (at + 2)) ≡ Store (SlateWord worker (at / 3) (at % 3)) (slice_index (slate_of job.script.ops) at)
  posts_at at below =
      let back : at + 2 - 2 ≡ at = add-sub_cancel at 2 in
      let w : (k : ℕ) → Action = λ k. Store (SlateWord worker (k / 3) (k % 3)) (slice_index (slate_of job.script.ops) k) in
      rw (ne_eqb (at + 2) 0 (λ e. omega (arith, e)), ne_eqb (at + 2) 1 (λ e. omega (arith, e)), lt-ltb (at + 2) (2 + 3 * job.script.n) (omega (arith, below))) (ap w back)

  posts_begun : private_action shape (posting worker begun job (2 + 3 * job.script.n)) ≡ Store (Begun worker) (begun + 1)
  posts_begun =
      rw (ne_eqb (2 + 3 * job.script.n) 0 (λ e. omega (arith, e)), ne_eqb (2 + 3 * job.script.n) 1 (λ e. omega (arith, e)), le-ltb (2 + 3 * job.script.n) (2 + 3 * job.script.n) (omega arith)) refl

  -- Before the last store a post continues, without a note.
  post_goes : (stored value : ℕ) → stored < 2 + 3 * job.script.n → private_after shape (posting worker begun job stored) value ≡ posting worker begun job (stored + 1)
  post_goes stored value below = rw (ne_eqb stored (2 + 3 * job.script.n) (λ e. omega (arith, e, below))) refl

  post_quiet : (stored value : ℕ) → stored < 2 + 3 * job.script.n → note_after shape (posting worker begun job stored) value ≡ Quiet
  post_quiet stored value below =
      let P : Bool → Type 0 = λ b. let out : Stage × Note = if b then (Climbing record { lock = job.lock; held = 0 }, Asked (begun + 1)) else (Posting record { job = job; stored = stored + 1 }, Quiet) in out.1 ≡ Quiet in
      subst P (sym (ne_eqb stored (2 + 3 * job.script.n) (λ e. omega (arith, e, below)))) refl

  pub post_goes_on : (stored value : ℕ) → stored < 2 + 3 * job.script.n → Goes shape (posting worker begun job stored) value Quiet (λ p. p ≡ posting worker begun job (stored + 1))
  post_goes_on stored value below = record { takes = tt; says = post_quiet stored value below; next = post_goes stored value below }

  post_step : (stored : ℕ) (action : FlatAction) → stored < 2 + 3 * job.script.n → ActionMatches shape action (private_action shape (posting worker begun job stored))
      → Steps shape (posting worker begun job stored) action Quiet (λ p. p ≡ posting worker begun job (stored + 1))
  post_step stored action below does = record { busy = λ e. cc; does = does; goes = λ value goes. post_goes_on stored value below }

  pub post_lock : Steps shape (posting worker begun job 0) (flat_store (word_number shape (SlateLock worker)) job.lock) Quiet (λ p. p ≡ posting worker begun job 1)
  post_lock = post_step 0 _ (omega arith) refl

  pub post_length : Steps shape (posting worker begun job 1) (flat_store (word_number shape (SlateLen worker)) job.script.n) Quiet (λ p. p ≡ posting worker begun job 2)
  post_length = post_step 1 _ (omega arith) refl

  pub post_word : (at : ℕ) → at < 3 * job.script.n
      → Steps shape (posting worker begun job (at + 2)) (flat_store (word_number shape (SlateWord worker (at / 3) (at % 3))) (slice_index (slate_of job.script.ops) at)) Quiet (λ p. p ≡ posting worker begun job (at + 2 + 1))
  post_word at below =
      let action : FlatAction = flat_store (word_number shape (SlateWord worker (at / 3) (at % 3))) (slice_index (slate_of job.script.ops) at) in
      let P : Action → Type 0 = λ a. ActionMatches shape action a in
      post_step (at + 2) action (omega (arith, below)) (subst P (sym (posts_at at below)) refl)

  -- The last store of a post asks for the lock.
  pub post_asks : (value : ℕ) → Goes shape (posting worker begun job (2 + 3 * job.script.n)) value (Asked (begun + 1)) (λ p. p ≡ climbing_private worker (begun + 1) job.lock 0)
  post_asks value =
      let whole : ℕ = 2 + 3 * job.script.n in
      let P : Bool → Type 0 = λ b. let out : Stage × Note = if b then (Climbing record { lock = job.lock; held = 0 }, Asked (begun + 1)) else (Posting record { job = job; stored = 2 + 3 * job.script.n + 1 }, Quiet) in
      (out.1 ≡ Asked (begun + 1)) × (out.0 ≡ Climbing record { lock = job.lock; held = 0 }) in
      let both = subst P (sym (eq-eqb (2 + 3 * job.script.n) (2 + 3 * job.script.n) refl)) (refl, refl) in
      let B : Bool → Type 0 = λ b. (if b then begun + 1 else begun) ≡ begun + 1 in
      let number = subst B (sym (eq-eqb (2 + 3 * job.script.n) (2 + 3 * job.script.n) refl)) refl in
      record {
        takes = tt;
        says = both.0;
        next = ap (λ (n : ℕ). private_at_stage worker n (after_slate begun record { job = job; stored = 2 + 3 * job.script.n }).0) number ∙ ap (λ (s : Stage). private_at_stage worker (begun + 1) s) both.1;
      }

  pub post_begun : Steps shape (posting worker begun job (2 + 3 * job.script.n)) (flat_store (word_number shape (Begun worker)) (begun + 1)) (Asked (begun + 1)) (λ p. p ≡ climbing_private worker (begun + 1) job.lock 0)
  post_begun =
      let P : Action → Type 0 = λ a. ActionMatches shape (flat_store (word_number shape (Begun worker)) (begun + 1)) a in
      record { busy = λ e. cc; does = subst P (sym posts_begun) refl; goes = λ value goes. post_asks value }

-- ---- the way up

abbrev pub node_swap : Shape → ℕ → ℕ → ℕ → FlatAction
node_swap shape worker lock level = flat_swap (word_number shape (Node lock (node shape.leaves worker level))) (side shape.leaves worker level)

module _ (shape : Shape) (worker begun lock held : ℕ) where
  pub climb_goes_on : held + 1 < shape.height → Goes shape (climbing_private worker begun lock held) 0 Quiet (λ p. p ≡ climbing_private worker begun lock (held + 1))
  climb_goes_on below =
      let P : Bool → Type 0 = λ b. let out : Stage × Note = if b then (Logging (LoadTurn lock), Entered lock) else (Climbing record { lock = lock; held = held + 1 }, Quiet) in
      (out.1 ≡ Quiet) × (private_at_stage worker begun out.0 ≡ climbing_private worker begun lock (held + 1)) in
      let both = subst P (sym (ne_eqb (held + 1) shape.height (λ e. omega (arith, e, below)))) (refl, refl) in
      record { takes = tt; says = both.0; next = both.1 }

  pub climb_step : held + 1 < shape.height → Steps shape (climbing_private worker begun lock held) (node_swap shape worker lock (held + 1)) Quiet (λ p. p ≡ climbing_private worker begun lock (held + 1))
  climb_step below = record {
    busy = λ e. cc;
    does = (refl, refl);
    goes = λ value goes. let P : ℕ → Type 0 = λ v. Goes shape (climbing_private worker begun lock held) v Quiet (λ p. p ≡ climbing_private worker begun lock (held + 1)) in subst P (sym (goes.swapped refl)) (climb_goes_on below);
  }

  pub climb_enters : held + 1 ≡ shape.height → Goes shape (climbing_private worker begun lock held) 0 (Entered lock) (λ p. p ≡ private_at_stage worker begun (Logging (LoadTurn lock)))
  climb_enters whole =
      let P : Bool → Type 0 = λ b. let out : Stage × Note = if b then (Logging (LoadTurn lock), Entered lock) else (Climbing record { lock = lock; held = held + 1 }, Quiet) in
      (out.1 ≡ Entered lock) × (private_at_stage worker begun out.0 ≡ private_at_stage worker begun (Logging (LoadTurn lock))) in
      let both = subst P (sym (eq-eqb (held + 1) shape.height whole)) (refl, refl) in
      record { takes = tt; says = both.0; next = both.1 }

  pub climb_last : held + 1 ≡ shape.height → Steps shape (climbing_private worker begun lock held) (node_swap shape worker lock (held + 1)) (Entered lock) (λ p. p ≡ private_at_stage worker begun (Logging (LoadTurn lock)))
  climb_last whole = record {
    busy = λ e. cc;
    does = (refl, refl);
    goes = λ value goes. let P : ℕ → Type 0 = λ v. Goes shape (climbing_private worker begun lock held) v (Entered lock) (λ p. p ≡ private_at_stage worker begun (Logging (LoadTurn lock))) in subst P (sym (goes.swapped refl)) (climb_enters whole);
  }

-- ---- the way out

abbrev pub clearing : ℕ → ℕ → ℕ → ℕ → Private
clearing worker begun lock level = private_at_stage worker begun (Leaving (Clear lock level))

abbrev pub node_clear : Shape → ℕ → ℕ → ℕ → FlatAction
node_clear shape worker lock level = flat_store (word_number shape (Node lock (node shape.leaves worker level))) 0

module _ (shape : Shape) (worker begun lock : ℕ) where
  -- The turn is odd.
  pub turn_goes_on : (turn : ℕ) → turn < 2 ^ 32 → turn % 2 ≡ 1 → Goes shape (private_at_stage worker begun (Leaving (LoadExitTurn lock))) turn Quiet (λ p. p ≡ private_at_stage worker begun (Leaving (StoreExitTurn lock turn)))
  turn_goes_on turn small odd =
      let P : ℕ → Type 0 = λ r. private_at_stage worker begun (if r == 0 then Leaving (Clear lock shape.height) else Leaving (StoreExitTurn lock turn)) ≡ private_at_stage worker begun (Leaving (StoreExitTurn lock turn)) in
      record { takes = small; says = refl; next = subst P (sym odd) refl }

  pub turn_step : (turn : ℕ) → turn < 2 ^ 32 → turn % 2 ≡ 1
      → Steps shape (private_at_stage worker begun (Leaving (LoadExitTurn lock))) (flat_expecting_load (word_number shape (Turn lock)) turn) Quiet (λ p. p ≡ private_at_stage worker begun (Leaving (StoreExitTurn lock turn)))
  turn_step turn small odd = record {
    busy = λ e. cc;
    does = (inr (inl refl), refl);
    goes = λ value goes. let P : ℕ → Type 0 = λ v. Goes shape (private_at_stage worker begun (Leaving (LoadExitTurn lock))) v Quiet (λ p. p ≡ private_at_stage worker begun (Leaving (StoreExitTurn lock turn))) in
        subst P (sym (goes.expected refl)) (turn_goes_on turn small odd);
  }

  pub settle_goes_on : (turn value : ℕ) → Goes shape (private_at_stage worker begun (Leaving (StoreExitTurn lock turn))) value Quiet (λ p. p ≡ clearing worker begun lock shape.height)
  settle_goes_on turn value = record { takes = tt; says = refl; next = refl }

  pub settle_step : (turn : ℕ) → Steps shape (private_at_stage worker begun (Leaving (StoreExitTurn lock turn))) (flat_store (word_number shape (Turn lock)) (turn + 1)) Quiet (λ p. p ≡ clearing worker begun lock shape.height)
  settle_step turn = record { busy = λ e. cc; does = refl; goes = λ value goes. settle_goes_on turn value }

  pub clear_end : (level : ℕ) → Ends shape (clearing worker begun lock level) (node_clear shape worker lock level)
  clear_end level = record { busy = λ e. cc; does = refl }

  -- The root's node.
  pub root_goes : (value : ℕ) → Goes shape (clearing worker begun lock shape.height) value (Left lock) (λ p. p ≡ private_at_stage worker begun (clear_stage lock (shape.height - 1)))
  root_goes value =
      let N : Bool → Type 0 = λ b. (if b then Left lock else if shape.height == 1 then Ready else Quiet) ≡ Left lock in
      record { takes = tt; says = subst N (sym (eq-eqb shape.height shape.height refl)) refl; next = refl }

  pub root_step : Steps shape (clearing worker begun lock shape.height) (node_clear shape worker lock shape.height) (Left lock) (λ p. p ≡ private_at_stage worker begun (clear_stage lock (shape.height - 1)))
  root_step = record { busy = λ e. cc; does = refl; goes = λ value goes. root_goes value }

  -- Neither the root's node nor the lowest.
  pub clear_goes : (level value : ℕ) → level + 1 < shape.height → 1 ≤ level → Goes shape (clearing worker begun lock (level + 1)) value Quiet (λ p. p ≡ clearing worker begun lock level)
  clear_goes level value below some =
      let N : Bool → Type 0 = λ b. (if b then Left lock else if level + 1 == 1 then Ready else Quiet) ≡ Quiet in
      let M : Bool → Type 0 = λ b. (if b then Ready else Quiet) ≡ Quiet in
      let C : Bool → Type 0 = λ b. private_at_stage worker begun (if b then Resting else Leaving (Clear lock level)) ≡ clearing worker begun lock level in
      let back : level + 1 - 1 ≡ level = add-sub_cancel level 1 in
      let Q : ℕ → Type 0 = λ l. private_at_stage worker begun (clear_stage lock l) ≡ clearing worker begun lock level in
      record {
        takes = tt;
        says = subst N (sym (ne_eqb (level + 1) shape.height (λ e. omega (arith, e, below)))) (subst M (sym (ne_eqb (level + 1) 1 (λ e. omega (arith, e, some)))) refl);
        next = subst Q (sym back) (subst C (sym (ne_eqb level 0 (λ e. omega (arith, e, some)))) refl);
      }

  pub clear_step : (level : ℕ) → level + 1 < shape.height → 1 ≤ level → Steps shape (clearing worker begun lock (level + 1)) (node_clear shape worker lock (level + 1)) Quiet (λ p. p ≡ clearing worker begun lock level)
  clear_step level below some = record { busy = λ e. cc; does = refl; goes = λ value goes. clear_goes level value below some }

  -- The lowest node, where it is not the root's.
  pub lowest_goes : (value : ℕ) → 1 < shape.height → Goes shape (clearing worker begun lock 1) value Ready (λ p. p ≡ private_at_stage worker begun Resting)
  lowest_goes value some =
      let N : Bool → Type 0 = λ b. (if b then Left lock else Ready) ≡ Ready in
      record { takes = tt; says = subst N (sym (ne_eqb 1 shape.height (λ e. omega (arith, e, some)))) refl; next = refl }

-- ---- the loops

pub record TellsPost (shape : Shape) (until : ℕ) (private : Private) (job : Job) (at : ℕ) (batch : Batch) : Type 0 where
  pub leads : PredictsUpTo shape until private (batch_actions batch) (posting private.worker private.begun job (at + 2))
  pub count : batch.count ≡ at + 2

pub record TellsSwaps (shape : Shape) (until worker lock held level : ℕ) (before batch : Batch) : Type 0 where
  pub below : ℕ
  pub next : level ≡ below + 1
  pub leads : (start : Private) (begun : ℕ) → PredictsUpTo shape until start (batch_actions before) (climbing_private worker begun lock held) → PredictsUpTo shape until start (batch_actions batch) (climbing_private worker begun lock below)
  pub within : level ≤ shape.height
  pub few : batch.count + held + 1 ≡ before.count + level

pub record TellsClears (shape : Shape) (until worker lock level cleared : ℕ) (before batch : Batch) : Type 0 where
  pub rest : ℕ
  pub left : level ≡ cleared + rest
  pub some : 1 ≤ rest
  pub leads : (start : Private) (begun : ℕ) → PredictsUpTo shape until start (batch_actions before) (clearing worker begun lock level) → PredictsUpTo shape until start (batch_actions batch) (clearing worker begun lock rest)
  pub few : batch.count ≡ before.count + cleared

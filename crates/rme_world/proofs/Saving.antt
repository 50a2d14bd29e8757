-- Saved worlds: their entries fit the bytes of an image, the world of an image satisfies the invariant, and its
-- abstract state is that of the saved world after a crash of every worker.
use Rattle.std.proofs.Common.{◌≡◌, ℕ, zero, suc, ◌+◌, ◌*◌, ◌^◌, ◌<◌, ◌≤◌, Bool, true, false, List, [], ◌∷◌, ◌++◌, length, refl, sym, ◌∙◌, ap, subst, mul-le-mul, inl, arith}
use Rattle.std.specs.Prelude.{Option, Some, None, Result, Ok, Err, IfOk, map, slice_get}
use Rattle.std.specs.List.{All, range_with_len}
use Rattle.std.proofs.lemmas.Option.{none-some}
use Rattle.std.proofs.lemmas.List.Elements.{All-nil, All-cons, All-weaker}
use Rattle.std.proofs.lemmas.List.FromFn.{length-map-range_with_len}
use lib.ListN.{length-replicate}
use Rattle.rme_words.specs.declared.refusal.Refusal.{Refusal}
use Rattle.rme_words.specs.declared.refusal.Refusal.TheVariants.{BadImage}
use Rattle.rme_words.specs.declared.shape.Shape.{Shape}
use Rattle.rme_words.specs.declared.address.Address.{Address}
use Rattle.rme_words.specs.Words.{read_word_at}
use Rattle.rme_script.specs.declared.job.Job.{Job}
use Rattle.rme_script.specs.declared.op.Op.{Op}
use Rattle.rme_script.specs.declared.op.Op.TheVariants.{Get, Set, Add, Copy, Swap}
use Rattle.rme_script.specs.Scripts.{OpIsWithin}
use Rattle.rme_program.specs.declared.note.Entry.{Entry}
use Rattle.rme_program.specs.declared.private.Private.{Private}
use Rattle.rme_program.specs.declared.stage.Stage.{Stage}
use Rattle.rme_program.specs.declared.stage.Stage.TheVariants.{Resting, Recovering, Posting, Climbing, Logging, Copying, Leaving}
use Rattle.rme_core_image.specs.Images.{IsImageVersion, EntryFitsItsBytes, BytesEncodeImage}
use Rattle.rme_machine.specs.Clauses.{IsValidMemory}
use Rattle.rme_machine.specs.Histories.{IsLegalNextEntry, HistoryIsLegalAfter, last_entry_of_worker, withdrawn_numbers}
use Rattle.rme_machine.specs.Machine.{WorkerState, stance_after_crash}
use Rattle.rme_machine.specs.AbstractState.{Privates, last_entry_job, lock_owned_by_worker, abstract_worker, stance_outside, abstract_worker_by}
use Rattle.rme_machine.specs.Views.{WorkerWords, is_pending, worker_words}
use Rattle.rme_machine.proofs.Clauses.{fact_good, good_fact}
use Rattle.rme_machine.proofs.Historical.{entries_few}
use Rattle.rme_world.specs.declared.counts.Counts.{Counts}
use Rattle.rme_world.specs.Counting.{phase_count, max_phase_steps, no_counts}
use Rattle.rme_world.specs.Images.{IsValidImage, LoadContract, SaveContract, all_crashed, crashed_worker, restored_world}
use Rattle.rme_world.specs.WorldViews.{WorldView, private_if_up, world_memory, world_privates, world_abstract_state}
use Rattle.rme_world.specs.WorldInvariants.{WorldInvariant}
use Rattle.rme_world.proofs.Happening.{none_short, shown_long}
use Rattle.rme_world.proofs.Opened.{counts_at}
use Rattle.rme_world.proofs.Owing.{owed_few}

-- ---- the entries of a world fit their bytes

op_wider : (cells : ℕ) → cells ≤ 16 → (op : Op) → OpIsWithin cells op → OpIsWithin 256 op
op_wider cells few (Get c) within = omega (arith, few, within)
op_wider cells few (Set c v) within = omega (arith, few, within)
op_wider cells few (Add c v) within = omega (arith, few, within)
op_wider cells few (Copy a b) within = (omega (arith, few, within.0), omega (arith, few, within.1))
op_wider cells few (Swap a b) within = (omega (arith, few, within.0), omega (arith, few, within.1))

due_within : (shape : Shape) (earlier : List Entry) (e : Entry) → IsLegalNextEntry shape earlier e → EntryFitsItsBytes e
due_within shape earlier e due = record {
  worker = omega (arith, due.worker, shape.counted.limits.few_workers);
  lock = omega (arith, due.follows.job.lock, shape.counted.limits.few_locks);
  script = (let script = due.follows.job.script in record {
    few = script.few;
    counted = script.counted;
    within = All-weaker (OpIsWithin shape.cells) (OpIsWithin 256) (op_wider shape.cells (omega (arith, shape.counted.limits.few_cells))) e.script.ops script.within;
  });
}

legal_within : (shape : Shape) (earlier es : List Entry) → HistoryIsLegalAfter shape earlier es → All EntryFitsItsBytes es
legal_within shape earlier [] legal = All-nil EntryFitsItsBytes
legal_within shape earlier (e ∷ es) legal = All-cons EntryFitsItsBytes e es (due_within shape earlier e legal.0) (legal_within shape (earlier ++ e ∷ []) es legal.1)

pub history_within : (seen : WorldView) → WorldInvariant seen → All EntryFitsItsBytes seen.history
history_within seen kept = legal_within seen.shape [] seen.history kept.fact.legal

pub history_few : (seen : WorldView) → WorldInvariant seen → length seen.history < 2 ^ 32
history_few seen kept =
    let most : seen.shape.workers * seen.shape.jobs ≤ 256 * 1000000 = mul-le-mul seen.shape.counted.limits.few_workers seen.shape.counted.limits.few_jobs in
    omega (arith, most, entries_few seen.shape (world_memory seen) (world_privates seen) seen.history kept.fact)

-- ---- the world of an image

down_from : (low n worker : ℕ) → private_if_up (slice_get (map (λ (u : ℕ). None) (range_with_len low n)) worker) ≡ None
down_from low zero worker = refl
down_from low (suc n) zero = refl
down_from low (suc n) (suc worker) = down_from (low + 1) n worker

module _ (shape : Shape) (words : List ℕ) (history : List Entry) (room : ℕ) where
  abbrev pub restored : WorldView
  restored = restored_world shape words history room

  pub down : (worker : ℕ) → world_privates restored worker ≡ None
  down worker = down_from 0 shape.workers worker

  pub restored_kept : IsValidMemory shape (read_word_at shape words) history → shape.workers ≤ room → WorldInvariant restored
  restored_kept good roomy = record {
    all_privates = length-map-range_with_len (λ (worker : ℕ). None) 0 shape.workers;
    all_counts = length-replicate shape.workers no_counts;
    fact = good_fact shape (read_word_at shape words) (world_privates restored) history good (λ worker _. down worker);
    room = omega (arith, roomy, owed_few (world_abstract_state restored).workers, shown_long restored);
    stays = λ worker private within at. absurd (none-some private (sym (down worker) ∙ at));
    short = λ worker phase within. subst (λ (c : Counts). phase_count c phase ≤ max_phase_steps shape phase) (sym (counts_at shape.workers worker)) (none_short shape phase);
  }

-- ---- the result of `load`

-- The bytes encode nothing else.
abbrev pub SpellOnly : List ℕ → Shape → List ℕ → List Entry → Type 0
SpellOnly bytes shape words entries =
    (version : ℕ) (other : Shape) (others : List ℕ) (more : List Entry) → IsImageVersion version other → BytesEncodeImage version bytes other others more
    → (shape ≡ other) × (words ≡ others) × (entries ≡ more)

pub bad_image : (bytes : List ℕ) (shape : Shape) (words : List ℕ) (entries : List Entry) → SpellOnly bytes shape words entries → (IsValidMemory shape (read_word_at shape words) entries → ⊥)
    → LoadContract bytes (Err BadImage)
bad_image bytes shape words entries spell bad = record {
  found = tt;
  restored = tt;
  room = tt;
  only = λ _ _ _ _. tt;
  accepted = λ other others more good. (let same = spell good.0 other others more good.1 good.2 in
      absurd (bad (rw (same.0, same.1, same.2) good.3)));
  refused = inl refl;
}

pub good_image : (bytes : List ℕ) (version : ℕ) (shape : Shape) (words : List ℕ) (entries : List Entry) (room : ℕ) → IsImageVersion version shape → BytesEncodeImage version bytes shape words entries
    → SpellOnly bytes shape words entries → IsValidMemory shape (read_word_at shape words) entries → shape.workers ≤ room → LoadContract bytes (Ok (restored_world shape words entries room))
good_image bytes version shape words entries room is spells spell good roomy = record {
  found = (version, is, spells, good);
  restored = refl;
  room = (restored_kept shape words entries room good roomy).room;
  only = λ other others more good. (let same = spell good.0 other others more good.1 good.2 in rw (same.0, same.1, same.2) refl);
  accepted = λ _ _ _ _. tt;
  refused = tt;
}

-- ---- the round trip

outside_fallen : (stage : Stage) (private : Private) → private.stage ≡ stage → stance_outside None ≡ stance_after_crash (stance_outside (Some private))
outside_fallen Resting private e = rw e refl
outside_fallen (Recovering recovery) private e = rw e refl
outside_fallen (Posting slate) private e = rw e refl
outside_fallen (Climbing ascent) private e = rw e refl
outside_fallen (Logging log) private e = rw e refl
outside_fallen (Copying redo) private e = rw e refl
outside_fallen (Leaving departure) private e = rw e refl

worker_crashed : (owned : Option ℕ) (pending : Bool) (own : WorkerWords) (private : Option Private) (last : Job) (withdrawn : List ℕ) → is_pending own ≡ pending
    → abstract_worker_by owned own None last withdrawn ≡ crashed_worker (abstract_worker_by owned own private last withdrawn)
worker_crashed owned pending own None last withdrawn e = refl
worker_crashed (Some lock) true own (Some private) last withdrawn e = rw e refl
worker_crashed (Some lock) false own (Some private) last withdrawn e = rw e refl
worker_crashed None true own (Some private) last withdrawn e = rw e refl
worker_crashed None false own (Some private) last withdrawn e = rw (e, outside_fallen private.stage private refl) refl

shown_crashed : (shape : Shape) (memory : Address → ℕ) (privates : Privates) (history : List Entry) (down : Privates) (worker : ℕ) → down worker ≡ None
    → abstract_worker shape memory down history worker ≡ crashed_worker (abstract_worker shape memory privates history worker)
shown_crashed shape memory privates history down worker none =
    rw none
    (worker_crashed (lock_owned_by_worker shape memory worker) (is_pending (worker_words memory worker)) (worker_words memory worker) (privates worker) (last_entry_job (last_entry_of_worker history worker))
    (withdrawn_numbers history worker (worker_words memory worker).done) refl)

map_twice : {A B C : Type 0} (f : A → C) (g : A → B) (h : B → C) → ((x : A) → f x ≡ h (g x)) → (xs : List A) → map f xs ≡ map h (map g xs)
map_twice f g h same [] = refl
map_twice f g h same (x ∷ xs) = rw (same x, map_twice f g h same xs) refl

pub restored_shows : (seen : WorldView) (room : ℕ) → world_abstract_state (restored_world seen.shape seen.words seen.history room) ≡ all_crashed (world_abstract_state seen)
restored_shows seen room =
    ap (λ (workers : List WorkerState). record (world_abstract_state seen) { workers = workers })
    (map_twice (abstract_worker seen.shape (world_memory seen) (world_privates (restored_world seen.shape seen.words seen.history room)) seen.history)
    (abstract_worker seen.shape (world_memory seen) (world_privates seen) seen.history) crashed_worker
    (λ worker. shown_crashed seen.shape (world_memory seen) (world_privates seen) seen.history (world_privates (restored_world seen.shape seen.words seen.history room)) worker
    (down seen.shape seen.words seen.history room worker)) (range_with_len 0 seen.shape.workers))

-- ---- the result of `save`

returns_by : (seen : WorldView) (bytes : List ℕ) → IsValidImage bytes seen.shape seen.words seen.history → (result : Result WorldView Refusal) → LoadContract bytes result
    → IfOk result (λ world. world_abstract_state world ≡ all_crashed (world_abstract_state seen))
returns_by seen bytes good (Ok world) loaded = ap world_abstract_state (loaded.only seen.shape seen.words seen.history good) ∙ restored_shows seen world.room
returns_by seen bytes good (Err refusal) loaded = tt

pub saves : (seen : WorldView) (bytes : List ℕ) → WorldInvariant seen → BytesEncodeImage 2 bytes seen.shape seen.words seen.history → SaveContract seen bytes
saves seen bytes kept spells =
    let good : IsValidImage bytes seen.shape seen.words seen.history = (2, inl refl, spells, fact_good seen.shape (world_memory seen) (world_privates seen) seen.history kept.fact) in
    record {
      image = spells.spelled;
      good = good;
      returns = returns_by seen bytes good;
      accepted = λ result loaded. loaded.accepted seen.shape seen.words seen.history good;
    }

-- A property of an `Ok` value can be weakened.
pub if_ok : {A E : Type 0} {P Q : A → Type 0} (result : Result A E) → ((x : A) → P x → Q x) → IfOk result P → IfOk result Q
if_ok (Ok x) weaker is = weaker x is
if_ok (Err e) weaker is = tt

-- The slate of a waiting worker is the job that it posted last.
use Rattle.std.proofs.Common.{◌≡◌, ℕ, ◌+◌, ◌-◌, ◌*◌, ◌/◌, ◌%◌, ◌<◌, ◌≤◌, List, length, take, refl, sym, ◌∙◌, ap, subst, arith, get_or-take, length-take, min}
use Rattle.std.proofs.lemmas.List.{get_or_append_left, length-set, length-append, length-replicate}
use Rattle.std.specs.Prelude.{true, Some, slice_index, slice_set}
use Rattle.rme_words.specs.declared.shape.Shape.{Shape}
use Rattle.rme_words.specs.declared.address.Address.{Address}
use Rattle.rme_words.specs.declared.address.Address.TheVariants.{SlateLen, SlateWord}
use Rattle.rme_script.specs.declared.op.Op.{Op}
use Rattle.rme_script.specs.Programs.{Program}
use Rattle.rme_script.specs.Scripts.{IsScript}
use Rattle.rme_script.specs.Slates.{slate_of, script_from_words, ops_words}
use Rattle.rme_script.proofs.Slates.{script_slate, slate_back, same_script}
use Rattle.rme_script.proofs.Slating.{words_length}
use Rattle.rme_script.proofs.Weaker.{IsScript_slate}
use Rattle.rme_program.specs.declared.stage.Stage.{Stage}
use Rattle.rme_program.specs.declared.stage.Stage.TheVariants.{Resting, Recovering, Posting, Climbing, Logging, Copying, Leaving}
use Rattle.rme_machine.specs.Views.{WorkerWords, LockWords, worker_words, lock_words, is_pending, slate_job}
use Rattle.rme_machine.specs.Knowledge.{StageKnowledge}
use Rattle.rme_machine.proofs.Moves.{slate_read, slate_long}
use Rattle.rme_machine.proofs.Scripts.{posted, words_more}
use Rattle.rme_service_steps.specs.Layout.{position_of_address}
use Rattle.rme_service_steps.specs.declared.seat_record.Part.{Part}
use Rattle.rme_service_steps.specs.Parts.{draft_script}
use Rattle.rme_service_steps.specs.Rule.{table_memory}
use Rattle.rme_service_steps.specs.Steps.{PartWasInWorld, PartReadsWord}
use Rattle.rme_service_steps.specs.SeatViews.{ServiceId, SeatView}
use Rattle.rme_service_phases.specs.Sections.{has_unfinished_job}

pending_of : (s : Shape) (own : WorkerWords) (held : ℕ → ℕ) (locks : ℕ → LockWords) (b : ℕ) (stage : Stage) → has_unfinished_job stage ≡ true → StageKnowledge s own held locks b stage → is_pending own ≡ true
pending_of s own held locks b Resting waits knows = cc
pending_of s own held locks b (Recovering recovery) waits knows = cc
pending_of s own held locks b (Posting slate) waits knows = cc
pending_of s own held locks b (Climbing ascent) waits knows = knows.pending
pending_of s own held locks b (Logging log) waits knows = knows.0.pending
pending_of s own held locks b (Copying redo) waits knows = knows.0.pending
pending_of s own held locks b (Leaving departure) waits knows = cc

-- The words after those of the operations do not matter.
front_same : (words : List ℕ) (ops : List Op) (k i : ℕ) → take k words ≡ ops_words ops → k ≤ length words → i < k → slice_index words i ≡ slice_index (slate_of ops) i
front_same words ops k i same long below =
    let counted : length (ops_words ops) ≡ min k (length words) = ap length (sym same) ∙ length-take k words in
    let all : length (ops_words ops) ≡ k = omega (arith, counted, long) in
    sym (get_or-take k words i 0 below) ∙ ap (λ (xs : List ℕ). slice_index xs i) same ∙ sym (get_or_append_left (ops_words ops) _ 0 i (omega (arith, all, below)))

pub slate_of_long : (ops : List Op) → length ops ≤ 8 → length (slate_of ops) ≡ 24
slate_of_long ops few = length-append (ops_words ops) _ ∙ ap (λ (n : ℕ). length (ops_words ops) + n) (length-replicate (24 - 3 * length ops) 0) ∙ (let long = words_length ops in omega (arith, long, few))

-- What a waiting worker's slate says of the script of its draft.
pub record IsDrafted (s : Shape) (mem : Address → ℕ) (w : ℕ) (script : Program) : Type 0 where
  pub shaped : IsScript s.cells script
  pub counted : mem (SlateLen w) ≡ script.n
  pub words : (i : ℕ) → i < 3 * script.n → mem (SlateWord w (i / 3) (i % 3)) ≡ slice_index (slate_of script.ops) i

module _ (s : Shape) (p : Part) (stood : PartWasInWorld s p) (waits : has_unfinished_job p.private.stage ≡ true) where
  pending : is_pending (worker_words (table_memory s stood.words) p.worker) ≡ true
  pending =
      let fits = stood.world.fact.fits p.worker p.private stood.worker (ap (λ (q : Part). Some q.private) stood.here) in
      pending_of s _ _ (lock_words s (table_memory s stood.words)) p.private.begun p.private.stage waits fits.knows

  drafted : draft_script p.draft ≡ (slate_job (worker_words (table_memory s stood.words) p.worker)).script
  drafted = ap (λ (q : Part). draft_script q.draft) (sym stood.here) ∙ ap draft_script (stood.world.slates p.worker stood.worker pending)

  pub is_drafted : IsDrafted s (table_memory s stood.words) p.worker (draft_script p.draft)
  is_drafted =
      let its = posted s _ ((stood.world.fact.accounts p.worker stood.worker).slate pending) in
      let is : draft_script p.draft ≡ its.0 = drafted ∙ its.1.job in
      let words = script_slate _ _ its.0 its.1.slate in
      let P : Program → Type 0 = λ (q : Program). IsDrafted s (table_memory s stood.words) p.worker q in
      subst P (sym is) record {
        shaped = its.1.shaped;
        counted = sym its.1.counted;
        words = λ i below.
            slate_read (table_memory s stood.words) p.worker i (let few = its.1.shaped.few in omega (arith, few, below))
            ∙ front_same (worker_words (table_memory s stood.words) p.worker).slate its.0.ops (3 * its.0.n) i
            (ap (λ (n : ℕ). take (3 * n) (worker_words (table_memory s stood.words) p.worker).slate) its.1.counted ∙ words.first)
            (let few = its.1.shaped.few in let long = slate_long (table_memory s stood.words) p.worker in omega (arith, few, long)) below;
      }

-- The words read so far.
pub record LooksOver (start now : SeatView) (words : List ℕ) (k : ℕ) : Type 0 where
  pub same : now ≡ start
  pub long : length words ≡ 24
  pub read : take k words ≡ take k (slate_of (draft_script start.part.draft).ops)

module _ (start : SeatView) (operations : ℕ) (few : operations ≤ 8) (is : operations ≡ (draft_script start.part.draft).n) (waits : has_unfinished_job start.part.private.stage ≡ true) where
  pub looks_begin : (words : List ℕ) → length words ≡ 24 → LooksOver start start words 0
  looks_begin words long = record { same = refl; long = long; read = refl }

  module _ (s : Shape) (now : SeatView) (words : List ℕ) (k : ℕ) (state : LooksOver start now words k) (below : k < 3 * operations) where
    pub look_small : k / 3 < 8
    look_small = let k24 : k < 24 = omega (arith, few, below) in omega (arith, k24)

    pub look_more : (next : SeatView) (value : ℕ) (later : List ℕ) → next ≡ now → later ≡ slice_set words k value → PartReadsWord s now.part (SlateWord start.part.worker (k / 3) (k % 3)) value
        → LooksOver start next later (k + 1)
    look_more next value later same is_later sees =
        let P : SeatView → Type 0 = λ (x : SeatView). PartReadsWord s x.part (SlateWord start.part.worker (k / 3) (k % 3)) value in
        let seen : P start = subst P state.same sees in
        let drafted = is_drafted s start.part seen.at waits in
        let value_is : value ≡ slice_index (slate_of (draft_script start.part.draft).ops) k = seen.read ∙ drafted.words k (omega (arith, is, below)) in
        let counted = drafted.shaped.counted in
        let long : length (slate_of (draft_script start.part.draft).ops) ≡ 24 = slate_of_long (draft_script start.part.draft).ops (omega (arith, counted, is, few)) in
        let k24 : k < 24 = omega (arith, few, below) in
        record {
          same = same ∙ state.same;
          long = ap length is_later ∙ length-set words k value ∙ state.long;
          read = ap (take (k + 1)) is_later ∙ words_more words (slate_of (draft_script start.part.draft).ops) k value (omega (arith, k24, state.long)) (omega (arith, k24, long)) value_is state.read;
        }

-- The script that the words are.
pub drafted_script : (s : Shape) (mem : Address → ℕ) (w : ℕ) (p : Program) (words : List ℕ) → IsDrafted s mem w p → take (3 * p.n) words ≡ take (3 * p.n) (slate_of p.ops) → script_from_words p.n words ≡ Some p
drafted_script s mem w p words drafted same = same_script p.n words (slate_of p.ops) same ∙ slate_back p (IsScript_slate s p drafted.shaped)

-- A worker's word, by the numbers that the code has.
pub own_word : (kind : ℕ → Address) (shape s : Shape) (worker own number : ℕ) → shape ≡ s → worker ≡ own → number ≡ position_of_address shape (kind worker) → number ≡ position_of_address s (kind own)
own_word kind shape s worker own number same mine its = its ∙ ap (λ (x : Shape). position_of_address x (kind worker)) same ∙ ap (λ (w : ℕ). position_of_address s (kind w)) mine

pub seat_small : (ident service : ServiceId) (p : Part) → PartWasInWorld ident.shape p → ident ≡ service → p.worker < service.shape.workers
seat_small ident service p stood ours = subst (λ (x : ServiceId). p.worker < x.shape.workers) ours stood.worker

-- What the length that was looked at says.
module _ (s : Shape) (p : Part) (waits : has_unfinished_job p.private.stage ≡ true) (operations : ℕ) (sees : PartReadsWord s p (SlateLen p.worker) operations) where
  pub len_drafted : IsDrafted s (table_memory s sees.at.words) p.worker (draft_script p.draft)
  len_drafted = is_drafted s p sees.at waits

  pub len_is : operations ≡ (draft_script p.draft).n
  len_is = sees.read ∙ len_drafted.counted

  pub len_small : operations ≤ 8
  len_small = let few = len_drafted.shaped.few in omega (arith, few, len_is)

  pub len_script : (words : List ℕ) → take (3 * operations) words ≡ take (3 * operations) (slate_of (draft_script p.draft).ops) → script_from_words operations words ≡ Some (draft_script p.draft)
  len_script words same =
      let P : ℕ → Type 0 = λ (n : ℕ). take (3 * n) words ≡ take (3 * n) (slate_of (draft_script p.draft).ops) in
      ap (λ (n : ℕ). script_from_words n words) len_is ∙ drafted_script s _ p.worker (draft_script p.draft) words len_drafted (subst P len_is same)

-- A run of processes is a run of one world.
use Rattle.std.proofs.Common.{◌≡◌, ◌≢◌, ℕ, zero, suc, ◌+◌, ◌<◌, ◌≤◌, List, [], ◌∷◌, ◌++◌, length, take, refl, sym, ap, subst, ◌∙◌, inl, inr, arith}
use Rattle.std.specs.Prelude.{Option, Some, None, IfSome, map, slice_get}
use Rattle.std.specs.List.{range_with_len}
use Rattle.std.proofs.lemmas.Bool.{cases_eq}
use lib.ListN.{length-replicate}
use Rattle.rme_words.specs.declared.shape.Shape.{Shape}
use Rattle.rme_words.specs.Words.{read_word_at, word_count}
use Rattle.rme_program.specs.declared.event.Answer.{Answer}
use Rattle.rme_program.specs.declared.event.Event.{Event}
use Rattle.rme_program.specs.declared.event.Event.TheVariants.{Crash}
use Rattle.rme_program.specs.declared.private.Private.{Private}
use Rattle.rme_program.specs.Steps.{ready_private}
use Rattle.rme_machine.proofs.Lists.{made_get}
use Rattle.rme_world.specs.EventLists.{EventListContract}
use Rattle.rme_world.specs.Opening.{world_at_opening}
use Rattle.rme_world.specs.WorldInvariants.{WorldInvariant}
use Rattle.rme_world.specs.WorldViews.{WorldView, world_memory, world_privates}
use Rattle.rme_world.proofs.Headline.{all_run, tables_of}
use Rattle.rme_world.proofs.Opened.{opening_kept}
use Rattle.rme_world.proofs.Worlds.{kept_sound}
use Rattle.rme_process_core.specs.declared.worker.CoreWorker.{CoreWorker}
use Rattle.rme_process_core.specs.declared.flat.Batch.{Batch}
use Rattle.rme_process_core.specs.Calls.{AfterState, AbiAfterCall}
use Rattle.rme_process_core.specs.Folds.{ValuesAccepted, ValueDamaged, outcome_notes}
use Rattle.rme_process_core.specs.Processes.{Process, private_if_running}
use Rattle.rme_process_file.specs.Sound.{IsSound}
use Rattle.rme_process_file.proofs.Sounding.{sound_world}
use Rattle.rme_laws.specs.OneWorld.{AreAccepted, NoDamageLaw, OneWorldLaw, RunIsOfOneWorld, crash_of_all, SoundRunLaw}
use Rattle.rme_laws.specs.ProcessRuns.{FileState, IsNewFile, ProcessMove, ProcessRun, move_events, run_events}
use Rattle.rme_laws.proofs.Happenings.{Happens, crash_happens}
use Rattle.rme_laws.proofs.Moves.{IsProcess, MovesLead, ShowsFile, move_leads}
use Rattle.rme_process_core.proofs.Damage.{accepted_undamaged}

-- Events, and then others.
then_others : (old mid new : WorldView) (events others : List Event) (answers more : List Answer) → EventListContract old events answers mid → EventListContract mid others more new
    → EventListContract old (events ++ others) (answers ++ more) new
then_others old mid new [] others [] more one two = subst (λ (s : WorldView). EventListContract s others more new) one two
then_others old mid new (e ∷ events) others (a ∷ answers) more (next, first, rest) two = (next, first, then_others next mid new events others answers more rest two)
then_others old mid new [] others (a ∷ answers) more one two = absurd one
then_others old mid new (e ∷ events) others [] more one two = absurd one

then_accepted : (answers more : List Answer) → AreAccepted answers → AreAccepted more → AreAccepted (answers ++ more)
then_accepted [] more one two = two
then_accepted (a ∷ answers) more one two = (one.0, then_accepted answers more one.1 two)

-- All moves, one after another.
run_leads : (shape : Shape) (old new : FileState) (moves : List ProcessMove) (seen : WorldView) → ShowsFile shape old seen → ProcessRun shape old moves new → MovesLead shape seen (run_events moves) new (λ _. ⊥)
run_leads shape old new [] seen shows run = record {
  world = seen;
  answers = [];
  applies = refl;
  accepted = tt;
  shows = subst (λ (s : FileState). ShowsFile shape s seen) (sym run) shows;
  no_leave = λ who lock free. absurd free;
}
run_leads shape old new (move ∷ moves) seen shows (mid, first, others) =
    let one = move_leads shape old mid seen move shows first in
    let rest = run_leads shape mid new moves one.world one.shows others in
    record {
      world = rest.world;
      answers = one.answers ++ rest.answers;
      applies = then_others seen one.world rest.world (move_events move) (run_events moves) one.answers rest.answers one.applies rest.applies;
      accepted = then_accepted one.answers rest.answers one.accepted rest.accepted;
      shows = rest.shows;
      no_leave = λ who lock free. absurd free;
    }

-- ---- all workers crash

-- Workers from `first` on crash; the world keeps its shape and words.
record Fallen (shape : Shape) (seen : WorldView) (first count : ℕ) : Type 0 where
  world : WorldView
  answers : List Answer
  applies : EventListContract seen (map (λ (worker : ℕ). Crash worker) (range_with_len first count)) answers world
  accepted : AreAccepted answers
  kept : WorldInvariant world
  shaped : world.shape ≡ shape
  words : world.words ≡ seen.words
  down : (worker : ℕ) → first ≤ worker → worker < first + count → slice_get world.privates worker ≡ Some None
  before : (worker : ℕ) → worker < first → slice_get world.privates worker ≡ slice_get seen.privates worker

falls : (shape : Shape) (seen : WorldView) (first count : ℕ) → seen.shape ≡ shape → WorldInvariant seen
    → ((worker : ℕ) → first ≤ worker → worker < first + count → (private : Private) × (slice_get seen.privates worker ≡ Some (Some private))) → Fallen shape seen first count
falls shape seen first zero same kept up = record {
  world = seen;
  answers = [];
  applies = refl;
  accepted = tt;
  kept = kept;
  shaped = same;
  words = refl;
  down = λ worker from to. absurd (omega (arith, from, to));
  before = λ worker below. refl;
}
falls shape seen first (suc count) same kept up =
    let here = up first (omega arith) (omega arith) in
    let one : Happens seen (Crash first) first seen.words None = crash_happens seen first kept here.0 here.1 in
    let still : (worker : ℕ) → first + 1 ≤ worker → worker < first + 1 + count → (private : Private) × (slice_get one.new.privates worker ≡ Some (Some private))
    = λ worker from to. (let was = up worker (omega (arith, from)) (omega (arith, to)) in (was.0, one.off worker (λ e. absurd (omega (arith, from, e))) ∙ was.1)) in
    let rest : Fallen shape one.new (first + 1) count = falls shape one.new (first + 1) count (one.shape ∙ same) one.kept still in
    record {
      world = rest.world;
      answers = one.given ∷ rest.answers;
      applies = (one.new, one.listed, rest.applies);
      accepted = (one.accepted, rest.accepted);
      kept = rest.kept;
      shaped = rest.shaped;
      words = rest.words ∙ one.words_are;
      down = λ worker from to. elim (cases_eq worker first) [
        | inl at ↦ (let P : ℕ → Type 0 = λ u. slice_get rest.world.privates u ≡ Some None in subst P (sym at) (rest.before first (omega arith) ∙ one.at))
        | inr apart ↦ rest.down worker (omega (arith, from, apart)) (omega (arith, to))
      ];
      before = λ worker below. rest.before worker (omega (arith, below)) ∙ one.off worker (λ e. absurd (omega (arith, below, e)));
    }

-- A new file is the initial world after all workers have crashed.
module _ (shape : Shape) (old : FileState) (fresh : IsNewFile shape old) where
  opening : WorldInvariant (world_at_opening shape)
  opening = opening_kept shape 0

  all_up : (worker : ℕ) → 0 ≤ worker → worker < 0 + shape.workers → (private : Private) × (slice_get (world_at_opening shape).privates worker ≡ Some (Some private))
  all_up worker from to = (ready_private worker 0, made_get (λ (u : ℕ). Some (ready_private u 0)) shape.workers worker (omega (arith, to)))

  fallen : Fallen shape (world_at_opening shape) 0 shape.workers
  fallen = falls shape (world_at_opening shape) 0 shape.workers refl opening all_up

  begins : ShowsFile shape old fallen.world
  begins = record {
    kept = fallen.kept;
    file = record {
      shape_is = fallen.shaped;
      words_are = fallen.words ∙ sym fresh.zeros;
      privates_are = λ worker within. fallen.down worker (omega arith) (omega (arith, within)) ∙ ap (λ (p : Option Process). Some (private_if_running p)) (sym (fresh.nobody worker));
    };
    long = ap (λ (ws : List ℕ). length ws) fresh.zeros ∙ length-replicate (word_count shape) 0;
    processes = λ worker within. subst (λ (p : Option Process). IfSome p (IsProcess shape)) (sym (fresh.nobody worker)) tt;
  }

  module _ (new : FileState) (moves : List ProcessMove) (run : ProcessRun shape old moves new) where
    leads : MovesLead shape fallen.world (run_events moves) new (λ _. ⊥)
    leads = run_leads shape old new moves fallen.world begins run

    applies : EventListContract (world_at_opening shape) (crash_of_all shape ++ run_events moves) (fallen.answers ++ leads.answers) leads.world
    applies = then_others (world_at_opening shape) fallen.world leads.world (crash_of_all shape) (run_events moves) fallen.answers leads.answers fallen.applies leads.applies

    one_world : (one : RunIsOfOneWorld shape moves new) × ShowsFile shape new one.world
    one_world = (
      record {
        world = leads.world;
        run = record {
          answers = fallen.answers ++ leads.answers;
          applies = applies;
          accepted = then_accepted fallen.answers leads.answers fallen.accepted leads.accepted;
          refines = all_run (world_at_opening shape) leads.world (crash_of_all shape ++ run_events moves) (fallen.answers ++ leads.answers) (tables_of (world_at_opening shape) (kept_sound (world_at_opening shape) opening)) applies;
        };
        shows = leads.shows.file;
      },
      leads.shows,
    )

-- The file that a new one comes to is a world.
pub file_shows : (shape : Shape) (old new : FileState) (moves : List ProcessMove) → IsNewFile shape old → ProcessRun shape old moves new → (seen : WorldView) × ShowsFile shape new seen
file_shows shape old new moves fresh run = let there = leads shape old fresh new moves run in (there.world, there.shows)

pub one_world_law : OneWorldLaw
one_world_law shape old new moves fresh run = (one_world shape old fresh new moves run).0

-- The one world, and what the file shows of it.
pub world_shown : (shape : Shape) (old new : FileState) (moves : List ProcessMove) → IsNewFile shape old → ProcessRun shape old moves new → (one : RunIsOfOneWorld shape moves new) × ShowsFile shape new one.world
world_shown shape old new moves fresh run = one_world shape old fresh new moves run

-- ---- no damage

undamaged : (shape : Shape) (process : Process) (before after : AfterState) (batch : Batch) (count result : ℕ) → IsProcess shape process → before.worker ≡ process.worker → take count batch.values ≡ process.found
    → AbiAfterCall before batch count result after → result ≢ 100
undamaged shape process before after batch count result its own passes call bad =
    let damaged : ValueDamaged before.worker.shape before.worker.private (take count batch.values) (outcome_notes after.outcome) after.worker.private = call.damaged bad in
    let P : Shape → Type 0 = λ s. ValuesAccepted s process.worker.private process.found in
    let Q : CoreWorker → Type 0 = λ w. ValuesAccepted w.shape w.private process.found in
    let R : List ℕ → Type 0 = λ vs. ValuesAccepted before.worker.shape before.worker.private vs in
    accepted_undamaged before.worker.shape before.worker.private (take count batch.values) _ after.worker.private
    (subst R (sym passes) (subst Q (sym own) (subst P (sym its.shape_is) its.accepted))) damaged

pub no_damage_law : NoDamageLaw
no_damage_law shape old new moves worker process before after batch count result fresh run within is own passes call =
    let all = (file_shows shape old new moves fresh run).1.processes in
    undamaged shape process before after batch count result (subst (λ (p : Option Process). IfSome p (IsProcess shape)) is (all worker within)) own passes call

pub sound_run_law : SoundRunLaw
sound_run_law shape old new moves fresh run =
    let there = file_shows shape old new moves fresh run in
    let P : Shape → List ℕ → Type 0 = λ s ws. IsSound s (read_word_at s ws) in
    subst (P shape) there.1.file.words_are
    (subst (λ (s : Shape). P s there.0.words) there.1.file.shape_is (sound_world there.0.shape (world_memory there.0) (world_privates there.0) there.0.history there.1.kept.fact))

-- A move of a process is some events of the world, which it leaves as the file.
use Rattle.std.proofs.Common.{◌≡◌, ◌≢◌, ℕ, ◌<◌, List, [], ◌∷◌, length, refl, sym, ap, subst, ◌∙◌, inl, inr}
use Rattle.std.proofs.lemmas.Option.{same_Some}
use Rattle.std.specs.Prelude.{Option, Some, None, IfSome, slice_get}
use Rattle.std.proofs.lemmas.Bool.{cases_eq}
use Rattle.rme_words.specs.declared.shape.Shape.{Shape}
use Rattle.rme_words.specs.Words.{read_word_at, word_count}
use Rattle.rme_program.specs.declared.event.Answer.{Answer}
use Rattle.rme_program.specs.declared.event.Event.{Event}
use Rattle.rme_program.specs.declared.event.Event.TheVariants.{Crash, Restart, Step, Submit, Withdraw}
use Rattle.rme_program.specs.declared.kinds.Phase.TheVariants.{Recover}
use Rattle.rme_program.specs.Phases.{phase_of}
use Rattle.rme_program.specs.declared.private.Private.{Private}
use Rattle.rme_program.specs.ActionEffects.{ActionEffect}
use Rattle.rme_program.specs.Conditions.{IsPrivate, IsValidLoad}
use Rattle.rme_program.specs.Steps.{private_action, private_after}
use Rattle.rme_machine.proofs.Further.{fitting}
use Rattle.rme_world.specs.EventLists.{EventListContract}
use Rattle.rme_world.specs.WorldInvariants.{WorldInvariant}
use Rattle.rme_world.specs.WorldViews.{WorldView, world_memory, world_privates}
use Rattle.rme_world.proofs.Going as going
use Rattle.rme_world.proofs.Worlds.{up_at}
use Rattle.rme_process_core.specs.declared.flat.FlatAction.{FlatAction}
use Rattle.rme_process_core.specs.declared.worker.CoreWorker.{CoreWorker}
use Rattle.rme_process_core.specs.Batches.{Predicts}
use Rattle.rme_process_core.specs.Folds.{ValuesAccepted, private_after_values}
use Rattle.rme_process_core.specs.Processes.{IsFreshProcess, PrivateEvent, PrivateEvents, Process, private_if_running, process_private}
use Rattle.rme_laws.specs.OneWorld.{AreAccepted, FileIsWorld}
use Rattle.rme_laws.specs.ProcessRuns.{CallIsMade, FileState, MoveIsMade, OperationIsMade, ProcessMove, Call, Operate, move_events}
use Rattle.rme_laws.proofs.Actions.{action_within, operation_effect, operation_length}
use Rattle.rme_laws.proofs.Happenings.{Happens, event_happens, step_happens}
use Rattle.rme_laws.specs.InsideRuns.{MoveOnlyRecovers}
use Rattle.rme_laws.proofs.Leaving.{NoneLeaves, OnlyRecovers}
use Rattle.rme_laws.proofs.Values.{accepted_one_more, after_one_more, none_made}

-- A process of the shape. The actions that are left of its batch are those of the worker's next own steps, and all values
-- that it found are accepted.
pub record IsProcess (shape : Shape) (process : Process) : Type 0 where
  pub shape_is : process.worker.shape ≡ shape
  pub until : ℕ
  pub foretells : Predicts shape until (process_private process) process.left
  pub accepted : ValuesAccepted shape process.worker.private process.found

-- The file is a world, and its processes are as their calls have left them.
pub record ShowsFile (shape : Shape) (state : FileState) (seen : WorldView) : Type 0 where
  pub kept : WorldInvariant seen
  pub file : FileIsWorld shape state seen
  pub long : length state.words ≡ word_count shape
  pub processes : (worker : ℕ) → worker < shape.workers → IfSome (state.processes worker) (IsProcess shape)

-- Events lead from a world to one that the file is. A worker for which `Free` holds leaves no lock by them.
pub record MovesLead (shape : Shape) (seen : WorldView) (events : List Event) (state : FileState) (Free : ℕ → Type 0) : Type 0 where
  pub world : WorldView
  pub answers : List Answer
  pub applies : EventListContract seen events answers world
  pub accepted : AreAccepted answers
  pub shows : ShowsFile shape state world
  pub no_leave : (who lock : ℕ) → Free who → NoneLeaves who lock events answers

-- ---- the events of a call

-- Events of one worker, which touch no word.
record Reaches (seen : WorldView) (worker : ℕ) (events : List Event) (private : Option Private) : Type 0 where
  world : WorldView
  answers : List Answer
  applies : EventListContract seen events answers world
  accepted : AreAccepted answers
  kept : WorldInvariant world
  shape : world.shape ≡ seen.shape
  words : world.words ≡ seen.words
  at : slice_get world.privates worker ≡ Some private
  off : (other : ℕ) → other ≢ worker → slice_get world.privates other ≡ slice_get seen.privates other
  no_leave : (who lock : ℕ) → NoneLeaves who lock events answers

-- An event of a call is no step.
free_event : (shape : Shape) (seen : WorldView) (who worker : ℕ) (its : Event) (old new : Option Private) → PrivateEvent shape worker its old new → OnlyRecovers seen who its
free_event shape seen who worker (Submit of job) old new may = tt
free_event shape seen who worker (Step of) None new may = absurd may
free_event shape seen who worker (Step of) (Some private) new may = absurd may
free_event shape seen who worker (Crash of) old new may = tt
free_event shape seen who worker (Restart of) old new may = tt
free_event shape seen who worker (Withdraw of) old new may = tt

reach : (shape : Shape) (seen : WorldView) (worker : ℕ) (events : List Event) (old new : Option Private) → seen.shape ≡ shape → WorldInvariant seen → slice_get seen.privates worker ≡ Some old
    → PrivateEvents shape worker events old new → Reaches seen worker events new
reach shape seen worker [] old new same kept found makes = record {
  world = seen;
  answers = [];
  applies = refl;
  accepted = tt;
  kept = kept;
  shape = refl;
  words = refl;
  at = found ∙ ap (λ (p : Option Private). Some p) (sym makes);
  off = λ other apart. refl;
  no_leave = λ who lock. tt;
}
reach shape seen worker (event ∷ events) old new same kept found (mid, first, others) =
    let one : Happens seen event worker seen.words mid = event_happens seen worker kept event old mid found (subst (λ (s : Shape). PrivateEvent s worker event old mid) (sym same) first) in
    let rest : Reaches one.new worker events new = reach shape one.new worker events mid new (one.shape ∙ same) one.kept one.at others in
    record {
      world = rest.world;
      answers = one.given ∷ rest.answers;
      applies = (one.new, one.listed, rest.applies);
      accepted = (one.accepted, rest.accepted);
      kept = rest.kept;
      shape = rest.shape ∙ one.shape;
      words = rest.words ∙ one.words_are;
      at = rest.at;
      off = λ other apart. rest.off other apart ∙ one.off other apart;
      no_leave = λ who lock. (one.no_leave who lock (free_event shape seen who worker event old mid first), rest.no_leave who lock);
    }

-- ---- the file after a move

module _ (shape : Shape) (old new : FileState) (seen world : WorldView) (worker : ℕ) (shows : ShowsFile shape old seen) where
  -- A world in which only one worker knows something else shows the file in which only that worker's process changed.
  changed : world.shape ≡ seen.shape → world.words ≡ new.words → slice_get world.privates worker ≡ Some (private_if_running (new.processes worker))
      → ((other : ℕ) → other ≢ worker → slice_get world.privates other ≡ slice_get seen.privates other)
      → ((other : ℕ) → other ≢ worker → new.processes other ≡ old.processes other) → FileIsWorld shape new world
  changed shaped words at off others = record { shape_is = shaped ∙ shows.file.shape_is; words_are = words; privates_are = privates }
    where
      privates : (other : ℕ) → other < shape.workers → slice_get world.privates other ≡ Some (private_if_running (new.processes other))
      privates other within = elim (cases_eq other worker) [
        | inl same ↦ (let P : ℕ → Type 0 = λ u. slice_get world.privates u ≡ Some (private_if_running (new.processes u)) in subst P (sym same) at)
        | inr apart ↦ off other apart ∙ shows.file.privates_are other within ∙ ap (λ (p : Option Process). Some (private_if_running p)) (sym (others other apart))
      ]

  processes_changed : IfSome (new.processes worker) (IsProcess shape) → ((other : ℕ) → other ≢ worker → new.processes other ≡ old.processes other)
      → (other : ℕ) → other < shape.workers → IfSome (new.processes other) (IsProcess shape)
  processes_changed its others other within = elim (cases_eq other worker) [
    | inl same ↦ (let P : ℕ → Type 0 = λ u. IfSome (new.processes u) (IsProcess shape) in subst P (sym same) its)
    | inr apart ↦ (let P : Option Process → Type 0 = λ p. IfSome p (IsProcess shape) in subst P (sym (others other apart)) (shows.processes other within))
  ]

-- A process that has made nothing of its batch.
fresh_is_process : (shape : Shape) (process : Process) → IsFreshProcess shape process → IsProcess shape process
fresh_is_process shape process fresh =
    let P : List ℕ → Type 0 = λ found. Predicts shape fresh.until (private_after_values process.worker.shape process.worker.private found) process.left in
    let Q : List ℕ → Type 0 = λ found. ValuesAccepted shape process.worker.private found in
    record {
      shape_is = fresh.shape_is;
      until = fresh.until;
      foretells = subst P (sym fresh.none_found) (rw (none_made process.worker.shape process.worker.private) fresh.foretells);
      accepted = subst Q (sym fresh.none_found) tt;
    }

fresh_if_some : (shape : Shape) (process : Option Process) → IfSome process (IsFreshProcess shape) → IfSome process (IsProcess shape)
fresh_if_some shape None fresh = tt
fresh_if_some shape (Some process) fresh = fresh_is_process shape process fresh

call_leads : (shape : Shape) (old new : FileState) (seen : WorldView) (worker : ℕ) (events : List Event) → ShowsFile shape old seen → CallIsMade shape worker events old new → MovesLead shape seen events new (λ _. Unit {0})
call_leads shape old new seen worker events shows made =
    let its : Reaches seen worker events (private_if_running (new.processes worker)) = reach shape seen worker events _ _ shows.file.shape_is shows.kept (shows.file.privates_are worker made.within) made.call.makes in
    record {
      world = its.world;
      answers = its.answers;
      applies = its.applies;
      accepted = its.accepted;
      shows = record {
        kept = its.kept;
        file = changed shape old new seen its.world worker shows its.shape (its.words ∙ shows.file.words_are ∙ sym made.words) its.at its.off made.others;
        long = ap (λ (ws : List ℕ). length ws) made.words ∙ shows.long;
        processes = processes_changed shape old new seen its.world worker shows (fresh_if_some shape (new.processes worker) made.call.fresh) made.others;
      };
      no_leave = λ who lock free. its.no_leave who lock;
    }

-- ---- an operation

module _ (shape : Shape) (old new : FileState) (seen : WorldView) (worker : ℕ) (shows : ShowsFile shape old seen) (made : OperationIsMade shape worker old new) where
  abbrev process : Process
  process = made.process

  abbrev here : Private
  here = process_private made.process

  abbrev value : ℕ
  value = made.operation.value

  found : slice_get seen.privates worker ≡ Some (Some here)
  found = shows.file.privates_are worker made.within ∙ ap (λ (p : Option Process). Some (private_if_running p)) made.is

  its : IsProcess shape process
  its = subst (λ (p : Option Process). IfSome p (IsProcess shape)) made.is (shows.processes worker made.within)

  predicted : Predicts shape its.until here (made.operation.action ∷ made.operation.rest)
  predicted = subst (λ (l : List FlatAction). Predicts shape its.until here l) made.operation.next its.foretells

  fits : IsPrivate shape here
  fits =
      let P : Shape → Type 0 = λ s. IsPrivate s here in
      subst P shows.file.shape_is
      (fitting seen.shape (world_memory seen) (world_privates seen) seen.history worker here shows.kept.fact (subst (λ (s : Shape). worker < s.workers) (sym shows.file.shape_is) made.within) (up_at seen worker (Some here) found)).1

  effect : ActionEffect (read_word_at shape old.words) (read_word_at shape new.words) (private_action shape here) value
  effect =
      operation_effect shape old.words new.words made.operation.action value shows.long made.operation.did (private_action shape here) (action_within shape here fits predicted.0) predicted.1

  -- The same in the world.
  in_world : ActionEffect (world_memory seen) (read_word_at seen.shape new.words) (private_action seen.shape here) value
  in_world =
      let P : Shape → List ℕ → Type 0 = λ s ws. ActionEffect (read_word_at s ws) (read_word_at s new.words) (private_action s here) value in
      subst (λ (s : Shape). P s seen.words) (sym shows.file.shape_is) (subst (P shape) (sym shows.file.words_are) effect)

  happens : Happens seen (Step worker) worker new.words (Some (private_after seen.shape here value))
  happens = step_happens seen worker shows.kept here found predicted.0 new.words value in_world

  valid : IsValidLoad shape here.stage value
  valid =
      let P : Shape → Type 0 = λ s. IsValidLoad s here.stage value in
      subst P shows.file.shape_is (going.takes seen worker here shows.kept found predicted.0 seen.shape refl new.words (private_action seen.shape here) value seen.shape refl refl in_world)

  next_private : process_private made.next ≡ private_after shape here value
  next_private =
      let P : CoreWorker → Type 0 = λ w. private_after_values w.shape w.private made.next.found ≡ private_after shape here value in
      subst P (sym made.operation.worker)
      (ap (private_after_values process.worker.shape process.worker.private) made.operation.noted ∙ after_one_more process.worker.shape process.worker.private process.found value
      ∙ ap (λ (s : Shape). private_after s here value) its.shape_is)

  next_foretells : Predicts shape its.until (process_private made.next) made.next.left
  next_foretells =
      let P : Private → Type 0 = λ p. Predicts shape its.until p made.next.left in
      let Q : List FlatAction → Type 0 = λ l. Predicts shape its.until (private_after shape here value) l in
      subst P (sym next_private) (elim made.operation.goes_on [
        | inl on ↦ subst Q (sym on.1) (predicted.2 value on.0).1
        | inr ends ↦ subst Q (sym ends) tt
      ])

  next_accepted : ValuesAccepted shape made.next.worker.private made.next.found
  next_accepted =
      let P : CoreWorker → Type 0 = λ w. ValuesAccepted shape w.private made.next.found in
      let Q : List ℕ → Type 0 = λ vs. ValuesAccepted shape process.worker.private vs in
      let R : Shape → Type 0 = λ s. IsValidLoad shape (private_after_values s process.worker.private process.found).stage value in
      subst P (sym made.operation.worker) (subst Q (sym made.operation.noted) (accepted_one_more shape process.worker.private process.found value its.accepted (subst R its.shape_is valid)))

  next_is : IsProcess shape made.next
  next_is = record {
    shape_is = ap (λ (w : CoreWorker). w.shape) made.operation.worker ∙ its.shape_is;
    until = its.until;
    foretells = next_foretells;
    accepted = next_accepted;
  }

  -- The world's worker recovers if its process does.
  recovering : (who : ℕ) → MoveOnlyRecovers who (Operate worker) old → OnlyRecovers seen who (Step worker)
  recovering who recovers own private is =
      let same : here ≡ private = same_Some _ _ (same_Some _ _ (sym found ∙ is)) in
      subst (λ (p : Private). phase_of p.stage ≡ Recover) same (recovers own process made.is)

  operation_leads : MovesLead shape seen (Step worker ∷ []) new (λ who. MoveOnlyRecovers who (Operate worker) old)
  operation_leads =
      let there : Some (private_after seen.shape here value) ≡ private_if_running (new.processes worker)
      = ap (λ (s : Shape). Some (private_after s here value)) shows.file.shape_is ∙ ap (λ (p : Private). Some p) (sym next_private) ∙ ap private_if_running (sym made.becomes) in
      record {
        world = happens.new;
        answers = happens.given ∷ [];
        applies = (happens.new, happens.listed, refl);
        accepted = (happens.accepted, tt);
        shows = record {
          kept = happens.kept;
          file = changed shape old new seen happens.new worker shows happens.shape happens.words_are (happens.at ∙ ap (λ (p : Option Private). Some p) there) happens.off made.others;
          long = operation_length shape old.words new.words made.operation.action value shows.long made.operation.did (private_action shape here) predicted.1;
          processes = processes_changed shape old new seen happens.new worker shows (subst (λ (p : Option Process). IfSome p (IsProcess shape)) (sym made.becomes) next_is) made.others;
        };
        no_leave = λ who lock recovers. (happens.no_leave who lock (recovering who recovers), tt);
      }

pub move_leads : (shape : Shape) (old new : FileState) (seen : WorldView) (move : ProcessMove) → ShowsFile shape old seen → MoveIsMade shape move old new → MovesLead shape seen (move_events move) new (λ who. MoveOnlyRecovers who move old)
move_leads shape old new seen (Call worker events) shows made = call_leads shape old new seen worker events shows made
move_leads shape old new seen (Operate worker) shows made = operation_leads shape old new seen worker shows made

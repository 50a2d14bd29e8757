-- Each event that may come is an event of the world, which it changes as it should.
use Rattle.std.proofs.Common.{◌≡◌, ◌≢◌, ℕ, ◌+◌, ◌-◌, ◌<◌, ◌≤◌, List, length, refl, sym, subst, ◌∙◌, inl, inr, arith}
use Rattle.std.proofs.lemmas.Option.{same_Some}
use Rattle.std.specs.Prelude.{Option, Some, None, Ok, slice_get, slice_set}
use Rattle.std.proofs.lemmas.Bool.{lt-ltb}
use Rattle.rme_words.specs.declared.refusal.Refusal.{Refusal}
use Rattle.rme_words.specs.Words.{read_word_at}
use Rattle.rme_script.specs.declared.job.Job.{Job}
use Rattle.rme_script.specs.Jobs.{IsJob}
use Rattle.rme_script.proofs.Weaker.{script_checks}
use Rattle.rme_program.specs.declared.event.Event.{Event}
use Rattle.rme_program.specs.declared.event.Event.TheVariants as event
use Rattle.rme_program.specs.declared.event.Answer.{Answer}
use Rattle.rme_program.specs.declared.event.Answer.TheVariants as answer
use Rattle.rme_program.specs.declared.kinds.Phase.{Phase}
use Rattle.rme_program.specs.declared.kinds.Phase.TheVariants as phase
use Rattle.rme_program.specs.declared.note.Entry.{Entry}
use Rattle.rme_program.specs.declared.note.Note.{Note}
use Rattle.rme_program.specs.declared.note.Note.TheVariants.{Quiet, Asked, Blocked, Entered, Reentered, Finished, Left, Ready, Withdrew}
use Rattle.rme_program.specs.declared.note.Receipt.{Receipt}
use Rattle.rme_program.specs.declared.private.Private.{Private}
use Rattle.rme_program.specs.declared.stage.Ascent.{Ascent}
use Rattle.rme_program.specs.declared.stage.Stage.TheVariants.{Resting, Climbing}
use Rattle.rme_program.specs.ActionEffects.{ActionEffect}
use Rattle.rme_program.specs.Phases.{phase_of}
use Rattle.rme_program.specs.Steps.{private_action, private_after, note_after, restarted_private, submitted_private, withdrawing_private}
use Rattle.rme_program.proofs.NoteLaws.{cases_phase, note_law}
use Rattle.rme_machine.specs.declared.label.Act.TheVariants as act
use Rattle.rme_machine.specs.AbstractState.{act_of_note}
use Rattle.rme_machine.specs.Changes.{history_after}
use Rattle.rme_machine.proofs.Lists.{get_set, get_set_other}
use Rattle.rme_world.specs.declared.counts.Counts.{Counts}
use Rattle.rme_world.specs.Calls.{SubmitContract, StepContract, CrashContract, RestartContract, WithdrawContract}
use Rattle.rme_world.specs.Counting.{CountsAfterStep, with_stay_begun, with_step_counted, no_counts}
use Rattle.rme_world.specs.EventLists.{ListedEventContract}
use Rattle.rme_world.specs.Events.{SubmitChange, StepChange, CrashChange, RestartChange, WithdrawChange, world_with_private}
use Rattle.rme_world.specs.Refusals.{submit_refusal}
use Rattle.rme_world.specs.WorldInvariants.{WorldInvariant}
use Rattle.rme_world.specs.WorldViews.{WorldView, world_memory, worker_counts}
use Rattle.rme_world.proofs.Calls.{submit_run, step_run, crash_run, restart_run, withdraw_run, crashes_by, restarts_by, withdraws_by, submit_begins, restart_begins, withdraw_begins, withdraw_bounds, roomy_kept, roomy_submits}
use Rattle.rme_world.proofs.Going.{roomy, stepped}
use Rattle.rme_world.proofs.Happening.{crash_kept, restart_kept, withdraw_kept}
use Rattle.rme_world.proofs.Looking.{owns_in_section}
use Rattle.rme_world.proofs.Owing.{finished_by, history_longer}
use Rattle.rme_world.proofs.Returns.{comes_back, gives_up}
use Rattle.rme_world.proofs.Telling.{stands, stopped, comes_on, keeps_bound, posts, reenters, finishes}
use Rattle.rme_world.proofs.Worlds.{is_worker, step_kept}
use Rattle.rme_process_core.specs.Processes.{PrivateEvent}
use Rattle.rme_laws.proofs.Leaving.{IsNoLeave, OnlyRecovers, no_leave_by, other_act, same_act, same_who}

-- The event is accepted; the worker then has this private state, the words are these, and nothing else that a worker
-- knows has changed.
pub record Happens (seen : WorldView) (its : Event) (worker : ℕ) (words : List ℕ) (private : Option Private) : Type 0 where
  pub new : WorldView
  pub given : Answer
  pub listed : ListedEventContract seen its given new
  pub accepted : (refusal : Refusal) → given ≢ answer.Refused refusal
  pub kept : WorldInvariant new
  pub shape : new.shape ≡ seen.shape
  pub words_are : new.words ≡ words
  pub at : slice_get new.privates worker ≡ Some private
  pub off : (other : ℕ) → other ≢ worker → slice_get new.privates other ≡ slice_get seen.privates other
  pub no_leave : (who lock : ℕ) → OnlyRecovers seen who its → IsNoLeave who lock its given

module _ (seen : WorldView) (worker : ℕ) (kept : WorldInvariant seen) where
  within_list : (private : Option Private) → slice_get seen.privates worker ≡ Some private → worker < length seen.privates
  within_list private found = let below = is_worker seen worker private kept.all_privates found in omega (arith, below, kept.all_privates)

  pub crash_happens : (private : Private) → slice_get seen.privates worker ≡ Some (Some private) → Happens seen (event.Crash worker) worker seen.words None
  crash_happens private found =
      let new : WorldView = world_with_private seen worker None (worker_counts seen worker) in
      let crashes : CrashChange seen worker new = crashes_by seen new worker private _ found refl refl in
      let call : CrashContract seen worker (Ok tt) new = record { accepted = crashes; refused = tt; unchanged = tt; headline = crash_run seen new worker kept crashes } in
      record {
        new = new;
        given = answer.Crashed;
        listed = record { call = (Ok tt, refl, call); memory = λ q. cc };
        accepted = λ refusal q. cc;
        kept = crash_kept seen worker kept private found;
        shape = refl;
        words_are = refl;
        at = get_set seen.privates worker None (within_list (Some private) found);
        off = λ other apart. get_set_other seen.privates worker other None apart;
        no_leave = λ who lock free label is. other_act worker who lock act.Crash label (λ q. cc) is;
      }

  restart_happens : slice_get seen.privates worker ≡ Some None → Happens seen (event.Restart worker) worker seen.words (Some (restarted_private worker))
  restart_happens found =
      let new : WorldView = world_with_private seen worker (Some (restarted_private worker)) no_counts in
      let restarts : RestartChange seen worker new = restarts_by seen new worker found refl in
      let call : RestartContract seen worker (Ok tt) new = record { accepted = restarts; refused = tt; unchanged = tt; headline = restart_run seen new worker kept restarts; begins = restart_begins seen new worker kept restarts } in
      record {
        new = new;
        given = answer.Restarted;
        listed = record { call = (Ok tt, refl, call); memory = λ q. cc };
        accepted = λ refusal q. cc;
        kept = restart_kept seen worker kept found;
        shape = refl;
        words_are = refl;
        at = get_set seen.privates worker (Some (restarted_private worker)) (within_list None found);
        off = λ other apart. get_set_other seen.privates worker other (Some (restarted_private worker)) apart;
        no_leave = λ who lock free label is. other_act worker who lock act.Restart label (λ q. cc) is;
      }

  withdraw_happens : (private : Private) (ascent : Ascent) → slice_get seen.privates worker ≡ Some (Some private) → private.stage ≡ Climbing ascent
      → Happens seen (event.Withdraw worker) worker seen.words (Some (withdrawing_private private))
  withdraw_happens private ascent found climbs =
      let new : WorldView = world_with_private seen worker (Some (withdrawing_private private)) (with_stay_begun (worker_counts seen worker) phase.Exit) in
      let withdraws : WithdrawChange seen worker new = withdraws_by seen new worker private ascent found climbs refl in
      let call : WithdrawContract seen worker (Ok tt) new = record {
        accepted = withdraws;
        refused = tt;
        unchanged = tt;
        headline = withdraw_run seen new worker kept withdraws;
        begins = withdraw_begins seen new worker kept withdraws;
        bound = withdraw_bounds seen new worker kept withdraws;
      } in
      record {
        new = new;
        given = answer.Withdrawing;
        listed = record { call = (Ok tt, refl, call); memory = λ q. cc };
        accepted = λ refusal q. cc;
        kept = withdraw_kept seen worker kept private ascent found climbs;
        shape = refl;
        words_are = refl;
        at = get_set seen.privates worker (Some (withdrawing_private private)) (within_list (Some private) found);
        off = λ other apart. get_set_other seen.privates worker other (Some (withdrawing_private private)) apart;
        no_leave = λ who lock free label is. other_act worker who lock act.Wait label (λ q. cc) is;
      }

  module _ (job : Job) (private : Private) (found : slice_get seen.privates worker ≡ Some (Some private)) (rests : private.stage ≡ Resting) (few : private.begun < seen.shape.jobs) (is : IsJob seen.shape job) where
    may_submit : submit_refusal seen worker job ≡ None
    may_submit = rw (found, rests, lt-ltb _ _ is.lock, script_checks seen.shape.cells job.script is.script, lt-ltb _ _ few) refl

    -- With room for another entry of each worker.
    abbrev roomier : WorldView
    roomier = record seen { room = seen.room + seen.shape.workers }

    roomier_kept : WorldInvariant roomier
    roomier_kept = record {
      all_privates = kept.all_privates;
      all_counts = kept.all_counts;
      fact = kept.fact;
      room = omega (arith, kept.room);
      stays = kept.stays;
      short = kept.short;
    }

    submit_happens : Happens seen (event.Submit worker job) worker seen.words (Some (submitted_private private job))
    submit_happens =
        let new : WorldView = world_with_private roomier worker (Some (submitted_private private job)) (with_stay_begun (worker_counts roomier worker) phase.Post) in
        let submits : SubmitChange seen worker job (private.begun + 1) new = roomy_submits seen roomier worker job private refl found is new (private.begun + 1) (omega arith) may_submit refl refl in
        let sound : WorldInvariant new = roomy_kept seen roomier worker job private refl found is roomier_kept rests few (omega arith) in
        let call : SubmitContract seen worker job (Ok (private.begun + 1)) new = record {
          accepted = submits;
          refused = tt;
          unchanged = tt;
          headline = submit_run seen new worker job (private.begun + 1) kept submits;
          room = sound.room;
          begins = submit_begins seen new worker job (private.begun + 1) kept submits;
        } in
        record {
          new = new;
          given = answer.Handed (private.begun + 1);
          listed = record { call = (Ok (private.begun + 1), refl, call); memory = λ q. cc };
          accepted = λ refusal q. cc;
          kept = sound;
          shape = refl;
          words_are = refl;
          at = get_set seen.privates worker (Some (submitted_private private job)) (within_list (Some private) found);
          off = λ other apart. get_set_other seen.privates worker other (Some (submitted_private private job)) apart;
          no_leave = λ who lock free label is. other_act worker who lock (act.Hand (private.begun + 1) job) label (λ q. cc) is;
        }

-- ---- a step

-- The counts after a step.
record Counted (old : Counts) (before after : Phase) (note : Note) : Type 0 where
  counts : Counts
  is : CountsAfterStep old before after note counts

counted_open : (old : Counts) (before after : Phase) (note : Note) → note ≢ Blocked → Counted old before after note
counted_open old before after note open_way = elim (cases_phase after before) [
  | inl same ↦ record { counts = with_step_counted old before; is = record { blocked = λ e. absurd (open_way e); goes_on = λ _ _. refl; ends = λ _ apart. absurd (apart same) } }
  | inr apart ↦ record { counts = with_stay_begun (with_step_counted old before) after; is = record { blocked = λ e. absurd (open_way e); goes_on = λ _ same. absurd (apart same); ends = λ _ _. refl } }
]

counted_by : (old : Counts) (before after : Phase) (note : Note) → Counted old before after note
counted_by old before after Quiet = counted_open old before after Quiet (λ q. cc)
counted_by old before after (Asked k) = counted_open old before after (Asked k) (λ q. cc)
counted_by old before after Blocked = record { counts = old; is = record { blocked = λ _. refl; goes_on = λ open_way _. absurd (open_way refl); ends = λ open_way _. absurd (open_way refl) } }
counted_by old before after (Entered lock) = counted_open old before after (Entered lock) (λ q. cc)
counted_by old before after (Reentered lock) = counted_open old before after (Reentered lock) (λ q. cc)
counted_by old before after (Finished receipt) = counted_open old before after (Finished receipt) (λ q. cc)
counted_by old before after (Left lock) = counted_open old before after (Left lock) (λ q. cc)
counted_by old before after Ready = counted_open old before after Ready (λ q. cc)
counted_by old before after (Withdrew k) = counted_open old before after (Withdrew k) (λ q. cc)

-- There is room for the entry that a step finishes.
finished_few : (note : Note) (room : ℕ) → ((receipt : Receipt) → note ≡ Finished receipt → 1 ≤ room) → finished_by (act_of_note note) ≤ room
finished_few Quiet room some = omega arith
finished_few (Asked k) room some = omega arith
finished_few Blocked room some = omega arith
finished_few (Entered lock) room some = omega arith
finished_few (Reentered lock) room some = omega arith
finished_few (Finished receipt) room some = some receipt refl
finished_few (Left lock) room some = omega arith
finished_few Ready room some = omega arith
finished_few (Withdrew k) room some = omega arith

module _ (seen : WorldView) (worker : ℕ) (kept : WorldInvariant seen) (private : Private) (found : slice_get seen.privates worker ≡ Some (Some private)) (busy : private.stage ≢ Resting)
    (words : List ℕ) (value : ℕ) (did : ActionEffect (world_memory seen) (read_word_at seen.shape words) (private_action seen.shape private) value) where
  abbrev note : Note
  note = note_after seen.shape private value

  abbrev next : Private
  next = private_after seen.shape private value

  counted : Counted (worker_counts seen worker) (phase_of private.stage) (phase_of next.stage) note
  counted = counted_by (worker_counts seen worker) (phase_of private.stage) (phase_of next.stage) note

  abbrev history : List Entry
  history = history_after seen.history (read_word_at seen.shape words) worker note

  few : finished_by (act_of_note note) ≤ seen.room
  few = finished_few note seen.room (λ receipt finished. roomy seen worker private kept found busy seen.shape refl words (private_action seen.shape private) value seen.shape refl refl did note refl receipt finished)

  abbrev stepped_world : WorldView
  stepped_world = record {
    shape = seen.shape;
    words = words;
    privates = slice_set seen.privates worker (Some next);
    history = history;
    counts = slice_set seen.counts worker counted.counts;
    room = length seen.history + seen.room - length history;
  }

  steps : StepChange seen worker note stepped_world
  steps =
      let longer = history_longer seen.history (read_word_at seen.shape words) worker note in
      stepped seen worker private kept found busy stepped_world seen.shape refl (private_action seen.shape private) value next note counted.counts (worker_counts seen worker) (phase_of private.stage) (phase_of next.stage)
      refl refl did refl refl refl refl refl (omega (arith, longer, few)) refl refl refl counted.is

  step_contract : StepContract seen worker (Ok note) stepped_world
  step_contract = record {
    accepted = steps;
    refused = tt;
    unchanged = tt;
    headline = step_run seen stepped_world worker note kept steps;
    row = stands seen stepped_world worker note kept steps;
    blocked = stopped seen stepped_world worker note kept steps;
    comes_on = comes_on seen stepped_world worker note kept steps;
    bound = keeps_bound seen stepped_world worker note kept steps;
    posted = posts seen stepped_world worker note kept steps;
    section = finishes seen stepped_world worker note kept steps;
    reentry = reenters seen stepped_world worker note kept steps;
    comes_back = comes_back seen stepped_world worker note kept steps;
    owns = owns_in_section stepped_world worker (step_kept seen stepped_world worker note steps kept);
    withdrew = gives_up seen stepped_world worker note kept steps;
  }

  pub step_happens : Happens seen (event.Step worker) worker words (Some next)
  step_happens = record {
    new = stepped_world;
    given = answer.Stepped note;
    listed = record { call = (Ok note, refl, step_contract); memory = λ q. cc };
    accepted = λ refusal q. cc;
    kept = step_kept seen stepped_world worker note steps kept;
    shape = refl;
    words_are = refl;
    at = get_set seen.privates worker (Some next) (within_list seen worker kept (Some private) found);
    off = λ other apart. get_set_other seen.privates worker other (Some next) apart;
    no_leave = λ who lock recovers label is leaves. (
        let whole = same_Some _ _ is ∙ leaves in
        no_leave_by seen.shape private.worker private.begun private.stage value _ note lock (note_law seen.shape private.worker private.begun private.stage value)
        (recovers (same_who worker who (act_of_note note) (act.Leave lock) whole) private found) (same_act worker who (act_of_note note) (act.Leave lock) whole));
  }

-- ---- an event of a call

module _ (seen : WorldView) (worker : ℕ) (kept : WorldInvariant seen) where
  -- For the worker that the event names.
  named : (its : ℕ → Event) (who : ℕ) (private new : Option Private) → who ≡ worker → new ≡ private → Happens seen (its worker) worker seen.words private → Happens seen (its who) worker seen.words new
  named its who private new own is happens =
      let P : ℕ → Type 0 = λ w. Happens seen (its w) worker seen.words new in
      let Q : Option Private → Type 0 = λ p. Happens seen (its worker) worker seen.words p in
      subst P (sym own) (subst Q (sym is) happens)

  pub event_happens : (its : Event) (old new : Option Private) → slice_get seen.privates worker ≡ Some old → PrivateEvent seen.shape worker its old new → Happens seen its worker seen.words new
  event_happens (event.Submit who job) (Some private) new found (own, rests, few, is, becomes) =
      named (λ w. event.Submit w job) who _ new own becomes (submit_happens seen worker kept job private found rests few is)
  event_happens (event.Submit who job) None new found may = absurd may
  event_happens (event.Step who) (Some private) new found may = absurd may
  event_happens (event.Step who) None new found may = absurd may
  event_happens (event.Crash who) (Some private) new found (own, becomes) = named event.Crash who _ new own becomes (crash_happens seen worker kept private found)
  event_happens (event.Crash who) None new found may = absurd may
  event_happens (event.Restart who) None new found (own, becomes) = named event.Restart who _ new own becomes (restart_happens seen worker kept found)
  event_happens (event.Restart who) (Some private) new found may = absurd may
  event_happens (event.Withdraw who) (Some private) new found (own, ascent, climbs, becomes) =
      named event.Withdraw who _ new own becomes (withdraw_happens seen worker kept private ascent found climbs)
  event_happens (event.Withdraw who) None new found may = absurd may

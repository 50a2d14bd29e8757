-- THE REFINEMENT THEOREM: every list of events is a run of the abstract machine.
use Rattle.std.proofs.Common.{◌≡◌, ℕ, suc, take, get_or, ◌+◌, ◌<◌, List, [], ◌∷◌, ◌++◌, length, refl, sym, ◌∙◌, ap, subst}
use Rattle.std.specs.Prelude.{Some, slice_get}
use Rattle.std.proofs.lemmas.Option.{slice_get-get_or}
use Rattle.rme_words.specs.declared.shape.Shape.{Shape}
use Rattle.rme_words.specs.declared.refusal.Refusal.{Refusal}
use Rattle.rme_script.proofs.Lists.{take_next}
use Rattle.rme_program.specs.declared.event.Event.{Event}
use Rattle.rme_program.specs.declared.event.Event.TheVariants.{Submit, Step, Crash, Restart, Withdraw}
use Rattle.rme_program.specs.declared.event.Answer.{Answer}
use Rattle.rme_program.specs.declared.event.Answer.TheVariants.{Refused}
use Rattle.rme_machine.specs.declared.label.Act.{Act}
use Rattle.rme_machine.specs.declared.label.Label.{Label}
use Rattle.rme_machine.specs.declared.label.Label.TheVariants.{Nothing, Of}
use Rattle.rme_machine.specs.Machine as machine
use Rattle.rme_machine.specs.Labels.{event_label}
use Rattle.rme_machine.proofs.Tables.{tables}
use Rattle.rme_world.specs.WorldViews.{WorldView, world_memory, world_privates, world_abstract_state}
use Rattle.rme_world.specs.Refinement.{EventsHaveLabels, WorldTablesMatch, IsRefinement, IsEventRefinement}
use Rattle.rme_world.specs.EventLists.{EventContract, ListedEventContract, EventListContract}
use Rattle.rme_world.proofs.Worlds.{IsSound, GoesAs}

-- The owner table and the cells of a sound world match its abstract state.
pub tables_of : (seen : WorldView) → IsSound seen → WorldTablesMatch seen
tables_of seen sound = tables.tables seen.shape (world_memory seen) (world_privates seen) seen.history sound.fact

-- One event is a run of one step.
pub act_run : (old new : WorldView) (event : Event) (answer : Answer) (worker : ℕ) (act : Act) → event_label event answer ≡ Some (Of worker act) → IsSound old → GoesAs old new worker act → IsEventRefinement old event answer new
act_run old new event answer worker act is sound goes = record {
  told = Of worker act ∷ [];
  are_labels = (is, tt);
  run = (world_abstract_state new, goes.does, refl);
  shape = goes.shape;
  before = tables_of old sound;
  after = tables_of new goes.sound;
}

refused_label : (event : Event) (refusal : Refusal) → event_label event (Refused refusal) ≡ Some Nothing
refused_label (Submit worker job) refusal = refl
refused_label (Step worker) refusal = refl
refused_label (Crash worker) refusal = refl
refused_label (Restart worker) refusal = refl
refused_label (Withdraw worker) refusal = refl

-- A refused event is a run with no step.
pub nothing_run : (seen : WorldView) (event : Event) (refusal : Refusal) → IsSound seen → IsEventRefinement seen event (Refused refusal) seen
nothing_run seen event refusal sound = record {
  told = Nothing ∷ [];
  are_labels = (refused_label event refusal, tt);
  run = (world_abstract_state seen, refl, refl);
  shape = refl;
  before = tables_of seen sound;
  after = tables_of seen sound;
}

-- ---- a list of events is a run

run_of : (old new : WorldView) (event : Event) (answer : Answer) → EventContract old event answer new → IsEventRefinement old event answer new
run_of old new (Submit worker job) answer (result, is, call) = subst (λ (a : Answer). IsEventRefinement old (Submit worker job) a new) (sym is) call.headline
run_of old new (Step worker) answer (result, is, call) = subst (λ (a : Answer). IsEventRefinement old (Step worker) a new) (sym is) call.headline
run_of old new (Crash worker) answer (result, is, call) = subst (λ (a : Answer). IsEventRefinement old (Crash worker) a new) (sym is) call.headline
run_of old new (Restart worker) answer (result, is, call) = subst (λ (a : Answer). IsEventRefinement old (Restart worker) a new) (sym is) call.headline
run_of old new (Withdraw worker) answer (result, is, call) = subst (λ (a : Answer). IsEventRefinement old (Withdraw worker) a new) (sym is) call.headline

join_runs : (old mid new : WorldView) (event : Event) (answer : Answer) (events : List Event) (answers : List Answer) → IsEventRefinement old event answer mid → IsRefinement mid events answers new
    → IsRefinement old (event ∷ events) (answer ∷ answers) new
join_runs old mid new event answer events answers one later = by_told one.told one.are_labels one.run
  where
    by_told : (told : List Label) → EventsHaveLabels (event ∷ []) (answer ∷ []) told → machine.MachineRun old.shape (world_abstract_state old) told (world_abstract_state mid) → IsRefinement old (event ∷ events) (answer ∷ answers) new
    by_told [] labelled run = absurd labelled
    by_told (label ∷ []) labelled (state, step, same) =
        let R : Shape → Type 0 = λ (s : Shape). machine.MachineRun s (world_abstract_state mid) later.told (world_abstract_state new) in
        let first : machine.LabelStep old.shape label (world_abstract_state old) (world_abstract_state mid) = subst (λ (s : machine.MachineState). machine.LabelStep old.shape label (world_abstract_state old) s) (sym same) step in
        record {
          told = label ∷ later.told;
          are_labels = (labelled.0, later.are_labels);
          run = (world_abstract_state mid, first, subst R one.shape later.run);
          shape = later.shape ∙ one.shape;
          before = one.before;
          after = later.after;
        }
    by_told (label ∷ other ∷ labels_) labelled run = absurd labelled.1

pub all_run : (old new : WorldView) (events : List Event) (answers : List Answer) → WorldTablesMatch old → EventListContract old events answers new → IsRefinement old events answers new
all_run old new [] [] shows happen = record {
  told = [];
  are_labels = tt;
  run = ap world_abstract_state happen;
  shape = ap (λ (s : WorldView). s.shape) happen;
  before = shows;
  after = subst (λ (s : WorldView). WorldTablesMatch s) (sym happen) shows;
}
all_run old new (event ∷ events) (answer ∷ answers) shows (mid, first, rest) =
    let one : IsEventRefinement old event answer mid = run_of old mid event answer first.call in
    join_runs old mid new event answer events answers one (all_run mid new events answers one.after rest)
all_run old new [] (answer ∷ answers) shows happen = absurd happen
all_run old new (event ∷ events) [] shows happen = absurd happen

-- ---- one event after a list of events

pub all_snoc : (old mid new : WorldView) (events : List Event) (answers : List Answer) (event : Event) (answer : Answer) → EventListContract old events answers mid → ListedEventContract mid event answer new
    → EventListContract old (events ++ event ∷ []) (answers ++ answer ∷ []) new
all_snoc old mid new [] [] event answer happen last = (new, subst (λ (s : WorldView). ListedEventContract s event answer new) happen last, refl)
all_snoc old mid new (e ∷ events) (a ∷ answers) event answer (next, first, rest) last = (next, first, all_snoc next mid new events answers event answer rest last)
all_snoc old mid new [] (a ∷ answers) event answer happen last = absurd happen
all_snoc old mid new (e ∷ events) [] event answer happen last = absurd happen

-- The refinement theorem, where room was reserved first.
pub roomy_run : (old roomy new : WorldView) (events : List Event) (answers : List Answer) → roomy ≡ record old { room = roomy.room } → IsSound roomy → EventListContract roomy events answers new → IsRefinement old events answers new
roomy_run old roomy new events answers same sound happen =
    let P : WorldView → Type 0 = λ (s : WorldView). IsRefinement s events answers new → IsRefinement record old { room = roomy.room } events answers new in
    let run : IsRefinement record old { room = roomy.room } events answers new = subst P (sym same) (λ (r : IsRefinement record old { room = roomy.room } events answers new). r) (all_run roomy new events answers (tables_of roomy sound) happen) in
    record { told = run.told; are_labels = run.are_labels; run = run.run; shape = run.shape; before = run.before; after = run.after }

pub as_many : (old new : WorldView) (events : List Event) (answers : List Answer) → EventListContract old events answers new → length answers ≡ length events
as_many old new [] [] happen = refl
as_many old new (event ∷ events) (answer ∷ answers) (mid, first, rest) = ap suc (as_many mid new events answers rest)
as_many old new [] (answer ∷ answers) happen = absurd happen
as_many old new (event ∷ events) [] happen = absurd happen

-- The list of events extended by one.
pub next_happens : (old mid new : WorldView) (events : List Event) (i : ℕ) (answers : List Answer) (event : Event) (answer : Answer) → i < length events → event ≡ get_or events i event
    → EventListContract old (take i events) answers mid → ListedEventContract mid event answer new → EventListContract old (take (i + 1) events) (answers ++ answer ∷ []) new
next_happens old mid new events i answers event answer within is happen last =
    let at : slice_get events i ≡ Some event = slice_get-get_or events i event within ∙ ap (λ (e : Event). Some e) (sym is) in
    subst (λ (es : List Event). EventListContract old es (answers ++ answer ∷ []) new) (sym (take_next events i event at)) (all_snoc old mid new (take i events) answers event answer happen last)

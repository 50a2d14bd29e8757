-- What may stand before a call's first step: nothing, a crash and a restart, a submission, a withdrawal.
use Rattle.std.proofs.Common.{◌≡◌, ◌≢◌, ℕ, ◌+◌, ◌<◌, List, refl, sym, ◌∙◌, ap, subst}
use Rattle.std.specs.Prelude.{Some, None, ◌==◌, if◌then◌else◌}
use Rattle.std.proofs.lemmas.Bool.{eq-eqb, ne_eqb}
use Rattle.rme_words.specs.declared.shape.Shape.{Shape}
use Rattle.rme_script.specs.declared.job.Job.{Job}
use Rattle.rme_program.specs.declared.note.Entry.{Entry}
use Rattle.rme_program.specs.declared.stage.Stage.TheVariants.{Resting, Climbing}
use Rattle.rme_program.specs.declared.stage.Ascent.{Ascent}
use Rattle.rme_script.specs.Jobs.{IsJob}
use Rattle.rme_program.specs.Steps.{restarted_private}
use Rattle.rme_machine.specs.declared.label.Act.TheVariants.{Hand, Crash, Restart, Wait}
use Rattle.rme_machine.specs.Changes.{PrivateChange}
use Rattle.rme_machine.specs.Laws.{RefinementStep, concrete_state}
use Rattle.rme_machine.specs.AbstractState.{Privates, abstract_state}
use Rattle.rme_machine.proofs.Events.{submit, crash, restart, withdraw}
use Rattle.rme_service_steps.specs.declared.seat_record.Part.{Part}
use Rattle.rme_service_steps.specs.Parts.{unchanged_part, restarted_part, submitted_part, withdrawing_part}
use Rattle.rme_service_steps.specs.Rule.{ServiceInvariant, table_memory, privates_of_parts, parts_with_update}
use Rattle.rme_service_steps.specs.Running.{ChangeIsServiceRun, IsServiceRun, restart_labels, submit_labels, withdraw_labels}
use Rattle.rme_service_steps.specs.Steps.{ChangeIsAllowed}
use Rattle.rme_service_steps.proofs.Worlds.{became, world_of, drafts_of, drafts_same, sections_of, sections_same, reached_state, same_parts, books_of}

pub leads_onward : (s : Shape) (p : Part) → p.private.stage ≢ Resting → ChangeIsAllowed s unchanged_part p
leads_onward s p busy = record {
  worker = refl;
  busy = busy;
  world = λ words parts es world worker here. subst (λ (f : ℕ → Part). ServiceInvariant s words f es) (sym (same_parts parts p here)) world;
}

module _ (s : Shape) (p : Part) (words : List ℕ) (parts : ℕ → Part) (es : List Entry) (world : ServiceInvariant s words parts es) (worker : p.worker < s.workers) (here : parts p.worker ≡ p) where
  was : privates_of_parts parts p.worker ≡ Some p.private
  was = ap (λ (q : Part). Some q.private) here

  -- The private states while the worker is down.
  without : Privates
  without = λ (u : ℕ). if u == p.worker then None else privates_of_parts parts u

  fell : PrivateChange (privates_of_parts parts) without p.worker None
  unfolding without
  fell = record { at = rw (eq-eqb p.worker p.worker refl) refl; off = λ u apart. rw (ne_eqb u p.worker apart) refl }

  rose : PrivateChange without (privates_of_parts (parts_with_update parts p.worker (restarted_part p))) p.worker (Some (restarted_private p.worker))
  unfolding without
  rose = record {
    at = (became parts p.worker (restarted_part p)).at;
    off = λ u apart. (became parts p.worker (restarted_part p)).off u apart ∙ rw (ne_eqb u p.worker apart) refl;
  }

  crashes : RefinementStep s (concrete_state (table_memory s words) (privates_of_parts parts) es) (concrete_state (table_memory s words) without es) p.worker Crash
  crashes = crash s (table_memory s words) (privates_of_parts parts) without es p.worker p.private world.fact worker was fell

  restarts : RefinementStep s (concrete_state (table_memory s words) without es) (concrete_state (table_memory s words) (privates_of_parts (parts_with_update parts p.worker (restarted_part p))) es) p.worker Restart
  restarts = restart s (table_memory s words) without (privates_of_parts (parts_with_update parts p.worker (restarted_part p))) es p.worker crashes.0 worker fell.at rose

  restart_world : ServiceInvariant s words (parts_with_update parts p.worker (restarted_part p)) es
  restart_world =
      let mem = table_memory s words in
      let down = crashes in
      let up = restarts in
      let drafts = drafts_of s Crash _ (abstract_state s mem without es) parts p p down.1 here refl world.drafts in
      let still = drafts_same (abstract_state s mem without es) _ (λ (u : ℕ). (parts u).draft) drafts (λ u. ap (λ (f : ℕ → Part). (f u).draft) (same_parts parts p here)) in
      let sections = sections_of s Crash _ (abstract_state s mem without es) parts p p (reached_state s mem (privates_of_parts parts) es world.fact) down.1 here refl world.sections in
      let known = sections_same (abstract_state s mem without es) _ (λ (u : ℕ). (parts u).section) sections (λ u. ap (λ (f : ℕ → Part). (f u).section) (same_parts parts p here)) in
      world_of s words (parts_with_update parts p.worker (restarted_part p)) es world.long up.0 (books_of s words parts es p (restarted_part p) world here refl refl)
      (drafts_of s Restart _ _ parts p (restarted_part p) up.1 here refl still)
      (sections_of s Restart _ _ parts p (restarted_part p) (reached_state s mem without es down.0) up.1 here refl known)

  submit_world : (job : Job) → p.private.stage ≡ Resting → p.private.begun < s.jobs → IsJob s job → ServiceInvariant s words (parts_with_update parts p.worker (submitted_part job p)) es
  submit_world job rests few is =
      let mem = table_memory s words in
      let goes = submit s mem (privates_of_parts parts) _ es p.worker p.private job world.fact worker was rests few is (became parts p.worker (submitted_part job p)) in
      world_of s words (parts_with_update parts p.worker (submitted_part job p)) es world.long goes.0 (books_of s words parts es p (submitted_part job p) world here refl refl)
      (drafts_of s (Hand (p.private.begun + 1) job) _ _ parts p (submitted_part job p) goes.1 here refl world.drafts)
      (sections_of s (Hand (p.private.begun + 1) job) _ _ parts p (submitted_part job p) (reached_state s mem (privates_of_parts parts) es world.fact) goes.1 here refl world.sections)

  withdraw_world : (ascent : Ascent) → p.private.stage ≡ Climbing ascent → ServiceInvariant s words (parts_with_update parts p.worker (withdrawing_part p)) es
  withdraw_world ascent climbs =
      let mem = table_memory s words in
      let goes = withdraw s mem (privates_of_parts parts) _ es p.worker p.private ascent world.fact worker was climbs (became parts p.worker (withdrawing_part p)) in
      world_of s words (parts_with_update parts p.worker (withdrawing_part p)) es world.long goes.0 (books_of s words parts es p (withdrawing_part p) world here refl refl)
      (drafts_of s Wait _ _ parts p (withdrawing_part p) goes.1 here refl world.drafts)
      (sections_of s Wait _ _ parts p (withdrawing_part p) (reached_state s mem (privates_of_parts parts) es world.fact) goes.1 here refl world.sections)

  -- As steps of the abstract machine.
  pub restart_runs : IsServiceRun s record { words = words; parts = parts; history = es } (restart_labels p) record { words = words; parts = parts_with_update parts p.worker (restarted_part p); history = es }
  restart_runs = record {
    world = restart_world;
    run = (
      abstract_state s (table_memory s words) without es,
      crashes.1,
      (abstract_state s (table_memory s words) (privates_of_parts (parts_with_update parts p.worker (restarted_part p))) es, restarts.1, refl),
    );
  }

  pub submit_runs : (job : Job) → p.private.stage ≡ Resting → p.private.begun < s.jobs → IsJob s job
      → IsServiceRun s record { words = words; parts = parts; history = es } (submit_labels p job) record { words = words; parts = parts_with_update parts p.worker (submitted_part job p); history = es }
  submit_runs job rests few is = record {
    world = submit_world job rests few is;
    run = (
      abstract_state s (table_memory s words) (privates_of_parts (parts_with_update parts p.worker (submitted_part job p))) es,
      (submit s (table_memory s words) (privates_of_parts parts) _ es p.worker p.private job world.fact worker was rests few is (became parts p.worker (submitted_part job p))).1,
      refl,
    );
  }

  pub withdraw_runs : (ascent : Ascent) → p.private.stage ≡ Climbing ascent
      → IsServiceRun s record { words = words; parts = parts; history = es } (withdraw_labels p) record { words = words; parts = parts_with_update parts p.worker (withdrawing_part p); history = es }
  withdraw_runs ascent climbs = record {
    world = withdraw_world ascent climbs;
    run = (
      abstract_state s (table_memory s words) (privates_of_parts (parts_with_update parts p.worker (withdrawing_part p))) es,
      (withdraw s (table_memory s words) (privates_of_parts parts) _ es p.worker p.private ascent world.fact worker was climbs (became parts p.worker (withdrawing_part p))).1,
      refl,
    );
  }

pub leads_restart : (s : Shape) (p : Part) → ChangeIsAllowed s restarted_part p
leads_restart s p = record { worker = refl; busy = λ e. cc; world = λ words parts es world worker here. restart_world s p words parts es world worker here }

pub leads_submit : (s : Shape) (p : Part) (job : Job) → p.private.stage ≡ Resting → p.private.begun < s.jobs → IsJob s job → ChangeIsAllowed s (submitted_part job) p
leads_submit s p job rests few is =
    record { worker = refl; busy = λ e. cc; world = λ words parts es world worker here. submit_world s p words parts es world worker here job rests few is }

pub leads_withdraw : (s : Shape) (p : Part) (ascent : Ascent) → p.private.stage ≡ Climbing ascent → ChangeIsAllowed s withdrawing_part p
leads_withdraw s p ascent climbs = record {
  worker = refl;
  busy = rw climbs (λ e. cc);
  world = λ words parts es world worker here. withdraw_world s p words parts es world worker here ascent climbs;
}

-- What each is to the machine.
pub led_restart : (s : Shape) (p : Part) → ChangeIsServiceRun s p restarted_part (restart_labels p)
led_restart s p = λ old world worker here. restart_runs s p old.words old.parts old.history world worker here

pub led_submit : (s : Shape) (p : Part) (job : Job) → p.private.stage ≡ Resting → p.private.begun < s.jobs → IsJob s job → ChangeIsServiceRun s p (submitted_part job) (submit_labels p job)
led_submit s p job rests few is = λ old world worker here. submit_runs s p old.words old.parts old.history world worker here job rests few is

pub led_withdraw : (s : Shape) (p : Part) (ascent : Ascent) → p.private.stage ≡ Climbing ascent → ChangeIsServiceRun s p withdrawing_part (withdraw_labels p)
led_withdraw s p ascent climbs = λ old world worker here. withdraw_runs s p old.words old.parts old.history world worker here ascent climbs

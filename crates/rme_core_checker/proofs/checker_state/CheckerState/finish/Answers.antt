use Rattle.std.proofs.Common.{◌≡◌, ◌<◌, [], ◌∷◌, ◌++◌, List, length, slice_get, Some, true, ◌∙◌, ap, subst, refl}
use Rattle.rme_program.specs.declared.note.Entry.{Entry}
use Rattle.rme_machine.specs.Machine.{WorkerState}
use Rattle.rme_history.specs.Folds.{IsReplayFold}
use Rattle.rme_core_checker.specs.Deciding.{is_section_receipt, entry_of_section}
use Rattle.rme_core_checker.proofs.StateReads.{read_fits, read_same, finish_follows, follows_last, take_whole, done_fits, fits_set}
use Rattle.rme_core_checker.proofs.checker_state.CheckerState.finish.Goals as goal

pub push-requires-clause-few : goal.push-requires-clause-few
push-requires-clause-few c =
    let within : c.args.worker < length c.self.inside.workers.items = rw (← c.self.view_is) at c.requires.worker in
    let due : (x : WorkerState) → slice_get c.self.inside.workers.items c.args.worker ≡ Some x → is_section_receipt c.self.inside.shape c.self.inside.entries.entries c.args.worker x.stance c.args.receipt ≡ true =
    rw (← c.self.view_is) at c.requires.receipt in
    rw (c.stance_script-script.ensures, c.stance.ensures)
    ((finish_follows _ _ _ _ _ c.args.receipt c.self.invariant.jobs within c.index.ensures due).job.script.few)

pub prove-unreachable-requires : goal.prove-unreachable-requires
prove-unreachable-requires c =
    let within : c.args.worker < length c.self.inside.workers.items = rw (← c.self.view_is) at c.requires.worker in
    let due : (x : WorkerState) → slice_get c.self.inside.workers.items c.args.worker ≡ Some x → is_section_receipt c.self.inside.shape c.self.inside.entries.entries c.args.worker x.stance c.args.receipt ≡ true =
    rw (← c.self.view_is) at c.requires.receipt in
    let longer : c.push.new.self.entries ≡ c.self.inside.entries.entries ++ entry_of_section c.args.receipt c.index.result.now.stance ∷ [] =
    c.push.ensures.entries ∙ rw (c.reserve.ensures.entries, c.stance_script-script.ensures, c.stance.ensures) refl in
    c.if-prove.ensures.follows
    (follows_last _ _ _ _ _ longer c.len-last.ensures
    (finish_follows _ _ _ _ _ c.args.receipt c.self.invariant.jobs within c.index.ensures due))

pub invariant_of-self-2 : goal.invariant_of-self-2
invariant_of-self-2 c =
    let within : c.args.worker < length c.self.inside.workers.items = rw (← c.self.view_is) at c.requires.worker in
    let longer = c.push.ensures.entries ∙ ap (λ (es : List Entry). es ++ record { receipt = c.args.receipt; script = c.stance_script-script.result } ∷ []) c.reserve.ensures.entries in
    record {
      jobs = fits_set _ _ c.args.worker c.change.new.self c.self.invariant.jobs (rw (c.change.ensures) (done_fits _ _ (read_fits _ _ _ _ c.self.invariant.jobs within c.index_mut.ensures.value)));
      fold =
          subst (λ (es : List Entry). IsReplayFold c.self.inside.shape es c.follow-follows.new.self.rows.items c.follow-follows.new.self.counts.items)
          (take_whole c.self.inside.entries.entries _ _ _ longer c.len-last.ensures) c.if-prove.ensures.fold;
    }

pub returns-clause-finished : goal.returns-clause-finished
returns-clause-finished c =
    let within : c.args.worker < length c.self.inside.workers.items = rw (← c.self.view_is) at c.requires.worker in
    rw (← c.self.view_is) (λ me is_me.
    rw (c.push.ensures.entries, c.reserve.ensures.entries, c.change.ensures, c.stance_script-script.ensures, c.stance.ensures, read_same _ _ me _ within c.index.ensures is_me, read_same _ _ me _ within c.index_mut.ensures.value is_me) refl)

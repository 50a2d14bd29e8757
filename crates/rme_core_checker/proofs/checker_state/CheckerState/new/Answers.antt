use Rattle.std.proofs.Common.{List, sym, ◌∙◌, refl, subst}
use Rattle.rme_program.specs.declared.note.Entry.{Entry}
use Rattle.rme_machine.specs.Machine.{opening_worker}
use Rattle.rme_machine.proofs.Lists.{made_of_one}
use Rattle.rme_history.specs.Folds.{IsReplayFold}
use Rattle.rme_core_checker.proofs.StateReads.{opening_fits}
use Rattle.rme_core_checker.proofs.checker_state.CheckerState.new.Goals as goal

pub invariant_of-result : goal.invariant_of-result
invariant_of-result c = record {
  jobs =
      opening_fits c.args.shape c.in_ok-workers.workers.items c.args.shape.workers
      (c.in_ok-workers.ensures ∙ made_of_one (λ _. opening_worker) opening_worker 0 c.args.shape.workers (λ _ _. refl));
  fold =
      subst (λ (es : List Entry). IsReplayFold c.args.shape es c.in-Ok.fold.rows.items c.in-Ok.fold.counts.items) (sym c.new-2.ensures.none) c.in-Ok.ensures.start;
}

pub returns : goal.returns
returns c = rw (c.in_ok-workers.ensures, made_of_one (λ _. opening_worker) opening_worker 0 c.args.shape.workers (λ _ _. refl), c.new-2.ensures.none) refl

use Rattle.std.proofs.Common.{◌≡◌, ◌++◌, [], ◌∷◌, List, sym, ap, subst, ◌∙◌, arith}
use Rattle.rme_program.specs.declared.action.Action.{Action}
use Rattle.rme_program.specs.Steps.{private_action}
use Rattle.rme_process_core.specs.declared.flat.FlatAction.{FlatAction}
use Rattle.rme_process_core.specs.Flat.{flat_action}
use Rattle.rme_process_core.specs.Batches.{batch_actions}
use Rattle.rme_process_core.specs.Runs.{PredictsUpTo}
use Rattle.rme_program.proofs.Blind.{IsStore}
use Rattle.rme_process_core.proofs.Telling.{leads_more, leads_end, plain_does, store_steps}
use Rattle.rme_process_core.proofs.batch.predict_stores.Goals as goal

pub loop-batch-preserved : goal.loop-batch-preserved
loop-batch-preserved c =
    let shape = c.args.context.shape in let start = c.args.private.now in let ahead = c.loop-batch.ahead in let now = c.make_quiet_store.new.ahead in let told : List FlatAction = batch_actions c.loop-batch.batch in
    let P : Action → Type 0 = λ a. IsStore a in
    let store : IsStore (private_action shape now) = subst P (sym c.in-Store-action.is ∙ c.next-action.ensures.action) tt in
    let leads : PredictsUpTo shape c.args.context.until start told now =
    leads_more shape c.args.context.until start c.loop-batch.invariant.before ahead c.loop-batch.invariant.leads (flat_action shape (private_action shape ahead)) told c.loop-batch.invariant.is now
    (store_steps shape ahead now c.loop-batch.invariant.store c.loop-batch.invariant.busy c.make_quiet_store.ensures.after (c.make_quiet_store.ensures.quiet c.if-not-make_quiet_store.false)) in
    record {
      private = c.make_quiet_store.ensures.private;
      store = store;
      busy = c.make_quiet_store.ensures.busy c.if-not-make_quiet_store.false;
      before = told;
      leads = leads;
      is = c.put-in-loop-batch.ensures.told ∙ ap (λ (a : FlatAction). told ++ a ∷ []) (c.flat_action-in-loop-batch.ensures ∙ ap (λ (a : Action). flat_action shape a) c.next-action.ensures.action);
      some = omega (arith, c.put-in-loop-batch.ensures.count);
      few = omega (arith, c.put-in-loop-batch.ensures.count, c.loop-batch-test.true);
    }

pub returns-in_default-action : goal.returns-in_default-action
returns-in_default-action c =
    let shape = c.args.context.shape in let start = c.args.private.now in let ahead = c.loop-batch.ahead in let now = c.make_quiet_store.new.ahead in let told : List FlatAction = batch_actions c.loop-batch.batch in
    let leads : PredictsUpTo shape c.args.context.until start told now =
    leads_more shape c.args.context.until start c.loop-batch.invariant.before ahead c.loop-batch.invariant.leads (flat_action shape (private_action shape ahead)) told c.loop-batch.invariant.is now
    (store_steps shape ahead now c.loop-batch.invariant.store c.loop-batch.invariant.busy c.make_quiet_store.ensures.after (c.make_quiet_store.ensures.quiet c.if-not-make_quiet_store.false)) in
    let is : batch_actions c.put-in-loop-batch.new.batch ≡ told ++ flat_action shape (private_action shape now) ∷ [] =
    c.put-in-loop-batch.ensures.told ∙ ap (λ (a : FlatAction). told ++ a ∷ []) (c.flat_action-in-loop-batch.ensures ∙ ap (λ (a : Action). flat_action shape a) c.next-action.ensures.action) in
    record {
      foretells = leads_end shape c.args.context.until start told now leads (flat_action shape (private_action shape now)) (batch_actions c.put-in-loop-batch.new.batch) is
          record { busy = c.make_quiet_store.ensures.busy c.if-not-make_quiet_store.false; does = plain_does shape now };
      some = omega (arith, c.put-in-loop-batch.ensures.count);
      few = omega (arith, c.put-in-loop-batch.ensures.count, c.loop-batch-test.true);
    }

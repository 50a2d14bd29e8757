use Rattle.std.proofs.Common.{◌≡◌, ◌+◌, ◌*◌, ◌/◌, ◌%◌, ◌<◌, ◌++◌, [], ◌∷◌, ℕ, List, ap, ◌∙◌, arith}
use Rattle.rme_words.specs.declared.address.Address.TheVariants.{SlateWord}
use Rattle.rme_words.specs.Words.{word_number}
use Rattle.rme_process_core.specs.declared.flat.FlatAction.{FlatAction}
use Rattle.rme_process_core.specs.Flat.{flat_load}
use Rattle.rme_process_core.specs.Batches.{batch_actions}
use Rattle.rme_process_core.specs.Runs.{IsLoadingSlate}
use Rattle.rme_process_core.proofs.Telling.{reaches_more}
use Rattle.rme_process_core.proofs.Loading.{slate_step}
use Rattle.rme_process_core.proofs.loads.predict_slate_loads.Goals as goal

pub loop-at-preserved : goal.loop-at-preserved
loop-at-preserved c =
    let shape = c.args.context.shape in let at = c.loop-at.at in let told : List FlatAction = batch_actions c.loop-at.batch in
    let action : FlatAction = flat_load (word_number shape (SlateWord c.args.worker (at / 3) (at % 3))) in
    let is : batch_actions c.put.new.batch ≡ told ++ action ∷ [] =
    c.put.ensures.told ∙ ap (λ (a : FlatAction). told ++ a ∷ []) (c.load.ensures ∙ ap (λ (w : ℕ). flat_load w) c.slate_at.ensures) in
    let below : at + 1 < 3 * c.args.operations = omega (arith, c.loop-at-test.true, c.requires.loaded) in
    record {
      reaches = λ private loads. reaches_more shape c.args.context.until private told (IsLoadingSlate c.args.worker c.args.operations at) (c.loop-at.invariant.reaches private loads) action (batch_actions c.put.new.batch) is
          (IsLoadingSlate c.args.worker c.args.operations (at + 1)) (λ mid here. slate_step shape c.args.worker c.args.operations at mid here below);
      count = omega (arith, c.put.ensures.count, c.loop-at.invariant.count);
      below = below;
    }

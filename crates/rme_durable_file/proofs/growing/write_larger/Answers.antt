use Rattle.std.proofs.Common.{refl}
use Rattle.std.proofs.lemmas.Result.{IfOk-weaker}
use Rattle.rme_durable_epochs.specs.EpochStates.{EpochState}
use Rattle.rme_durable_file.specs.Growths.{GrowsState, ReplacesByLargerEpoch, file_epoch}
use Rattle.rme_durable_file.proofs.Rewriting.{replaces_appended}
use Rattle.rme_durable_file.proofs.growing.write_larger.Goals as goal

pub returns-clause-grows : goal.returns-clause-grows
returns-clause-grows g c =
    let (lines, appended) = c.in_ok-log_exits.ensures.appends in
    let old = c.args.state.now in
    let mid = c.log_exits.new.executor in
    let written = c.log_exits.new.file.bytes in
    let after = c.replace_by_larger.new.file.bytes in
    let names = c.args.names.now in
    let P : EpochState → Type 0 = λ (larger : EpochState). ReplacesByLargerEpoch c.args.shape names mid larger written after in
    let Q : EpochState → Type 0 = λ (larger : EpochState). GrowsState c.args.shape (file_epoch old.names old.executor old.file.bytes) (file_epoch names larger after) in
    IfOk-weaker c.replace_by_larger.result P Q (λ (larger : EpochState) (is : P larger).
    let (bytes, begins, replaced) = is in
    record {
      mid = mid;
      exits = c.in_ok-log_exits.ensures.exits;
      kept = c.if-not-keeps_names.ensures refl;
      replaces = (bytes, begins, replaces_appended old.file.bytes written after lines bytes appended replaced);
    }) c.replace_by_larger.ensures.replaces

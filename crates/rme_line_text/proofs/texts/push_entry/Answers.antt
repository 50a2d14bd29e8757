use Rattle.std.proofs.Common.{string_bytes}
use Rattle.rme_line_text.specs.Texts.{entry_front, script_end, lock_name, ops_text}
use Rattle.rme_line_text.proofs.TextLemmas.{append_three}
use Rattle.rme_line_text.proofs.texts.push_entry.Goals as goal

pub returns : goal.returns
returns c =
    let entry = c.args.entry.now in
    let front = rw c.lock_name.ensures at c.in_ok-push_entry_front.ensures in
    append_three (string_bytes c.args.out.now) _ _ _ (entry_front (lock_name c.args.names.now entry.receipt.lock) entry.receipt) (ops_text entry.script.ops) (script_end entry.receipt.worker)
    front c.in_ok-push_ops.ensures c.in_ok-push_script_end.ensures

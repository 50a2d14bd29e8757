use Rattle.std.proofs.Common.{string_bytes, ◌++◌, codes, decimal}
use Rattle.rme_line_text.specs.Texts.{lock_name}
use Rattle.rme_line_text.proofs.TextLemmas.{append_five}
use Rattle.rme_line_text.proofs.texts.push_receipt.Goals as goal

pub returns : goal.returns
returns c =
    let told = c.args.receipt in
    let lock = rw c.lock_name.ensures at c.in_ok-push_lock.ensures in
    append_five (string_bytes c.args.out.now) _ _ _ _ _ (codes "{\"lock\":\"" ++ lock_name c.args.names.now told.lock) (codes "\",\"number\":" ++ decimal told.number) (codes ",\"place\":" ++ decimal told.place)
    (codes ",\"reply\":" ++ decimal told.reply) (codes ",\"worker\":" ++ (decimal told.worker ++ codes "}")) lock c.in_ok-push_then.ensures c.in_ok-push_then-2.ensures c.in_ok-push_then-3.ensures
    c.in_ok-push_receipt_end.ensures

use Rattle.std.proofs.Common.{◌+◌}
use Rattle.std.proofs.lemmas.List.{take_rest}
use Rattle.rme_keys.proofs.pieces.bytes_after.Goals as goal

pub returns : goal.returns
returns c = take_rest c.args.bytes.now (c.args.at + 1)

use Rattle.std.proofs.Common.{string_bytes, bytes_eq, ◌∙◌}
use Rattle.rme_line_io.proofs.NameLemmas.{position_map}
use Rattle.rme_line_io.proofs.names.Names.number.Goals as goal

pub returns-in_err-index : goal.returns-in_err-index
returns-in_err-index c = rw (← c.self.view_is) (c.from_residual.ensures ∙ c.in_err-index.ensures.index ∙ position_map string_bytes (bytes_eq c.args.text.now) c.self.inside.set.keys)

pub returns : goal.returns
returns c = rw (← c.self.view_is) (c.in_ok-index.ensures.index ∙ position_map string_bytes (bytes_eq c.args.text.now) c.self.inside.set.keys)

use Rattle.rme_line_json.specs.View.{value_view}
use Rattle.rme_durable_format.proofs.Telling.{small_there}
use Rattle.rme_durable_format.proofs.header_reader.small_in.Goals as goal

pub returns : goal.returns
returns c = small_there c.args.key.now (value_view c.args.value.now) (value_view c.in_ok-get.field-0.now) c.whole_u32.result c.in_ok-get.ensures c.whole_u32.ensures

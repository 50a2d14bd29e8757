use Rattle.std.proofs.Common.{arith}
use Rattle.rme_line_json.proofs.Viewing.{members_as_many, view-Object}
use Rattle.rme_line_json.proofs.value.Value.key_count.Goals as goal

pub returns-in-Object : goal.returns-in-Object
returns-in-Object c = rw (c.in-Object.is, view-Object c.in-Object.members, members_as_many c.in-Object.members.items) (grind arith)

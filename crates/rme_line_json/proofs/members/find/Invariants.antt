use Rattle.std.proofs.Common.{◌≡◌, ◌-◌, ◌≤◌, length, drop}
use Rattle.serde_json.specs.Find.{get_member}
use Rattle.rme_line_json.specs.View.{members_view}
use Rattle.rme_line_json.proofs.members.find.Given as goal

abbrev pub invariant-loop-at : goal.invariant-loop-at
invariant-loop-at l = (get_member l.name (members_view l.members) ≡ get_member l.name (members_view (drop l.at l.members))) × (l.at ≤ length l.members)

abbrev pub decreases-loop-at : goal.decreases-loop-at
decreases-loop-at l = length l.members - l.at

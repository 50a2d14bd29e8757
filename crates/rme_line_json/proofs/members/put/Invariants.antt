use Rattle.std.proofs.Common.{◌≡◌, ◌-◌, ◌≤◌, length}
use Rattle.rme_line_json.proofs.Viewing.{IsBehind}
use Rattle.rme_line_json.proofs.members.put.Given as goal

abbrev pub invariant-loop-at : goal.invariant-loop-at
invariant-loop-at l = IsBehind l.key l.fn.members.items l.at × (l.at ≤ length l.fn.members.items) × (l.members ≡ l.fn.members)

abbrev pub decreases-loop-at : goal.decreases-loop-at
decreases-loop-at l = length l.members.items - l.at

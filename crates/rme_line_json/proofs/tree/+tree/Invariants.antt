use Rattle.std.proofs.Common.{◌+◌, ◌*◌, length}
use Rattle.rme_line_json.specs.View.{members_view}
use Rattle.rme_line_json.proofs.Reading.{ItemsSoFar, MembersSoFar}
use Rattle.rme_line_json.proofs.tree.+tree.Given as goal

abbrev pub decreases-read_tree : goal.decreases-read_tree
decreases-read_tree l = 2 * l.depth

abbrev pub decreases-read_items : goal.decreases-read_items
decreases-read_items l = 2 * l.depth + 1

abbrev pub decreases-read_members : goal.decreases-read_members
decreases-read_members l = 2 * l.depth + 1

abbrev pub decreases-read_items-items : goal.decreases-read_items-items
decreases-read_items-items l = length l.reader

abbrev pub decreases-read_members-members : goal.decreases-read_members-members
decreases-read_members-members l = length l.reader

abbrev pub invariant-read_items-items : goal.invariant-read_items-items
invariant-read_items-items l = ItemsSoFar l.depth l.initial.reader l.found.items l.reader

abbrev pub invariant-read_members-members : goal.invariant-read_members-members
invariant-read_members-members l = MembersSoFar l.depth l.initial.reader (members_view l.found.items) l.reader

use Rattle.std.proofs.Common.{◌≡◌, ◌+◌, drop, get_or, bytes_eq, true, false, sym, ap, ◌∙◌, arith}
use Rattle.serde_json.specs.Find.{get_member}
use Rattle.rme_line_json.specs.View.{members_view}
use Rattle.rme_line_json.proofs.Viewing.{here, found_here, found_later}
use Rattle.rme_line_json.proofs.members.find.Goals as goal

pub returns-then-eq : goal.returns-then-eq
returns-then-eq c =
    let l = c.loop-at in
    let ms = c.args.members.now in
    let m = c.index-members-at.result in
    let is : m ≡ get_or ms l.at m = grind arith in
    let same : bytes_eq c.args.name.now m.0.now ≡ true = grind arith in
    sym (l.invariant.0 ∙ ap (λ es. get_member c.args.name.now (members_view es)) (here ms l.at m (omega arith) is) ∙ found_here c.args.name.now m (drop (l.at + 1) ms) same)

pub loop-at-preserved : goal.loop-at-preserved
loop-at-preserved c =
    let l = c.loop-at in
    let ms = c.args.members.now in
    let m = c.index-members-at.result in
    let is : m ≡ get_or ms l.at m = grind arith in
    let other : bytes_eq c.args.name.now m.0.now ≡ false = grind arith in
    (l.invariant.0 ∙ ap (λ es. get_member c.args.name.now (members_view es)) (here ms l.at m (omega arith) is) ∙ found_later c.args.name.now m (drop (l.at + 1) ms) other, omega arith)

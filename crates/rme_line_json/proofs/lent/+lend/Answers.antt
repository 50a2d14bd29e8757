use Rattle.std.proofs.Common.{◌≡◌, [], ◌∷◌, ◌++◌, sym, ap, ◌∙◌, append_assoc, rules}
use Rattle.serde_json.specs.View as kit
use Rattle.serde_json.proofs.Views as views
use Rattle.rme_line_json.specs.View.{members_view}
use Rattle.rme_line_json.proofs.Viewing.{Entry, alike}
use Rattle.rme_line_json.proofs.lent.+lend.Goals as goal

pub lend_members-loop-key-preserved : goal.lend_members-loop-key-preserved
lend_members-loop-key-preserved t c =
    let l = c.loop-key in
    let done = l.invariant.0 in
    let e : views.Entry = (c.in-Some.key.now, c.in-Some.member.now) in
    let left = c.next.new.self in
    let all : c.args.members.now.entries ≡ done ++ e ∷ left = l.invariant.1 ∙ ap (λ es. done ++ es) c.in-Some.ensures.steps in
    let m : Entry = (c.as_str.result, c.in_ok-value.value) in
    let pushed : c.push.new.self.items ≡ l.lent.items ++ m ∷ [] = search rules in (
      done ++ e ∷ [],
      all ∙ sym (append_assoc done (e ∷ []) left),
      ap members_view pushed ∙ alike l.lent.items m done e l.invariant.2 c.as_str.ensures.value c.in_ok-value.ensures,
    )

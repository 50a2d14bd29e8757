use Rattle.std.proofs.Common.{rules, ◌≡◌, ap, ◌∙◌, ◌∷◌, [], ◌+◌, arith, length, length-append}
use Rattle.rme_history.specs.declared.entry_head.EntryHead.{EntryHead}
use Rattle.rme_history.proofs.Listings.{entries_more, heads_more}
use Rattle.rme_history.proofs.entry_list.EntryList.push.Goals as goal

abbrev new_head : (c : goal.After-push_reserved) → EntryHead
new_head c = record { receipt = c.args.receipt; start = c.len.result }

begins : (c : goal.After-push_reserved) → c.len.result ≡ length c.self.inside.ops.items
begins c = search rules

pub invariant_of-self : goal.invariant_of-self
invariant_of-self c =
    let ops = c.self.inside.ops.items in
    let heads = c.self.inside.heads.items in
    let more : length c.put_ops.new.ops.items ≡ length ops + c.args.script.now.n = ap length c.put_ops.ensures.items ∙ (length-append ops c.args.script.now.ops ∙ ap (λ n. length ops + n) c.put_ops.ensures.count) in
    let long : length c.push_reserved.new.self.items ≡ length heads + 1 = ap length c.push_reserved.ensures.items ∙ length-append heads (new_head c ∷ []) in
    let few = c.requires.few in
    record {
      all = rw (c.push_reserved.ensures.items) (heads_more (length ops) (length c.put_ops.new.ops.items) heads (new_head c) c.self.invariant.all (begins c) (omega (arith, more)) (omega (arith, more, few)));
      few = omega (arith, more, long, few, c.self.invariant.few);
      most = c.self.invariant.most;
      op_room = omega (arith, c.put_ops.ensures.room, c.self.invariant.op_room, more, long, few, c.requires.room);
      head_room = omega (arith, c.push_reserved.ensures.capacity, c.self.invariant.head_room);
    }

pub returns-clause-entries : goal.returns-clause-entries
returns-clause-entries c =
    rw (c.push_reserved.ensures.items, c.put_ops.ensures.items, ← c.self.view_is)
    (entries_more c.self.inside.ops.items c.self.inside.heads.items (new_head c) c.args.script.now c.self.invariant.all c.put_ops.ensures.count (begins c))

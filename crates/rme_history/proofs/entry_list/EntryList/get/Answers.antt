use Rattle.std.proofs.Common.{rules, ◌≡◌, ap, sym, ◌∙◌, subst, List, None, Some, length, slice_get}
use Rattle.std.proofs.lemmas.Option.{slice_get_past, slice_get_read}
use Rattle.std.proofs.lemmas.Bool.{ltb-false, ltb-true}
use Rattle.rme_script.specs.declared.op.Op.{Op}
use Rattle.rme_history.specs.EntryLists.{AreEntryOps, entry_up_to}
use Rattle.rme_history.proofs.Listings.{finds_entry_by, no_entry}
use Rattle.rme_history.proofs.entry_list.EntryList.get.Goals as goal

pub returns-in_default : goal.returns-in_default
returns-in_default c =
    let past : slice_get c.self.inside.heads.items c.args.at ≡ None = search (rules, ltb-false, slice_get_past) in
    rw (← c.self.view_is) (sym (no_entry c.self.inside.ops.items c.self.inside.heads.items c.args.at past))

pub entry_of-requires : goal.entry_of-requires
entry_of-requires c =
    let there : slice_get c.self.inside.heads.items c.args.at ≡ Some c.in-Some.head.now = search (rules, ltb-true, slice_get_read) in
    let many : c.len.result ≡ length c.self.inside.ops.items = search rules in
    let found = finds_entry_by c.self.invariant.all there c.deref-2.ensures.value many c.end_of-end.ensures in
    subst (λ (ops : List Op). AreEntryOps (length ops) c.in-Some.head.now.start c.end_of-end.result) (sym c.deref-3.ensures.value) found.are

pub returns : goal.returns
returns c =
    let same : c.entry_of.result ≡ entry_up_to c.self.inside.ops.items c.in-Some.head.now c.end_of-end.result =
    subst (λ (ops : List Op). c.entry_of.result ≡ entry_up_to ops c.in-Some.head.now c.end_of-end.result) c.deref-3.ensures.value c.entry_of.ensures in
    let there : slice_get c.self.inside.heads.items c.args.at ≡ Some c.in-Some.head.now = search (rules, ltb-true, slice_get_read) in
    let many : c.len.result ≡ length c.self.inside.ops.items = search rules in
    let found = finds_entry_by c.self.invariant.all there c.deref-2.ensures.value many c.end_of-end.ensures in
    rw (← c.self.view_is) (ap Some same ∙ sym found.entry)

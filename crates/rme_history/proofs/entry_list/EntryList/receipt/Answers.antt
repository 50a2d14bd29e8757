use Rattle.std.proofs.Common.{rules, ◌≡◌, refl, None, Some, slice_get}
use Rattle.std.proofs.lemmas.Option.{slice_get_past, slice_get_read}
use Rattle.std.proofs.lemmas.Bool.{ltb-false, ltb-true}
use Rattle.rme_history.proofs.Listings.{entry_there, no_entry}
use Rattle.rme_history.proofs.entry_list.EntryList.receipt.Goals as goal

pub returns-in_default : goal.returns-in_default
returns-in_default c =
    let past : slice_get c.self.inside.heads.items c.args.at ≡ None = search (rules, ltb-false, slice_get_past) in
    rw (← c.self.view_is, no_entry c.self.inside.ops.items c.self.inside.heads.items c.args.at past) refl

pub returns : goal.returns
returns c =
    let there : slice_get c.self.inside.heads.items c.args.at ≡ Some c.in-Some.head.now = search (rules, ltb-true, slice_get_read) in
    rw (← c.self.view_is, entry_there c.self.inside.ops.items c.self.inside.heads.items c.args.at c.in-Some.head.now there) refl

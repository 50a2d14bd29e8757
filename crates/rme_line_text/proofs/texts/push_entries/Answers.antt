use Rattle.std.proofs.Common.{string_bytes, sym, ◌∙◌}
use Rattle.rme_line_text.specs.Texts.{entry_text}
use Rattle.rme_script.proofs.Lists.{drop_at}
use Rattle.rme_line_text.proofs.TextLemmas.{separates_next}
use Rattle.rme_line_text.proofs.texts.push_entries.Goals as goal

pub loop-i-preserved : goal.loop-i-preserved
loop-i-preserved c =
    let here = drop_at c.args.entries.now.entries c.loop-i.i c.in-Some.entry (sym c.get.ensures ∙ c.in-Some.is) in
    let so_far = rw here at c.loop-i.invariant in
    separates_next (entry_text c.args.names.now) (string_bytes c.args.out.now) c.args.entries.now.entries _ _ c.in-Some.entry _ _ _ so_far c.in_ok-push_comma.ensures c.in_ok-push_entry.ensures

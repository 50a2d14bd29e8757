use Rattle.std.proofs.Common.{◌∙◌, ◌++◌, ◌∷◌, [], take, sym, ap, List}
use Rattle.std.proofs.lemmas.List.{append_assoc}
use Rattle.rme_program.specs.declared.note.Entry.{Entry}
use Rattle.rme_script.proofs.Lists.{take_next}
use Rattle.rme_service_steps.proofs.closing.put_all.Goals as goal

pub loop-at-preserved : goal.loop-at-preserved
loop-at-preserved c =
    let before = c.args.history.now.items in
    let next = take_next c.args.entries.now.entries c.loop-at.at c.in-Some.entry (sym c.get.ensures ∙ c.in-Some.is) in (
      c.push_reserved.ensures.items ∙ ap (λ (es : List Entry). es ++ c.in-Some.entry ∷ []) c.loop-at.invariant.0
          ∙ append_assoc before (take c.loop-at.at c.args.entries.now.entries) (c.in-Some.entry ∷ []) ∙ ap (λ (es : List Entry). before ++ es) (sym next),
      c.push_reserved.ensures.capacity ∙ c.loop-at.invariant.1,
    )

use Rattle.std.proofs.Common.{sym, ◌∙◌, arith}
use Rattle.std.proofs.lemmas.Bool.{eqb-true, eqb-false}
use Rattle.rme_wire.proofs.OpeningLemmas.{none_given, too_many, few_given}
use Rattle.rme_wire.proofs.opening.are_lock_names.Goals as goal

pub returns-then-is_empty : goal.returns-then-is_empty
returns-then-is_empty c = sym (none_given c.args.texts.now (eqb-true _ _ (sym c.if-is_empty.ensures)))

pub returns-then-texts : goal.returns-then-texts
returns-then-texts c = sym (too_many c.args.texts.now (omega arith))

pub returns : goal.returns
returns c = c.are_new_names.ensures ∙ sym (few_given c.args.texts.now (omega (arith, eqb-false _ _ (sym c.if-is_empty.ensures))) (omega arith))

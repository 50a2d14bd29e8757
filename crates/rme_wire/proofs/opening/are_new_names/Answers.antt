use Rattle.std.proofs.Common.{sym, ◌∙◌, arith}
use Rattle.std.proofs.lemmas.List.{drop_all}
use Rattle.rme_wire.proofs.OpeningLemmas.{no_name, stands_twice, new_name, none_more}
use Rattle.rme_wire.proofs.opening.are_new_names.Goals as goal

pub returns-then-not-is_name : goal.returns-then-not-is_name
returns-then-not-is_name c =
    let named = let e = c.if-not-is_name.ensures in rw c.as_str.ensures.value at e in
    sym (no_name c.args.texts.now c.loop-index.index c.index-texts-index.result (omega arith) c.index-texts-index.is (sym named)) ∙ c.loop-index.invariant

pub returns-then-is_among : goal.returns-then-is_among
returns-then-is_among c =
    let named = let e = c.if-not-is_name.ensures in rw c.as_str.ensures.value at e in
    let twice = let e = c.if-is_among.ensures in rw c.as_str-in-loop-index.ensures.value at e in
    sym (stands_twice c.args.texts.now c.loop-index.index c.index-texts-index.result (omega arith) c.index-texts-index.is (sym named) (sym twice)) ∙ c.loop-index.invariant

pub loop-index-preserved : goal.loop-index-preserved
loop-index-preserved c =
    let named = let e = c.if-not-is_name.ensures in rw c.as_str.ensures.value at e in
    let once = let e = c.if-is_among.ensures in rw c.as_str-in-loop-index.ensures.value at e in
    sym (new_name c.args.texts.now c.loop-index.index c.index-texts-index.result (omega arith) c.index-texts-index.is (sym named) (sym once)) ∙ c.loop-index.invariant

pub returns : goal.returns
returns c =
    let none_left = drop_all c.loop-index.index c.args.texts.now (omega arith) in
    let all = rw none_left at c.loop-index.invariant in sym (none_more _) ∙ all

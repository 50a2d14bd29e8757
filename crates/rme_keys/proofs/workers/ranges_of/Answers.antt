use Rattle.std.proofs.Common.{ℕ, ◌+◌, List, Bor, get_or, drop, subst, arith}
use Rattle.std.proofs.lemmas.List.{drop_all}
use Rattle.rme_keys.specs.Workers.{IsRangeText}
use Rattle.rme_keys.proofs.InTurn.{ReadSoFar, all_read, blank, bytes_of, bytes_of-drop, one_more, stuck}
use Rattle.rme_keys.proofs.workers.ranges_of.Goals as goal

pub returns-in_default : goal.returns-in_default
returns-in_default c =
    let texts = c.args.texts.now in
    let i = c.loop-text.text-index in
    let done = c.loop-text.ranges.items in
    let so = subst (λ (rest : List (List ℕ)). ReadSoFar IsRangeText (bytes_of texts) done rest) (bytes_of-drop texts i blank (omega arith)) c.loop-text.invariant in
    stuck IsRangeText (bytes_of texts) done (get_or texts i blank).now (bytes_of (drop (i + 1) texts)) so c.in_default.ensures

pub loop-text-preserved : goal.loop-text-preserved
loop-text-preserved c =
    let texts = c.args.texts.now in
    let i = c.loop-text.text-index in
    let done = c.loop-text.ranges.items in
    let so = subst (λ (rest : List (List ℕ)). ReadSoFar IsRangeText (bytes_of texts) done rest) (bytes_of-drop texts i blank (omega arith)) c.loop-text.invariant in
    one_more IsRangeText (bytes_of texts) done c.push.new.self.items (get_or texts i blank).now (bytes_of (drop (i + 1) texts)) c.in-Some.range so c.in-Some.ensures c.in_ok-push.ensures.items

pub returns : goal.returns
returns c =
    let texts = c.args.texts.now in
    let done = c.loop-text.ranges.items in
    let so = subst (λ (rest : List (Bor (List ℕ))). ReadSoFar IsRangeText (bytes_of texts) done (bytes_of rest)) (drop_all c.loop-text.text-index texts (omega arith)) c.loop-text.invariant in
    all_read IsRangeText (bytes_of texts) done so

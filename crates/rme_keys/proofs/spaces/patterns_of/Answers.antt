use Rattle.std.proofs.Common.{ℕ, ◌+◌, List, Bor, Option, get_or, drop, subst, arith}
use Rattle.std.proofs.lemmas.List.{drop_all}
use Rattle.rme_keys.specs.Finding.{Finds}
use Rattle.rme_keys.specs.Spaces.{IsPatternText}
use Rattle.rme_keys.specs.declared.spaces.SpacePattern.{SpacePattern}
use Rattle.rme_keys.proofs.InTurn.{ReadSoFar, all_read, blank, bytes_of, bytes_of-drop, one_more, stuck}
use Rattle.rme_keys.proofs.spaces.patterns_of.Goals as goal

pub returns-in_default : goal.returns-in_default
returns-in_default c =
    let texts = c.args.texts.now in
    let i = c.loop-text.text-index in
    let done = c.loop-text.patterns.items in
    let so = subst (λ (rest : List (List ℕ)). ReadSoFar IsPatternText (bytes_of texts) done rest) (bytes_of-drop texts i blank (omega arith)) c.loop-text.invariant in
    let none = subst (λ (found : Option SpacePattern). Finds (IsPatternText (get_or texts i blank).now) found) c.in_default.is c.in_ok-found.ensures in
    stuck IsPatternText (bytes_of texts) done (get_or texts i blank).now (bytes_of (drop (i + 1) texts)) so none

pub loop-text-preserved : goal.loop-text-preserved
loop-text-preserved c =
    let texts = c.args.texts.now in
    let i = c.loop-text.text-index in
    let done = c.loop-text.patterns.items in
    let so = subst (λ (rest : List (List ℕ)). ReadSoFar IsPatternText (bytes_of texts) done rest) (bytes_of-drop texts i blank (omega arith)) c.loop-text.invariant in
    let names = subst (λ (found : Option SpacePattern). Finds (IsPatternText (get_or texts i blank).now) found) c.in-Some.is c.in_ok-found.ensures in
    one_more IsPatternText (bytes_of texts) done c.push.new.self.items (get_or texts i blank).now (bytes_of (drop (i + 1) texts)) c.in-Some.pattern so names c.in_ok-push.ensures.items

pub returns : goal.returns
returns c =
    let texts = c.args.texts.now in
    let done = c.loop-text.patterns.items in
    let so = subst (λ (rest : List (Bor (List ℕ))). ReadSoFar IsPatternText (bytes_of texts) done (bytes_of rest)) (drop_all c.loop-text.text-index texts (omega arith)) c.loop-text.invariant in
    all_read IsPatternText (bytes_of texts) done so

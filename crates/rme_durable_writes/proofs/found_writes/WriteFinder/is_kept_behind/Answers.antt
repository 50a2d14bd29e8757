use Rattle.std.proofs.Common.{suc, refl, sym, ◌∙◌}
use Rattle.std.proofs.lemmas.Bool.{false≢true}
use Rattle.rme_durable_writes.specs.Reading.{IsKeptByFirst}
use Rattle.rme_durable_writes.proofs.Skips.{kept_before, kept_behind, not_kept}
use Rattle.rme_durable_writes.proofs.found_writes.WriteFinder.is_kept_behind.Goals as goal

pub returns-then-branch-2 : goal.returns-then-branch-2
returns-then-branch-2 c =
    let first = (c.in_ok-is_kept_by_first-2.ensures).0 c.if-branch-2.true in
    (λ _. c.loop-behind.invariant.same.1 (kept_before _ _ _ (c.in-Some.ensures).some (0, first)), λ _. refl)

pub loop-behind-preserved : goal.loop-behind-preserved
loop-behind-preserved c =
    let skips = (c.in-Some.ensures).some in
    let not_first : IsKeptByFirst c.in-Some.behind.now (suc c.args.number) → ⊥ = λ first. false≢true (sym c.if-branch-2.false ∙ (c.in_ok-is_kept_by_first-2.ensures).1 first) in
    record {
      same = (
        λ within. kept_behind _ _ _ skips c.loop-behind.invariant.first (c.loop-behind.invariant.same.0 within),
        λ within. c.loop-behind.invariant.same.1 (kept_before _ _ _ skips within),
      );
      first = not_first;
    }

pub returns : goal.returns
returns c = (
  λ no. absurd (false≢true no),
  λ within. absurd (not_kept _ _ (c.in_default.ensures).none c.loop-behind.invariant.first (c.loop-behind.invariant.same.0 within)),
)

use Rattle.std.proofs.Common.{ℕ, arith}
use Rattle.std.proofs.lemmas.Option.{slice_get_within}
use Rattle.rme_core_image_check.specs.LastEntryLists.{EntryMayFollowAt}
use Rattle.rme_core_image_check.proofs.Rising.{up_to}
use Rattle.rme_core_image_check.proofs.last_entry_lists.LastEntries.follow_all.Goals as goal

pub returns-then-not-follow-clause-rise : goal.returns-then-not-follow-clause-rise
returns-then-not-follow-clause-rise c = λ rise. c.if-not-follow.ensures.follows (rise c.loop-i.i)

pub loop-i-preserved : goal.loop-i-preserved
loop-i-preserved c = record {
  rise = up_to (λ (k : ℕ). EntryMayFollowAt c.args.shape c.args.entries.now.entries k) c.loop-i.i c.loop-i.invariant.rise c.if-not-follow.ensures.follows;
  lasts = c.if-not-follow.ensures.lasts;
}

pub returns-clause-rise : goal.returns-clause-rise
returns-clause-rise c = λ i e here. c.loop-i.invariant.rise i (omega (arith, slice_get_within _ i e here, c.loop-i-test.false, c.len-i-end.ensures)) e here
